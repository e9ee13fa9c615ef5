-- What was written of the answer of a line.
use Rattle.std.proofs.Common.{◌≡◌, ◌≢◌, ℕ, ◌+◌, List, [], Option, Some, Bool, true, false, Result, Ok, Err, IfOk, OnErr, inl, inr, sym, ap, ◌∙◌, subst, append-nil, arith}
use Rattle.std.proofs.lemmas.Grind.{common_steps}
use Rattle.std.specs.Io.KnownBytes.{Appends}
use Rattle.rio_chars.specs.Written.{Outgoing, Writes}
use Rattle.live_fabric.specs.declared.answers.AfterLine.{AfterLine}
use Rattle.live_fabric.specs.declared.answers.AfterLine.TheVariants as Goings
use Rattle.live_fabric.specs.declared.answers.BrokenOff.{BrokenOff}
use Rattle.live_fabric.specs.declared.session.Session.{Session}
use Rattle.live_fabric.specs.Sessions.{SessionHeld, LineAnswers, IsSessionFront, SessionHolds, SessionAnswered, SessionBreaks}
use Rattle.library_calls.specs.FabricsSeen.{FabricSeen, FabricHolds, is_fabric_spent}
use Rattle.library_calls.specs.FabricLines.{FabricAnswered, IsFabricFront, FabricLineTold, FabricLineCut, TellsFabricLine}
use Rattle.library_calls.proofs.TextLaws.{front_told, all_told}

-- a fabric by what is seen of it
abbrev pub fabric_seen : Session → ℕ → Bool → List ℕ → FabricSeen
fabric_seen session number spent text = record {
  session = session;
  number = number;
  spent = spent;
  text = text;
}

module _ (held : SessionHeld) (number : ℕ) (line : List ℕ) (out mid last : Outgoing)
    (before session : Session) (holds : SessionHolds before held) (empty : out.waiting ≡ [])
    (flush : Writes mid last []) where
  -- all of the answer was written
  pub tells_whole : (answered : Result AfterLine BrokenOff)
      → IfOk answered (λ goes. (h : SessionHeld) → SessionHolds before h
      → SessionAnswered h number line out mid session goes)
      → OnErr answered ((h : SessionHeld) → SessionHolds before h
      → SessionBreaks h number line out mid)
      → last.failed ≡ false → last.waiting ≡ []
      → TellsFabricLine held number line answered session out.written last.written
  tells_whole (Ok goes) ok err fine none =
      let said = ok held holds in (
        said.text,
        record { next = said.next; answers = said.answers; stands = said.goes },
        all_told out mid last said.text empty said.told flush fine none,
      )
  tells_whole (Err broken) ok err fine none =
      let said = err held holds in (
        said.text,
        ([], inr (subst (IsSessionFront held number line) (sym (append-nil said.text)) said.is)),
        all_told out mid last said.text empty said.told flush fine none,
      )

  -- a front of it was
  pub tells_front : (answered : Result AfterLine BrokenOff)
      → IfOk answered (λ goes. (h : SessionHeld) → SessionHolds before h
      → SessionAnswered h number line out mid session goes)
      → OnErr answered ((h : SessionHeld) → SessionHolds before h
      → SessionBreaks h number line out mid)
      → (text : List ℕ) × IsFabricFront held number line text
      × Appends out.written last.written text
  tells_front (Ok goes) ok err =
      let said = ok held holds in
      let told = front_told out mid last said.text empty said.told flush in (
        told.front,
        (
          told.rest,
          inl (
            said.next,
            subst (λ t. LineAnswers held number line t said.next) told.whole said.answers,
          ),
        ),
        told.told,
      )
  tells_front (Err cause) ok err =
      let said = err held holds in
      let told = front_told out mid last said.text empty said.told flush in (
        told.front,
        (told.rest, inr (subst (IsSessionFront held number line) told.whole said.is)),
        told.told,
      )

-- ---- the fabric behind a line

pub same_text : (items text : List ℕ) → Appends (Some []) (Some items) text → items ≡ text
same_text items text appends = appends

pub line_told : (old new : FabricSeen) (line : List ℕ) (spent : Bool) (goes : AfterLine)
    (answered : Result AfterLine BrokenOff)
    → is_fabric_spent old ≡ false → answered ≡ Ok goes
    → new.number ≡ old.number + 1 → new.spent ≡ spent
    → ((held : SessionHeld) → SessionHolds old.session held
    → TellsFabricLine held (old.number + 1) line answered new.session (Some []) (Some new.text))
    → FabricLineTold old line spent goes new
line_told old new line spent goes answered going is counts spent_is told = record {
  going = going;
  answered = λ held holds.
      let said = subst (λ (r : Result AfterLine BrokenOff). TellsFabricLine held (old.number + 1)
      line r new.session (Some []) (Some new.text)) is (told held holds) in
      subst (λ (t : List ℕ). FabricAnswered held (old.number + 1) line t new.session goes)
      (sym (same_text new.text said.0 said.2)) said.1;
  counts = counts;
  spent_is = spent_is;
}

pub line_cut : (old new : FabricSeen) (line : List ℕ) (answered : Result AfterLine BrokenOff)
    (broken : BrokenOff) → is_fabric_spent old ≡ false → answered ≡ Err broken
    → new.number ≡ old.number + 1 → new.spent ≡ true
    → ((held : SessionHeld) → SessionHolds old.session held
    → TellsFabricLine held (old.number + 1) line answered new.session (Some []) (Some new.text))
    → FabricLineCut old line new
line_cut old new line answered broken going is counts spent_is told = record {
  going = going;
  front = λ held holds.
      let said = subst (λ (r : Result AfterLine BrokenOff). TellsFabricLine held (old.number + 1)
      line r new.session (Some []) (Some new.text)) is (told held holds) in
      subst (IsFabricFront held (old.number + 1) line) (sym (same_text new.text said.0 said.2))
      said.1;
  counts = counts;
  spent_is = spent_is;
}

-- the lines that were taken are held still
pub line_holds : (old new : FabricSeen) (line : List ℕ) → FabricHolds old → old.spent ≡ false
    → FabricLineTold old line false Goings.On new → FabricHolds new
line_holds old new line holds going told = λ _.
    let held = holds going in
    let said = told.answered held.0 held.1 in
    (said.next, said.stands)

-- the same by what was told of a line
pub told_stands : (held : SessionHeld) (number : ℕ) (line : List ℕ)
    (answered : Result AfterLine BrokenOff) (goes : AfterLine) (session : Session)
    (written written_after : Option (List ℕ)) → answered ≡ Ok goes → goes ≡ Goings.On
    → TellsFabricLine held number line answered session written written_after
    → (next : SessionHeld) × SessionHolds session next
told_stands held number line answered goes session written written_after is on told =
    let said = subst (λ (r : Result AfterLine BrokenOff). TellsFabricLine held number line r session
    written written_after) (is ∙ ap (λ (g : AfterLine). Ok g) on) told in
    (said.1.next, said.1.stands)

pub not_spent : (fabric : FabricSeen) → fabric.spent ≡ false → fabric.number ≢ 4294967295
    → is_fabric_spent fabric ≡ false
not_spent fabric going few = grind (arith, common_steps, going, few)
