-- What was written of the answer of an ask, and what came of it.
use Rattle.std.proofs.Common.{◌≡◌, ℕ, ◌+◌, List, [], Some, true, false, Result, Ok, Err, IfOk, OnErr, refl, sym, subst}
use Rattle.std.specs.Io.KnownBytes.{Appends}
use Rattle.rio_chars.specs.Written.{Outgoing, Writes}
use Rattle.live_fabric.specs.declared.answers.BrokenOff.{BrokenOff}
use Rattle.live_fabric.specs.declared.asking.AskOutcome.{AskOutcome}
use Rattle.live_fabric.specs.declared.asking.AskOutcome.TheVariants.{Said, Undetected, Refused}
use Rattle.live_fabric.specs.declared.session.Session.{Session}
use Rattle.live_fabric.specs.Asking.{after_ask}
use Rattle.live_fabric.specs.Sessions.{SessionHeld, ask_text, SessionHolds, SessionAnswered, AskAnswered, AskFalls}
use Rattle.live_fabric.proofs.SessionLaws.{ask_answers, breaks_ask}
use Rattle.library_calls.specs.declared.told.RegisterAsk.{RegisterAsk}
use Rattle.library_calls.specs.FabricsSeen.{FabricSeen, FabricHolds, is_fabric_spent}
use Rattle.library_calls.specs.FabricLines.{IsFabricFront, FabricLineCut}
use Rattle.library_calls.specs.FabricAsks.{AskFits, words_of_ask, outcome_numbers, outcome_status, spends_fabric, FabricAsked, FabricAskTold, FabricAskDid, TellsFabricAsk}
use Rattle.library_calls.proofs.TextLaws.{all_told}
use Rattle.library_calls.proofs.FabricLaws.{tells_whole, tells_front, same_text}

-- the line of an ask was answered
session_asked : (held : SessionHeld) (number : ℕ) (words : List ℕ) (out next : Outgoing)
    (session : Session) (outcome : AskOutcome)
    → AskAnswered held number words out next session outcome
    → SessionAnswered held number (ask_text words) out next session (after_ask outcome)
session_asked held number words out next session outcome a = record {
  text = a.text;
  next = a.next;
  answers = ask_answers held number (ask_text words) words a.text a.next outcome refl a.answers;
  told = a.told;
  goes = a.goes;
}

module _ (number : ℕ) (words : List ℕ) (out mid : Outgoing) (before session : Session) where
  abbrev pub AskedFrom : AskOutcome → Type 0
  AskedFrom outcome = (held : SessionHeld) → SessionHolds before held
      → AskAnswered held number words out mid session outcome

  abbrev pub FallsFrom : Type 0
  FallsFrom = (held : SessionHeld) → SessionHolds before held
      → AskFalls held number words out mid

  module _ (held : SessionHeld) (last : Outgoing) (holds : SessionHolds before held)
      (empty : out.waiting ≡ []) (flush : Writes mid last []) where
    -- all of the answer was written
    pub asks_whole : (asked : Result AskOutcome BrokenOff) → IfOk asked AskedFrom
        → OnErr asked FallsFrom → last.failed ≡ false → last.waiting ≡ []
        → TellsFabricAsk held number words asked session out.written last.written
    asks_whole (Ok outcome) ok err fine none =
        let said = ok held holds in (
          said.text,
          record { next = said.next; comes = said.answers; stands = said.goes },
          all_told out mid last said.text empty said.told flush fine none,
        )
    asks_whole (Err broken) ok err fine none =
        tells_whole held number (ask_text words) out mid last before session holds empty flush
        (Err broken) tt
        (λ h stands. breaks_ask h number (ask_text words) out mid words refl (err h stands))
        fine none

    -- a front of it was
    pub asks_front : (asked : Result AskOutcome BrokenOff) → IfOk asked AskedFrom
        → OnErr asked FallsFrom
        → (text : List ℕ) × IsFabricFront held number (ask_text words) text
        × Appends out.written last.written text
    asks_front (Ok outcome) ok err =
        tells_front held number (ask_text words) out mid last before session holds empty flush
        (Ok (after_ask outcome))
        (λ h stands. session_asked h number words out mid session outcome (ok h stands)) tt
    asks_front (Err broken) ok err =
        tells_front held number (ask_text words) out mid last before session holds empty flush
        (Err broken) tt
        (λ h stands. breaks_ask h number (ask_text words) out mid words refl (err h stands))

-- ---- the fabric after an ask

module _ (old new : FabricSeen) (words : List ℕ) (asked : Result AskOutcome BrokenOff)
    (going : is_fabric_spent old ≡ false) (counts : new.number ≡ old.number + 1)
    (told : (held : SessionHeld) → SessionHolds old.session held
    → TellsFabricAsk held (old.number + 1) words asked new.session (Some []) (Some new.text)) where
  pub ask_told : (outcome : AskOutcome) → asked ≡ Ok outcome
      → new.spent ≡ spends_fabric outcome → FabricAskTold old words outcome new
  ask_told outcome is spent_is = record {
    line = record {
      going = going;
      answered = λ held holds.
          let a = at held holds in
          record {
            next = a.next;
            answers =
                ask_answers held (old.number + 1) (ask_text words) words new.text a.next outcome
                refl a.comes;
            stands = a.stands;
          };
      counts = counts;
      spent_is = spent_is;
    };
    asked = at;
  }
    where
      at : (held : SessionHeld) → SessionHolds old.session held
          → FabricAsked held (old.number + 1) words new.text new.session outcome
      at held holds =
          let said = subst (λ (r : Result AskOutcome BrokenOff). TellsFabricAsk held
          (old.number + 1) words r new.session (Some []) (Some new.text)) is (told held holds) in
          subst (λ (t : List ℕ). FabricAsked held (old.number + 1) words t new.session outcome)
          (sym (same_text new.text said.0 said.2)) said.1

  pub ask_cut : (broken : BrokenOff) → asked ≡ Err broken → new.spent ≡ true
      → FabricLineCut old (ask_text words) new
  ask_cut broken is spent_is = record {
    going = going;
    front = λ held holds.
        let said = subst (λ (r : Result AskOutcome BrokenOff). TellsFabricAsk held
        (old.number + 1) words r new.session (Some []) (Some new.text)) is (told held holds) in
        subst (IsFabricFront held (old.number + 1) (ask_text words))
        (sym (same_text new.text said.0 said.2)) said.1;
    counts = counts;
    spent_is = spent_is;
  }

-- the lines that were taken are held still, unless the fabric is spent
pub ask_holds : (old new : FabricSeen) (words : List ℕ) (outcome : AskOutcome) → FabricHolds old
    → old.spent ≡ false → FabricAskTold old words outcome new → FabricHolds new
ask_holds old new words (Said said) holds going told = λ _.
    let held = holds going in
    let a = told.asked held.0 held.1 in (a.next, a.stands)
ask_holds old new words (Refused reason) holds going told = λ _.
    let held = holds going in
    let a = told.asked held.0 held.1 in (a.next, a.stands)
ask_holds old new words Undetected holds going told = λ on. absurd (cc (on, told.line.spent_is))

-- what came of it is told in numbers, and by the status
pub ask_did : (host : List ℕ) (ask : RegisterAsk) (old new : FabricSeen) (outcome : AskOutcome)
    → AskFits host ask → FabricAskTold old (words_of_ask host ask) outcome new
    → FabricAskDid host ask (outcome_numbers outcome) old (outcome_status outcome) new
ask_did host ask old new (Said said) fits told =
    (record { fits = fits; outcome = Said said; line = told; numbers = refl }, refl)
ask_did host ask old new (Refused reason) fits told =
    (record { fits = fits; outcome = Refused reason; line = told; numbers = refl }, refl)
ask_did host ask old new Undetected fits told =
    (record { fits = fits; outcome = Undetected; line = told; numbers = refl }, refl)
