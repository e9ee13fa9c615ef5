-- Lines that are played, one after another.
use Rattle.std.proofs.Common.{◌≡◌, ℕ, ◌-◌, ◌<◌, ◌≤◌, map, Option, List, [], ◌∷◌, ◌++◌, Ok, false, length, length-append, Bool, get_or, take, drop, refl, sym, ap, ◌∙◌, subst, append-nil, append_assoc, arith}
use Rattle.std.specs.Io.KnownBytes.{Consumes}
use Rattle.std.proofs.KnownBytes.{Consumes-trans, Consumes-nil}
use Rattle.std.proofs.lemmas.Grind.{common_steps}
use Rattle.rio_chars.specs.Written.{Outgoing, Writes}
use Rattle.rio_chars.proofs.WrittenLaws.{Writes-nil, Writes-then, Writes-whole}
use Rattle.port_lines.specs.Clocks.{ClockedState}
use Rattle.rio_conform.specs.declared.playing.Failing.{Failing}
use Rattle.rio_conform.specs.declared.playing.Failing.TheVariants as TheFailing
use Rattle.live_lines.specs.declared.status.LiveStatus.{LiveStatus}
use Rattle.port_lines.specs.Lines.{asked_answer}
use Rattle.conform_lines.specs.Stimuli.{stimulus_text}
use Rattle.conform_lines.specs.Tolerances.{JudgeState}
use Rattle.rio_conform.specs.declared.verdict.Verdict.{Verdict}
use Rattle.rio_conform.specs.declared.verdict.Verdict.TheVariants.{Passes, Stopped}
use Rattle.rio_conform.specs.Plays.{Played, PassesAnswer, IsPlayed, ArePlayed, played_none, played_then, VerdictSays, Plays, PlaysRight, WasAsked, AnswerFails, RequestFails, StimulusTold, Fails, failing_verdict}

-- the first of some values, and those behind it
pub front_any : {A : Type 0} (xs : List A) (x : A) → x ≡ get_or xs 0 x → 1 ≤ length xs
    → xs ≡ x ∷ take (length xs - 1) (drop 1 xs)
front_any [] x is some = absurd (omega arith)
front_any (y ∷ xs) x is some =
    let all : take (length (y ∷ xs) - 1) xs ≡ xs = grind (arith, common_steps) in
    ap (λ l. y ∷ l) (sym all) ∙ ap (λ z. z ∷ take (length (y ∷ xs) - 1) xs) (sym is)

-- the text of the first of some values, and those of the others
pub front_text : {A : Type 0} (text : A → List ℕ) (xs : List A) (x : A) (line : List ℕ)
    → x ≡ get_or xs 0 x → 1 ≤ length xs → line ≡ text x
    → map text xs ≡ line ∷ map text (take (length xs - 1) (drop 1 xs))
front_text text xs x line is some same =
    ap (map text) (front_any xs x is some)
    ∙ ap (λ l. l ∷ map text (take (length xs - 1) (drop 1 xs))) (sym same)

-- as many texts as values
length_of : {A : Type 0} (text : A → List ℕ) (xs : List A) → length (map text xs) ≡ length xs
length_of text [] = refl
length_of text (x ∷ xs) = let h = length_of text xs in omega (arith, h)

pub count_of_texts : {A : Type 0} (text : A → List ℕ) (xs ys : List A)
    → length xs - length ys ≡ length (map text xs) - length (map text ys)
count_of_texts text xs ys = omega (arith, length_of text xs, length_of text ys)

pub no_texts : {A : Type 0} (text : A → List ℕ) (xs : List A) → length xs < 1 → map text xs ≡ []
no_texts text [] none = refl
no_texts text (x ∷ xs) none = absurd (omega arith)

abbrev made : ClockedState → JudgeState → List ℕ → List ℕ → Played
made port at asked answers =
    record { port = port; judged = at; asked = asked; answers = answers }

both : (port : ClockedState) (at : JudgeState) (a b c d : List ℕ) → a ≡ b → c ≡ d
    → made port at a c ≡ made port at b d
both port at a b c d same alike =
    ap (λ l. made port at l c) same ∙ ap (λ l. made port at b l) alike

played_then-none : (port : ClockedState) (at : JudgeState) (next : Played)
    → played_then (played_none port at) next
    ≡ played_then next (played_none next.port next.judged)
played_then-none port at next =
    both next.port next.judged next.asked (next.asked ++ []) next.answers (next.answers ++ [])
    (sym (append-nil next.asked)) (sym (append-nil next.answers))

played_then-then : (first mid last : Played)
    → played_then (played_then first mid) last ≡ played_then first (played_then mid last)
played_then-then first mid last =
    both last.port last.judged ((first.asked ++ mid.asked) ++ last.asked)
    (first.asked ++ (mid.asked ++ last.asked)) ((first.answers ++ mid.answers) ++ last.answers)
    (first.answers ++ (mid.answers ++ last.answers))
    (append_assoc first.asked mid.asked last.asked)
    (append_assoc first.answers mid.answers last.answers)

-- a line is played behind others, where these ended
played_at : (strict : Bool) (line : List ℕ) (one other next : Played) → one ≡ other
    → IsPlayed strict one.port one.judged line next
    → IsPlayed strict other.port other.judged line next
played_at strict line one other next is h =
    subst (λ (p : Played). IsPlayed strict p.port p.judged line next) is h

-- a line more is played
pub ArePlayed-more : (strict : Bool) (port : ClockedState) (at : JudgeState)
    (lines : List (List ℕ)) (line : List ℕ) (so_far next : Played)
    → ArePlayed strict port at lines so_far
    → IsPlayed strict so_far.port so_far.judged line next
    → ArePlayed strict port at (lines ++ line ∷ []) (played_then so_far next)
ArePlayed-more strict port at [] line so_far next h k = (
  next,
  played_none next.port next.judged,
  played_at strict line so_far (played_none port at) next h k,
  refl,
  ap (λ (a : Played). played_then a next) h ∙ played_then-none port at next,
)
ArePlayed-more strict port at (other ∷ lines) line so_far next h k = (
  h.0,
  played_then h.1 next,
  h.2,
  ArePlayed-more strict h.0.port h.0.judged lines line h.1 next h.3
      (played_at strict line so_far (played_then h.0 h.1) next h.4 k),
  ap (λ (a : Played). played_then a next) h.4 ∙ played_then-then h.0 h.1 next,
)

-- what was read, with what is read behind it
pub read_on : (left mid last : Option (List ℕ)) (front pending taken more rest : List ℕ)
    → Consumes left mid (front ++ pending) → Consumes mid last taken
    → pending ++ taken ≡ more ++ rest → Consumes left last ((front ++ more) ++ rest)
read_on left mid last front pending taken more rest once again is =
    subst (Consumes left last)
    (append_assoc front pending taken ∙ ap (λ l. front ++ l) is
    ∙ sym (append_assoc front more rest))
    (Consumes-trans left mid last (front ++ pending) taken once again)

-- Some lines were played, their answers passed, and these are left.
pub record SoFar (strict : Bool) (begun out : Outgoing) (port now : ClockedState)
    (at judged : JudgeState) (left left_now : Option (List ℕ)) (pending : List ℕ)
    (lines rest : List (List ℕ)) : Type 0 where
  pub done : List (List ℕ)
  pub played : Played
  pub are_played : ArePlayed strict port at done played
  pub stands : now ≡ played.port
  pub judges : judged ≡ played.judged
  pub lines_are : lines ≡ done ++ rest
  pub told : Writes begun out played.asked
  pub gave : Consumes left left_now (played.answers ++ pending)
  pub same : out.sink ≡ begun.sink

module _ (strict : Bool) (begun : Outgoing) (port : ClockedState) (at : JudgeState)
    (left : Option (List ℕ)) (lines : List (List ℕ)) where
  pub SoFar-begin : (pending : List ℕ) → pending ≡ []
      → SoFar strict begun begun port port at at left left pending lines lines
  SoFar-begin pending none = record {
    done = [];
    played = played_none port at;
    are_played = refl;
    stands = refl;
    judges = refl;
    lines_are = refl;
    told = Writes-nil begun;
    gave = subst (Consumes left left) (sym none) (Consumes-nil left);
    same = refl;
  }

  module _ {out : Outgoing} {now : ClockedState} {judged : JudgeState}
      {left_now : Option (List ℕ)} {pending : List ℕ} {rest : List (List ℕ)} (line : List ℕ)
      (behind : List (List ℕ))
      (h : SoFar strict begun out port now at judged left left_now pending lines rest)
      (split : rest ≡ line ∷ behind) where
    pub goes_on : lines ≡ h.done ++ line ∷ behind
    goes_on = h.lines_are ∙ ap (λ l. h.done ++ l) split

    pub SoFar-more : {next : Outgoing} {after : ClockedState} {judged_next : JudgeState}
        {left_next : Option (List ℕ)} {pending_next : List ℕ}
        → PlaysRight strict line now after judged judged_next out next left_now left_next pending
        pending_next
        → SoFar strict begun next port after at judged_next left left_next pending_next lines
        behind
    SoFar-more {next} {after} {judged_next} {left_next} {pending_next} r = record {
      done = h.done ++ line ∷ [];
      played = played_then h.played r.played;
      are_played =
          ArePlayed-more strict port at h.done line h.played r.played h.are_played
          (subst (λ p. IsPlayed strict p h.played.judged line r.played) h.stands
          (subst (λ j. IsPlayed strict now j line r.played) h.judges r.is));
      stands = r.stands;
      judges = r.judged;
      lines_are = goes_on ∙ sym (append_assoc h.done (line ∷ []) behind);
      told = Writes-then h.played.asked r.played.asked h.told r.told;
      gave =
          read_on left left_now left_next h.played.answers pending r.came.taken r.played.answers
          pending_next h.gave r.came.read r.came.are;
      same = r.told.same ∙ h.same;
    }

    -- so many lines were played before
    number_is : (count : ℕ) → count ≡ length lines - length rest → count ≡ length h.done
    number_is count counted =
        omega (arith, counted, ap length h.lines_are, length-append h.done rest)

    -- what is written then, if this line is told
    was_asked : (next : Outgoing) → begun.waiting ≡ [] → (told : StimulusTold line out next)
        → WasAsked line begun.written next.written h.played.asked
    was_asked next clear told =
        let text = stimulus_text line told.request in
        record {
          request = told.request;
          reads = told.reads;
          wrote =
              Writes-whole begun next (h.played.asked ++ text) clear
              (Writes-then h.played.asked text h.told told.told) told.fine told.empty;
        }

    -- it ends at this line, of which the verdict says this
    plays_to : {verdict : Verdict} {left_next written_next : Option (List ℕ)}
        → VerdictSays strict verdict lines h.done h.played left left_next begun.written written_next
        → Plays strict port at lines verdict left left_next begun.written written_next
    plays_to says = record {
      done = h.done;
      played = h.played;
      are_played = h.are_played;
      says = says;
    }

    -- the scenario ends at this line
    pub SoFar-fails : {left_next : Option (List ℕ)} (next : Outgoing) (pending_next : List ℕ)
        (failing : Failing) (count : ℕ) → begun.waiting ≡ []
        → count ≡ length lines - length rest
        → Fails strict failing line now judged out next left_now left_next pending pending_next
        → Plays strict port at lines (failing_verdict failing count) left left_next
        begun.written next.written
    unfolding was_asked
    SoFar-fails {left_next} next pending_next TheFailing.Differs count clear counted f = plays_to (
      line,
      (behind, goes_on, number_is count counted),
      was_asked next clear f.0,
      record {
        came = f.1.0;
        answer = f.1.1;
        gave = (
          pending_next,
          read_on left left_now left_next h.played.answers pending f.1.2.taken f.1.0
              pending_next h.gave f.1.2.read f.1.2.are,
        );
        wrong = wrong;
      },
    )
      where
        wrong : (next : JudgeState) → ¬ PassesAnswer strict f.0.request
            (asked_answer h.played.port (Ok f.0.request)).text f.1.0 h.played.judged next
        wrong =
            subst (λ p. (next : JudgeState) → ¬ PassesAnswer strict f.0.request
            (asked_answer p (Ok f.0.request)).text f.1.0 h.played.judged next) h.stands
            (subst (λ j. (next : JudgeState) → ¬ PassesAnswer strict f.0.request
            (asked_answer now (Ok f.0.request)).text f.1.0 j next) h.judges f.1.3)
    SoFar-fails {left_next} next pending_next TheFailing.Ended count clear counted f = plays_to (
      line,
      (behind, goes_on, number_is count counted),
      was_asked next clear f.0,
      record {
        at_end = f.1.at_end;
        came = pending ++ f.1.taken;
        gave =
            subst (Consumes left left_next) (append_assoc h.played.answers pending f.1.taken)
            (Consumes-trans left left_now left_next (h.played.answers ++ pending) f.1.taken
            h.gave f.1.read);
        none = f.1.none;
      },
    )
    SoFar-fails {left_next} next pending_next TheFailing.Misspelled count clear counted f =
        plays_to (line, (behind, goes_on, number_is count counted), f)
    SoFar-fails {left_next} next pending_next (TheFailing.Stopped status) count clear counted f =
        plays_to tt

  -- no line is left
  pub SoFar-passes : {out : Outgoing} {now : ClockedState} {left_now : Option (List ℕ)}
      {judged : JudgeState} {pending : List ℕ} {rest : List (List ℕ)}
      → SoFar strict begun out port now at judged left left_now pending lines rest → rest ≡ []
      → begun.waiting ≡ [] → out.failed ≡ false → out.waiting ≡ []
      → Plays strict port at lines Passes left left_now begun.written out.written
  SoFar-passes {out} {now} {left_now} {judged} {pending} h none clear fine empty = record {
    done = h.done;
    played = h.played;
    are_played = h.are_played;
    says = (
      h.lines_are ∙ ap (λ l. h.done ++ l) none ∙ append-nil h.done,
      (pending, h.gave),
      Writes-whole begun out h.played.asked clear h.told fine empty,
    );
  }

-- nothing is known of the device
pub Plays-stopped : (strict : Bool) (port : ClockedState) (at : JudgeState)
    (lines : List (List ℕ)) (status : LiveStatus)
    (left left_after written written_after : Option (List ℕ))
    → Plays strict port at lines (Stopped status) left left_after written written_after
Plays-stopped strict port at lines status left left_after written written_after = record {
  done = [];
  played = played_none port at;
  are_played = refl;
  says = tt;
}

-- a text that was told and flushed
pub told_flushed : (out mid next : Outgoing) (text : List ℕ) → Writes out mid text
    → Writes mid next [] → Writes out next text
told_flushed out mid next text told flushed =
    subst (Writes out next) (append-nil text) (Writes-then text [] told flushed)

module _ (strict : Bool) (line : List ℕ) (port : ClockedState) (at : JudgeState)
    (out out_after : Outgoing) (left left_after : Option (List ℕ)) (pending pending_after : List ℕ)
  where
    -- the answer of a line does not pass
    pub Fails-answer : (failing : Failing) (told : StimulusTold line out out_after)
        → AnswerFails strict failing told.request (asked_answer port (Ok told.request)).text at
        left left_after pending pending_after
        → Fails strict failing line port at out out_after left left_after pending pending_after
    Fails-answer TheFailing.Differs told h = (told, h)
    Fails-answer TheFailing.Ended told h = (told, h)
    Fails-answer TheFailing.Misspelled told h = absurd h
    Fails-answer (TheFailing.Stopped status) told h = tt

    -- a line is not asked
    pub Fails-request : (failing : Failing) → RequestFails failing line
        → Fails strict failing line port at out out_after left left_after pending pending_after
    Fails-request TheFailing.Differs h = absurd h
    Fails-request TheFailing.Ended h = absurd h
    Fails-request TheFailing.Misspelled h = h
    Fails-request (TheFailing.Stopped status) h = tt
