-- How traces end.
use Rattle.fabric_trace.proofs.Prelude.{◌≡◌, ℕ, List, [], ◌∷◌, ◌++◌, Option, Some, None, refl, sym, ap, ◌∙◌, append_assoc, is_event, Line, Numbered, TraceLine, Begun, Ended, Undetected, UndetectedAt, Seen, seen, EndsAs, Whole, EndsNaming, Follows, BlockThen, Names, RunsFrom}
use Rattle.fabric_trace.proofs.Parts.Folding.{seen-append}
use Rattle.fabric_trace.proofs.Rounds.Blocks.{by_test}

-- lines before those that end
ends_behind : (s : Seen) (first rest lines : List TraceLine) → lines ≡ first ++ rest
    → EndsAs (seen s first) rest → EndsAs s lines
ends_behind s first rest lines is (Whole front ends none) =
    Whole (first ++ front)
    (is ∙ ap (λ (l : List TraceLine). first ++ l) ends
    ∙ sym (append_assoc first front (Ended ∷ [])))
    (ap (λ (x : Seen). x.undetected) (seen-append s first front) ∙ none)
ends_behind s first rest lines is (EndsNaming front number found ends some) =
    EndsNaming (first ++ front) number found
    (is ∙ ap (λ (l : List TraceLine). first ++ l) ends
    ∙ sym (append_assoc first front (Undetected number found.port found.event ∷ [])))
    (ap (λ (x : Seen). x.undetected) (seen-append s first front) ∙ some)

follows_end : (t : Seen) (found : Option UndetectedAt) (More : List TraceLine → Type 0) (number : ℕ)
    (rest : List TraceLine) → t.undetected ≡ found
    → (t.undetected ≡ None → More rest → EndsAs t rest) → Follows found More (Names number) rest
    → EndsAs t rest
follows_end t None More number rest is more follows = more is follows
follows_end t (Some found) More number rest is more follows = EndsNaming [] number found follows is

event_ends : (s : Seen) (line : Line) (number : ℕ) (More : Seen → List TraceLine → Type 0)
    (lines : List TraceLine)
    → ((t : Seen) (rest : List TraceLine) → t.undetected ≡ None → More t rest → EndsAs t rest)
    → BlockThen More (Names number) s line lines → EndsAs s lines
event_ends s line number More lines more run =
    let t = seen s (Begun line ∷ run.0) in
    ends_behind s (Begun line ∷ run.0) run.1 lines run.2
    (follows_end t t.undetected (More t) number run.1 refl
    (λ still follows. more t run.1 still follows) run.4)

pub runs_end : (script : List Numbered) (s : Seen) (lines : List TraceLine) → s.undetected ≡ None
    → RunsFrom s script lines → EndsAs s lines
runs_end [] s lines none run = Whole [] run none
runs_end (line ∷ script) s lines none run =
    by_test (is_event line.line)
    (event_ends s line.line line.number (λ t rest. RunsFrom t script rest) lines
    (λ t rest still more. runs_end script t rest still more))
    (λ more. runs_end script s lines none more) run
