-- What is written in a run is the text of what it told.
use Rattle.io_law.proofs.Prelude.{◌≡◌, ℕ, List, [], ◌∷◌, ◌++◌, Option, Some, None, refl, sym, ap, ◌∙◌, append-nil, append_assoc, Numbered, happened, Happened, IoTask, Carry, Ask, Settle, Turn, Reply, Fetch, Finish, IoState, left_to_do, with_event, behind_event, IoGoes, IoBegins, IoTurns, IoActs, IoEnds, IoComes, Here, Further, IoTold, io_told, told_by, told_behind, and_told, told_text, text_told, OutputIsTold}
use Rattle.fabric_ports.specs.declared.answers.Happened.TheVariants as Answers

-- the text of one line, if there is one
abbrev text_of : List (List ℕ) → Option IoTold → List ℕ
text_of names None = []
text_of names (Some line) = told_text names line

text_push : (names : List (List ℕ)) (lines : List IoTold) (line : IoTold)
    → text_told names (lines ++ line ∷ []) ≡ text_told names lines ++ told_text names line
text_push names [] line = append-nil (told_text names line)
text_push names (first ∷ lines) line =
    ap (λ l. told_text names first ++ l) (text_push names lines line)
    ∙ sym (append_assoc (told_text names first) (text_told names lines) (told_text names line))

text_and : (names : List (List ℕ)) (lines : List IoTold) (more : Option IoTold)
    → text_told names (and_told lines more) ≡ text_told names lines ++ text_of names more
text_and names lines None = sym (append-nil (text_told names lines))
text_and names lines (Some line) = text_push names lines line

-- what an event writes
event_text : (names : List (List ℕ)) (first : IoState) (task : IoTask) (what : Happened)
    (s : IoState) → s.stations ≡ first.stations
    → (behind_event names task what s).output
    ≡ s.output ++ text_of names (told_behind first task what)
event_text names first (Carry line) what s same = sym (append-nil s.output)
event_text names first (Ask node tid line) Answers.Took s same = refl
event_text names first (Ask node tid line) _ s same = refl
event_text names first Settle what s same = sym (append-nil s.output)
event_text names first (Turn node) what s same = sym (append-nil s.output)
event_text names first (Reply node line) Answers.Took s same = sym (append-nil s.output)
event_text names first (Reply node line) _ s same = sym (append-nil s.output)
event_text names first (Fetch node) (Answers.Left packet) s same =
    ap (λ l. (behind_event names (Fetch node) (Answers.Left packet)
    (record s { stations = l })).output)
    same
event_text names first (Fetch node) Answers.Answered s same = sym (append-nil s.output)
event_text names first (Fetch node) _ s same = sym (append-nil s.output)
event_text names first Finish what s same = sym (append-nil s.output)

-- what a task writes
goes_text : {names : List (List ℕ)} {script : List Numbered} {s t : IoState}
    (goes : IoGoes names script s t)
    → t.output ≡ s.output ++ text_of names (told_by goes)
goes_text (IoBegins line rest is to) = ap (λ (x : IoState). x.output) to
goes_text {names} {script} {s} (IoTurns node rest is to) =
    ap (λ (x : IoState). x.output) to ∙ sym (append-nil s.output)
goes_text {names} {script} {s} (IoActs task rest line block is event block_is sent to) =
    ap (λ (x : IoState). x.output) to
    ∙ event_text names s task (happened line block)
    (with_event (left_to_do s rest) line block) refl
goes_text (IoEnds rest is to) = ap (λ (x : IoState). x.output) to

comes_text : {names : List (List ℕ)} {script : List Numbered} {first s : IoState}
    → first.output ≡ [] → (comes : IoComes names script first s)
    → s.output ≡ text_told names (io_told comes)
comes_text none (Here is) = ap (λ (x : IoState). x.output) is ∙ none
comes_text {names} none (Further before comes goes) =
    goes_text goes
    ∙ ap (λ l. l ++ text_of names (told_by goes)) (comes_text none comes)
    ∙ sym (text_and names (io_told comes) (told_by goes))

pub output_told : OutputIsTold
output_told names script io s comes = comes_text refl comes
