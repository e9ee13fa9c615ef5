-- In every run what is asked is what the lines of the script ask for, in order.
use Rattle.io_law.proofs.Prelude.{codes, ◌≡◌, ℕ, zero, suc, List, [], ◌∷◌, ◌++◌, length, map, replicate, Option, Some, None, refl, sym, ap, ◌∙◌, subst, append-nil, append_assoc, AllByRecursion, get_or, length-replicate, All-map, All-push, Line, Numbered, Network, Item, items_taken, all_weaker, IsBlock, seen, Seen, TraceLine, steps_of, start, set_up_all, bare, IsSetUp, legal, happened, IoLine, Memory, NRead, NWrite, NWriteR, SWrite, Round, NumberedIo, new_station, next_tid_of, kept_of_node, IoTask, Carry, Ask, Settle, Turn, Reply, Fetch, Finish, task_event, IoState, telling, left_to_do, with_event, begun_line, turned_to, endpoints_of, IoGoes, IoBegins, IoTurns, IoActs, IoEnds, IoComes, Here, Further, IsIoFit, MayCarry, first_state, IoTold, ToldBegun, io_told, told_by, told_behind, and_told, network_at, asked_behind, asked_by, io_asked, IsSentBy, IoAsking, nothing_asked, asking_by, asking_on, begun_in, lines_begun, ask_in, asks_told, AsksAreOfTheirLines}
use Rattle.io_law.proofs.AskTasks.{asking_with, begun_with, asks_with, begins_asking, turns_asking, event_from, ends_asking}
use Rattle.io_law.proofs.Asking.{IsNoAsk, RestAsksNot, head_asks, carried, IsAskOf, CarriesWithin, IsAsking, AskSends}
use Rattle.io_law.proofs.Fit.{HeadFit, TasksFit, IsFit, fit_comes, first_fit}
use Rattle.io_law.proofs.Items.{took_one}
use Rattle.io_law.proofs.Places.{same_line}
use Rattle.io_law.proofs.Plain.{registers_kept}
use Rattle.io_law.proofs.Serving.{sent_from}
use Rattle.io_law.proofs.Taking.{asks_plain, run_plain}
use Rattle.io_law.proofs.Tracing.{sent_comes, fit_set_up}
use Rattle.io_law.proofs.Turning.{send_items}

-- ---- the lines told, with one more

asking_push : (asking : IoAsking) (lines : List IoTold) (line : IoTold)
    → asking_by (asking_on asking lines) line ≡ asking_on asking (lines ++ line ∷ [])
asking_push asking [] line = refl
asking_push asking (first ∷ lines) line = asking_push (asking_by asking first) lines line

asking_and : (lines : List IoTold) (more : Option IoTold)
    → asking_with (asking_on nothing_asked lines) more
    ≡ asking_on nothing_asked (and_told lines more)
asking_and lines None = refl
asking_and lines (Some line) = asking_push nothing_asked lines line

begun_and : (lines : List IoTold) (more : Option IoTold)
    → lines_begun lines ++ begun_with more ≡ lines_begun (and_told lines more)
begun_and lines None = append-nil (lines_begun lines)
begun_and lines (Some line) = push lines
  where
    push : (lines : List IoTold)
        → lines_begun lines ++ begun_in line ≡ lines_begun (lines ++ line ∷ [])
    push [] = sym (append-nil (begun_in line))
    push (first ∷ lines) =
        append_assoc (begun_in first) (lines_begun lines) (begun_in line)
        ∙ ap (λ l. begun_in first ++ l) (push lines)

asks_and : (lines : List IoTold) (more : Option IoTold)
    → asks_told lines ++ asks_with more ≡ asks_told (and_told lines more)
asks_and lines None = append-nil (asks_told lines)
asks_and lines (Some line) = push lines
  where
    push : (lines : List IoTold)
        → asks_told lines ++ ask_in line ≡ asks_told (lines ++ line ∷ [])
    push [] = sym (append-nil (ask_in line))
    push (first ∷ lines) =
        append_assoc (ask_in first) (asks_told lines) (ask_in line)
        ∙ ap (λ l. ask_in first ++ l) (push lines)

-- ---- one task

task_sends : (s : Seen) (block : List TraceLine) (kept : ℕ → Option Line) (count : ℕ)
    (net : Network) (task : IoTask) (line : Line) → s.network.registers ≡ net.registers
    → HeadFit kept count task → task_event task ≡ Some line → IsBlock s line block
    → AskSends net task (items_taken s.network (steps_of block))
task_sends s block kept count net (Ask node tid own) line same fit event is =
    all_weaker (IsSentBy s.network own) (IsSentBy net own)
    (λ x by. sent_from s.network net own x same by) (items_taken s.network (steps_of block))
    (send_items s own block (asks_plain node own fit)
    (subst (λ l. IsBlock s l block) (sym (same_line event)) is))
task_sends s block kept count net (Carry own) line same fit event is = tt
task_sends s block kept count net Settle line same fit event is = tt
task_sends s block kept count net (Turn node) line same fit event is = tt
task_sends s block kept count net (Reply node own) line same fit event is = tt
task_sends s block kept count net (Fetch node) line same fit event is = tt
task_sends s block kept count net Finish line same fit event is = tt

goes_asking : {names : List (List ℕ)} {script : List Numbered} {s t : IoState}
    (all : List IoLine) (count : ℕ) (asking : IoAsking) (begun : List IoLine)
    (named : List (ℕ × Option ℕ)) (items : List Item) (goes : IoGoes names script s t) → IsFit s
    → (network_at script s).registers ≡ (start script).network.registers
    → IsAsking all (start script).network count asking begun named items s s.tasks
    → IsAsking all (start script).network count (asking_with asking (told_by goes))
    (begun ++ begun_with (told_by goes)) (named ++ asks_with (told_by goes))
    (items ++ asked_by goes) t t.tasks
goes_asking {names} {script} {s} all count asking begun named items
    (IoBegins line rest is to) fit same was =
    let net = (start script).network in
    subst (λ (x : IoState). IsAsking all net count (asking_by asking (ToldBegun line))
    (begun ++ line ∷ []) (named ++ []) (items ++ []) x x.tasks) (sym to)
    (begins_asking all net count asking begun named items (endpoints_of script) s
    (begun_line names (endpoints_of script) line (left_to_do s rest)) line rest refl
    (subst (IsAsking all net count asking begun named items s) is was))
goes_asking {names} {script} {s} all count asking begun named items
    (IoTurns node rest is to) fit same was =
    let net = (start script).network in
    subst (λ (x : IoState). IsAsking all net count asking (begun ++ []) (named ++ []) (items ++ [])
    x x.tasks) (sym to)
    (turns_asking all net count asking begun named items s
    (turned_to node (kept_of_node s.stations node) (left_to_do s rest)) node
    (kept_of_node s.stations node) rest refl
    (subst (IsAsking all net count asking begun named items s) is was))
goes_asking {names} {script} {s} all count asking begun named items
    (IoActs task rest line block is event block_is sent to) fit same was =
    let net = (start script).network in
    let what = happened line block in
    let more = told_behind s task what in
    let taken = items_taken (network_at script s) (steps_of block) in
    subst (λ (x : IoState). IsAsking all net count (asking_with asking more)
    (begun ++ begun_with more) (named ++ asks_with more) (items ++ asked_behind task what taken)
    x x.tasks) (sym to)
    (event_from all net count asking begun named items names task line what taken s
    (with_event (left_to_do s rest) line block) refl
    (subst (IsAsking all net count asking begun named items s) is was) event
    (took_one (seen (start script) s.trace) line block block_is)
    (task_sends (seen (start script) s.trace) block (kept_of_node s.stations) (length s.stations)
    net task line same
    (subst (TasksFit (kept_of_node s.stations) (length s.stations)) is fit.tasks).0 event
    block_is))
goes_asking {names} {script} {s} all count asking begun named items (IoEnds rest is to) fit
    same was =
    let net = (start script).network in
    subst (λ (x : IoState). IsAsking all net count asking (begun ++ []) (named ++ []) (items ++ [])
    x x.tasks) (sym to)
    (ends_asking all net count asking begun named items s
    (telling (left_to_do s rest) (codes "end")) rest refl
    (subst (IsAsking all net count asking begun named items s) is was))

-- ---- all tasks

comes_asking : {names : List (List ℕ)} {script : List Numbered} {first s : IoState}
    (all : List IoLine) (count : ℕ) (comes : IoComes names script first s)
    → IsSetUp (set_up_all bare script) → first.trace ≡ [] → IsFit first
    → IsAsking all (start script).network count nothing_asked [] [] [] first first.tasks
    → IsAsking all (start script).network count (asking_on nothing_asked (io_told comes))
    (lines_begun (io_told comes)) (asks_told (io_told comes)) (io_asked comes) s s.tasks
comes_asking {names} {script} all count (Here is) set_up none fit was =
    subst (λ (x : IoState). IsAsking all (start script).network count nothing_asked [] [] []
    x x.tasks) (sym is) was
comes_asking {names} {script} {first} {s} all count (Further before comes goes) set_up none fit
    was =
    let net = (start script).network in
    let old = io_told comes in
    let more = told_by goes in
    let items = io_asked comes ++ asked_by goes in
    let same = registers_kept net (steps_of before.trace) _ (run_plain comes set_up none fit).none
    (legal (set_up_all bare script) before.trace set_up (sent_comes set_up none comes).made) in
    subst (λ (x : IoAsking). IsAsking all net count x (lines_begun (and_told old more))
    (asks_told (and_told old more)) items s s.tasks) (asking_and old more)
    (subst (λ (l : List IoLine). IsAsking all net count
    (asking_with (asking_on nothing_asked old) more) l (asks_told (and_told old more)) items
    s s.tasks) (begun_and old more)
    (subst (λ (l : List (ℕ × Option ℕ)). IsAsking all net count
    (asking_with (asking_on nothing_asked old) more) (lines_begun old ++ begun_with more) l items
    s s.tasks) (asks_and old more)
    (goes_asking all count (asking_on nothing_asked old) (lines_begun old) (asks_told old)
    (io_asked comes) goes (fit_comes comes fit) same
    (comes_asking all count comes set_up none fit was))))

-- ---- the first state

ask_of : (names : List (List ℕ)) (net : Network) (line : IoLine) → MayCarry names net line
    → IsAskOf (length names) line
ask_of names net (Memory node bytes) may = tt
ask_of names net (NRead node dest addr size) may = may.0.0
ask_of names net (NWrite node dest addr load) may = may.0.0
ask_of names net (NWriteR node dest addr load) may = may.0.0
ask_of names net (SWrite node dest addr load) may = may.0.0
ask_of names net Round may = tt

none_tid : (count n : ℕ) → next_tid_of (replicate count new_station) n ≡ 0
none_tid zero zero = refl
none_tid zero (suc n) = refl
none_tid (suc count) zero = refl
none_tid (suc count) (suc n) = none_tid count n

abbrev first_tasks : List NumberedIo → List IoTask
first_tasks io = map (λ (x : NumberedIo). Carry x.io) io ++ Finish ∷ []

first_asks_none : (io : List NumberedIo) → AllByRecursion IsNoAsk (first_tasks io)
first_asks_none [] = (tt, tt)
first_asks_none (line ∷ io) = (tt, first_asks_none io)

first_head : (io : List NumberedIo) → head_asks (first_tasks io) ≡ None
first_head [] = refl
first_head (line ∷ io) = refl

first_rest : (io : List NumberedIo) → RestAsksNot (first_tasks io)
first_rest [] = tt
first_rest (line ∷ io) = first_asks_none io

first_carries : (io : List NumberedIo)
    → carried (first_tasks io) ≡ map (λ (x : NumberedIo). x.io) io
first_carries [] = refl
first_carries (line ∷ io) = ap (λ l. line.io ∷ l) (first_carries io)

first_asking : (names : List (List ℕ)) (script : List Numbered) (io : List NumberedIo)
    → IsIoFit names script io
    → IsAsking (map (λ (x : NumberedIo). x.io) io) (start script).network (length names)
    nothing_asked [] [] [] (first_state names io) (first_state names io).tasks
first_asking names script io fit = record {
  long = length-replicate (length names) new_station;
  numbers = none_tid (length names);
  next = first_head io;
  due = tt;
  rest = first_rest io;
  within = All-push (CarriesWithin (length names)) (map (λ (x : NumberedIo). Carry x.io) io) Finish
      (All-map (CarriesWithin (length names)) (λ (x : NumberedIo). Carry x.io) io
      (λ i d within. ask_of names (start script).network (get_or io i d).io
      (fit.may i d within))) tt;
  in_order = first_carries io;
  named_so = refl;
  sent = tt;
}

pub asks_are_of_lines : AsksAreOfTheirLines
asks_are_of_lines names script io s comes fit =
    let set_up = fit_set_up names script io fit in
    let lines = map (λ (x : NumberedIo). x.io) io in
    let end = comes_asking lines (length names) comes set_up refl (first_fit names io)
    (first_asking names script io fit) in
    record {
      in_order = (carried s.tasks, sym end.in_order);
      named = end.named_so;
      sent = end.sent;
    }
