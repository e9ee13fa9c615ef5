-- In every run each node has the memory that the lines told leave there.
use Rattle.io_law.proofs.Prelude.{◌≡◌, ◌<◌, ℕ, zero, suc, List, [], ◌∷◌, ◌++◌, All, length, map, replicate, Option, Some, None, refl, sym, ap, ◌∙◌, subst, get_or, length-set, length-replicate, All-cons, All-head, All-tail, All-append, All-map, All-push, Numbered, Network, start, happened, Happened, Io, IoLine, Memory, NRead, NWrite, NWriteR, SWrite, Round, NumberedIo, new_station, memory_of, kept_of_node, answer_at_node, IoTask, Carry, Ask, Settle, Turn, Reply, Fetch, Finish, tasks_of, stations_by, task_behind, IoState, left_to_do, with_event, first_of_turn, behind_event, endpoints_of, IoGoes, IoBegins, IoTurns, IoActs, IoEnds, IoComes, Here, Further, IsIoFit, MayCarry, first_state, met_length, IoTold, ToldBegun, ToldOver, io_told, told_by, told_behind, and_told, memory_by, memory_on, memory_left, MemoriesAreTold}
use Rattle.fabric_ports.specs.declared.answers.Happened.TheVariants as Answers
use Rattle.io_law.proofs.Memories.{same_memory, put_memory, memory_came}

-- ---- what is to be done names nodes that are kept

-- a `memory` line is of one of so many nodes
abbrev pub IsLineOf : ℕ → IoLine → Type 0
IsLineOf count (Memory node bytes) = node < count
IsLineOf count _ = Unit {0}

abbrev pub IsTaskOf : ℕ → IoTask → Type 0
IsTaskOf count (Carry line) = IsLineOf count line
IsTaskOf count _ = Unit {0}

line_of : (names : List (List ℕ)) (net : Network) (line : IoLine) → MayCarry names net line
    → IsLineOf (length names) line
line_of names net (Memory node bytes) may = may.0
line_of names net (NRead node dest addr size) may = tt
line_of names net (NWrite node dest addr load) may = tt
line_of names net (NWriteR node dest addr load) may = tt
line_of names net (SWrite node dest addr load) may = tt
line_of names net Round may = tt

-- what a line has to be done
line_tasks : (count : ℕ) (endpoints : List ℕ) (stations : List _) (line : IoLine)
    (rest : List IoTask) → All (IsTaskOf count) rest
    → All (IsTaskOf count) (tasks_of endpoints stations line ++ rest)
line_tasks count endpoints stations (Memory node bytes) rest all = all
line_tasks count endpoints stations (NRead node dest addr size) rest all =
    All-cons (IsTaskOf count) _ rest tt all
line_tasks count endpoints stations (NWrite node dest addr load) rest all =
    All-cons (IsTaskOf count) _ rest tt all
line_tasks count endpoints stations (NWriteR node dest addr load) rest all =
    All-cons (IsTaskOf count) _ rest tt all
line_tasks count endpoints stations (SWrite node dest addr load) rest all =
    All-cons (IsTaskOf count) _ rest tt all
line_tasks count endpoints stations Round rest all =
    All-cons (IsTaskOf count) Settle (map Turn endpoints ++ rest) tt
    (All-append (IsTaskOf count) (map Turn endpoints) rest
    (All-map (IsTaskOf count) Turn endpoints (λ i d within. tt)) all)

-- one task more that is no line
one_more : (count : ℕ) (task : IoTask) (rest : List IoTask) → IsTaskOf count task
    → All (IsTaskOf count) rest → All (IsTaskOf count) (task ∷ rest)
one_more count task rest is all = All-cons (IsTaskOf count) task rest is all

reply_task : (count node : ℕ) (packet : List ℕ) (answer : Option Io)
    → IsTaskOf count (task_behind node packet answer)
reply_task count node packet None = tt
reply_task count node packet (Some io) = tt

turn_task : (count node : ℕ) (kept : Option _) → IsTaskOf count (first_of_turn node kept)
turn_task count node None = tt
turn_task count node (Some line) = tt

-- ---- what a state keeps

-- these are the stations and the tasks behind lines told
pub record Keeps (count : ℕ) (lines : List IoTold) (s : IoState) : Type 0 where
  pub tasks : All (IsTaskOf count) s.tasks
  pub long : length s.stations ≡ count
  pub same : (n : ℕ) → memory_of s.stations n ≡ memory_left n lines

-- one line more changes a memory as that line says
abbrev memory_with : ℕ → Option (List ℕ) → Option IoTold → Option (List ℕ)
memory_with n memory None = memory
memory_with n memory (Some line) = memory_by n memory line

on_push : (n : ℕ) (memory : Option (List ℕ)) (lines : List IoTold) (line : IoTold)
    → memory_on n memory (lines ++ line ∷ []) ≡ memory_by n (memory_on n memory lines) line
on_push n memory [] line = refl
on_push n memory (first ∷ lines) line = on_push n (memory_by n memory first) lines line

left_with : (n : ℕ) (lines : List IoTold) (more : Option IoTold)
    → memory_left n (and_told lines more) ≡ memory_with n (memory_left n lines) more
left_with n lines None = refl
left_with n lines (Some line) = on_push n None lines line

-- ---- a line is begun

begun_memory : (stations : List _) (line : IoLine) (n : ℕ)
    → IsLineOf (length stations) line
    → memory_of (stations_by line stations) n ≡ memory_by n (memory_of stations n) (ToldBegun line)
begun_memory stations (Memory node bytes) n within =
    put_memory stations node (replicate bytes 0) n within
begun_memory stations (NRead node dest addr size) n within = refl
begun_memory stations (NWrite node dest addr load) n within = refl
begun_memory stations (NWriteR node dest addr load) n within = refl
begun_memory stations (SWrite node dest addr load) n within = refl
begun_memory stations Round n within = refl

begun_length : (stations : List _) (line : IoLine)
    → length (stations_by line stations) ≡ length stations
begun_length stations (Memory node bytes) = length-set stations node _
begun_length stations (NRead node dest addr size) = refl
begun_length stations (NWrite node dest addr load) = refl
begun_length stations (NWriteR node dest addr load) = refl
begun_length stations (SWrite node dest addr load) = refl
begun_length stations Round = refl

-- ---- an event is carried out

event_memory : (names : List (List ℕ)) (task : IoTask) (what : Happened) (s : IoState) (n : ℕ)
    → memory_of (behind_event names task what s).stations n
    ≡ memory_with n (memory_of s.stations n) (told_behind s task what)
event_memory names (Carry line) what s n = refl
event_memory names (Ask node None line) Answers.Took s n = refl
event_memory names (Ask node (Some tid) line) Answers.Took s n =
    same_memory s.stations node _ n refl
event_memory names (Ask node tid line) _ s n = refl
event_memory names Settle what s n = refl
event_memory names (Turn node) what s n = refl
event_memory names (Reply node line) Answers.Took s n = refl
event_memory names (Reply node line) _ s n = same_memory s.stations node _ n refl
event_memory names (Fetch node) (Answers.Left packet) s n = memory_came s.stations node packet n
event_memory names (Fetch node) Answers.Answered s n = refl
event_memory names (Fetch node) _ s n = refl
event_memory names Finish what s n = refl

event_length : (names : List (List ℕ)) (task : IoTask) (what : Happened) (s : IoState)
    → length (behind_event names task what s).stations ≡ length s.stations
event_length names (Carry line) what s = refl
event_length names (Ask node None line) Answers.Took s = refl
event_length names (Ask node (Some tid) line) Answers.Took s = length-set s.stations node _
event_length names (Ask node tid line) _ s = refl
event_length names Settle what s = refl
event_length names (Turn node) what s = refl
event_length names (Reply node line) Answers.Took s = refl
event_length names (Reply node line) _ s = length-set s.stations node _
event_length names (Fetch node) (Answers.Left packet) s = met_length s.stations node packet
event_length names (Fetch node) Answers.Answered s = refl
event_length names (Fetch node) _ s = refl
event_length names Finish what s = refl

event_tasks : (names : List (List ℕ)) (count : ℕ) (task : IoTask) (what : Happened) (s : IoState)
    → All (IsTaskOf count) s.tasks
    → All (IsTaskOf count) (behind_event names task what s).tasks
event_tasks names count (Carry line) what s all = all
event_tasks names count (Ask node tid line) Answers.Took s all = all
event_tasks names count (Ask node tid line) _ s all = all
event_tasks names count Settle what s all = all
event_tasks names count (Turn node) what s all = all
event_tasks names count (Reply node line) Answers.Took s all =
    one_more count (Fetch node) s.tasks tt all
event_tasks names count (Reply node line) _ s all = all
event_tasks names count (Fetch node) (Answers.Left packet) s all =
    one_more count _ s.tasks
    (reply_task count node packet (answer_at_node s.stations node packet)) all
event_tasks names count (Fetch node) Answers.Answered s all =
    one_more count (Fetch node) s.tasks tt all
event_tasks names count (Fetch node) _ s all = all
event_tasks names count Finish what s all = all

-- ---- one task

behind_goes : {names : List (List ℕ)} {script : List Numbered} {s t : IoState} (count : ℕ)
    (lines : List IoTold) (goes : IoGoes names script s t) → Keeps count lines s
    → Keeps count (and_told lines (told_by goes)) t
behind_goes {names} {script} {s} count lines (IoBegins line rest is to) keeps =
    let all = subst (All (IsTaskOf count)) is keeps.tasks in
    let of = All-head (IsTaskOf count) (Carry line) rest all in
    let within : IsLineOf (length s.stations) line =
    subst (λ c. IsLineOf c line) (sym keeps.long) of in
    subst (Keeps count (lines ++ ToldBegun line ∷ [])) (sym to) (record {
      tasks = line_tasks count (endpoints_of script) s.stations line rest
          (All-tail (IsTaskOf count) (Carry line) rest all);
      long = begun_length s.stations line ∙ keeps.long;
      same = λ n. begun_memory s.stations line n within
          ∙ ap (λ m. memory_by n m (ToldBegun line)) (keeps.same n)
          ∙ sym (left_with n lines (Some (ToldBegun line)));
    })
behind_goes {names} {script} {s} count lines (IoTurns node rest is to) keeps =
    let all = subst (All (IsTaskOf count)) is keeps.tasks in
    subst (Keeps count lines) (sym to) (record {
      tasks = one_more count _ rest (turn_task count node (kept_of_node s.stations node))
          (All-tail (IsTaskOf count) (Turn node) rest all);
      long = length-set s.stations node _ ∙ keeps.long;
      same = λ n. same_memory s.stations node _ n refl ∙ keeps.same n;
    })
behind_goes {names} {script} {s} count lines
    (IoActs task rest line block is event block_is sent to) keeps =
    let all = subst (All (IsTaskOf count)) is keeps.tasks in
    let what = happened line block in
    let on = with_event (left_to_do s rest) line block in
    let more = told_behind s task what in
    subst (Keeps count (and_told lines more)) (sym to) (record {
      tasks = event_tasks names count task what on (All-tail (IsTaskOf count) task rest all);
      long = event_length names task what on ∙ keeps.long;
      same = λ n. event_memory names task what on n
          ∙ ap (λ m. memory_with n m more) (keeps.same n)
          ∙ sym (left_with n lines more);
    })
behind_goes {names} {script} {s} count lines (IoEnds rest is to) keeps =
    let all = subst (All (IsTaskOf count)) is keeps.tasks in
    subst (Keeps count (lines ++ ToldOver ∷ [])) (sym to) (record {
      tasks = All-tail (IsTaskOf count) Finish rest all;
      long = keeps.long;
      same = λ n. keeps.same n ∙ sym (left_with n lines (Some ToldOver));
    })

-- ---- all tasks

pub at_first : (names : List (List ℕ)) (script : List Numbered) (io : List NumberedIo)
    → IsIoFit names script io → Keeps (length names) [] (first_state names io)
at_first names script io fit = record {
  tasks = All-push (IsTaskOf (length names)) (map (λ (x : NumberedIo). Carry x.io) io) Finish
      (All-map (IsTaskOf (length names)) (λ (x : NumberedIo). Carry x.io) io
      (λ i d within. line_of names (start script).network (get_or io i d).io
      (fit.may i d within))) tt;
  long = length-replicate (length names) new_station;
  same = λ n. none (length names) n;
}
  where
    none : (count n : ℕ) → memory_of (replicate count new_station) n ≡ None
    none zero zero = refl
    none zero (suc n) = refl
    none (suc count) zero = refl
    none (suc count) (suc n) = none count n

pub behind_all : {names : List (List ℕ)} {script : List Numbered} {first s : IoState} (count : ℕ)
    → Keeps count [] first → (comes : IoComes names script first s) → Keeps count (io_told comes) s
behind_all count keeps (Here is) = subst (Keeps count []) (sym is) keeps
behind_all count keeps (Further before comes goes) =
    behind_goes count (io_told comes) goes (behind_all count keeps comes)

pub fit_keeps : (names : List (List ℕ)) (script : List Numbered) (io : List NumberedIo)
    (s : IoState) (comes : IoComes names script (first_state names io) s)
    → IsIoFit names script io → Keeps (length names) (io_told comes) s
fit_keeps names script io s comes fit =
    behind_all (length names) (at_first names script io fit) comes

pub memories_told : MemoriesAreTold
memories_told names script io s comes node fit = (fit_keeps names script io s comes fit).same node
