-- A node replies to what it serves, in order, by the memory that the lines before leave.
use Rattle.io_law.proofs.Prelude.{◌≡◌, ◌≤◌, ℕ, Bool, true, false, eqb, List, [], ◌∷◌, ◌++◌, length, map, take, Option, Some, None, refl, sym, ap, ◌∙◌, subst, arith, if◌then◌else◌, slice_get, unwrap_or, option_map, AllByRecursion, take-append_seam, eqb-true, take-append-le, length-append, length-map, body_of, Registers, Line, Send, Numbered, Network, Item, sender_id, items_taken, gone, all-append, all_weaker, IsBlock, seen, Seen, TraceLine, steps_of, start, set_up_all, bare, IsSetUp, legal, happened, Happened, Io, NumberedIo, memory_of, kept_of_node, met_by, answer_by, answer_at_node, IoTask, Carry, Ask, Settle, Turn, Reply, Fetch, Finish, task_event, IoState, IoGoes, IoBegins, IoTurns, IoActs, IoEnds, IoComes, Here, Further, first_state, IoTold, ToldCame, io_told, told_by, told_behind, and_told, memory_left, network_at, IsSentBy, RepliesAnswerServed, Served, IoSent, served_with, served_behind, served_by, io_served_at, reply_to, sent_behind, io_sent_by, sent_at, IsIoServed}
use Rattle.rio_packets.specs.LinkForm.{LinkForm}
use Rattle.fabric_ports.specs.declared.answers.Happened.TheVariants as Answers
use Rattle.io_law.proofs.Fit.{HeadFit, TasksFit, IsFit, fit_comes, first_fit, new_none}
use Rattle.io_law.proofs.Items.{left_one}
use Rattle.io_law.proofs.Keeping.{Keeps, behind_all, at_first}
use Rattle.io_law.proofs.Pending.{head_lines, kept_lines, pending, comes_pending}
use Rattle.io_law.proofs.Places.{same_line, slice_get-append, slice_get-seam, get_below}
use Rattle.io_law.proofs.Plain.{registers_kept}
use Rattle.io_law.proofs.Taking.{replies_plain, run_plain}
use Rattle.io_law.proofs.Tracing.{IsSentTrace, event_legal, sent_comes, fit_set_up}
use Rattle.io_law.proofs.Turning.{send_items}

-- ---- what is served

-- it stays so when more is told
served_on : (lines more : List IoTold) (node : ℕ) (x : Served) → IsIoServed lines node x
    → IsIoServed (lines ++ more) node x
served_on lines more node x is =
    let line = is.line in
    let answer = is.answer in
    let below = get_below lines x.before _ line in
    let same : take x.before (lines ++ more) ≡ take x.before lines =
    take-append-le x.before lines more (omega (arith, below)) in
    record {
      line = slice_get-append lines more x.before _ line
          ∙ ap (λ l. Some (ToldCame node (met_by (memory_left node l) x.item.now))) (sym same);
      answer = ap (λ l. answer_by (memory_left node l) x.item.now) same ∙ answer;
    }

served_and : (lines : List IoTold) (more : Option IoTold) (node : ℕ) (x : Served)
    → IsIoServed lines node x → IsIoServed (and_told lines more) node x
served_and lines None node x is = is
served_and lines (Some line) node x is = served_on lines (line ∷ []) node x is

one_served : (lines : List IoTold) (node : ℕ) (memory : Option (List ℕ)) (item : Item) (answer : Io)
    → memory ≡ memory_left node lines → answer_by memory item.now ≡ Some answer
    → IsIoServed (lines ++ ToldCame node (met_by memory item.now) ∷ []) node
    (record { before = length lines; item = item; answer = answer })
one_served lines node memory item answer is answered =
    let line = ToldCame node (met_by memory item.now) in
    let front = take-append_seam lines (line ∷ []) in
    record {
      line = slice_get-seam lines line []
          ∙ ap (λ m. Some (ToldCame node (met_by m item.now)))
          (is ∙ ap (memory_left node) (sym front));
      answer = ap (λ l. answer_by (memory_left node l) item.now) front
          ∙ ap (λ m. answer_by m item.now) (sym is) ∙ answered;
    }

left_served : (lines : List IoTold) (node at : ℕ) (memory : Option (List ℕ)) (packet : List ℕ)
    (items : List Item) → memory ≡ memory_left at lines
    → map (λ item. item.now) items ≡ packet ∷ []
    → AllByRecursion (IsIoServed (lines ++ ToldCame at (met_by memory packet) ∷ []) node)
    (if eqb at node then served_with (length lines) (answer_by memory packet) items else [])
left_served lines node at memory packet items is one = by (eqb at node) refl
  where
    own : (answer : Option Io) → answer_by memory packet ≡ answer → (items : List Item)
        → map (λ item. item.now) items ≡ packet ∷ []
        → AllByRecursion (IsIoServed (lines ++ ToldCame at (met_by memory packet) ∷ []) at)
        (served_with (length lines) answer items)
    own None answered items one = tt
    own (Some io) answered [] one = absurd cc
    own (Some io) answered (item ∷ []) one =
        let same : item.now ≡ packet = cc in (
          subst (λ p. IsIoServed (lines ++ ToldCame at (met_by memory p) ∷ []) at
              (record { before = length lines; item = item; answer = io })) same
              (one_served lines at memory item io is (ap (answer_by memory) same ∙ answered)),
          tt,
        )
    own (Some io) answered (item ∷ more ∷ items) one = absurd cc

    by : (b : Bool) → eqb at node ≡ b
        → AllByRecursion (IsIoServed (lines ++ ToldCame at (met_by memory packet) ∷ []) node)
        (if b then served_with (length lines) (answer_by memory packet) items else [])
    by true same =
        subst (λ n. AllByRecursion (IsIoServed (lines ++ ToldCame at (met_by memory packet) ∷ []) n)
        (served_with (length lines) (answer_by memory packet) items)) (eqb-true at node same)
        (own (answer_by memory packet) refl items one)
    by false other = tt

event_served : (lines : List IoTold) (node : ℕ) (s : IoState) (task : IoTask) (what : Happened)
    (items : List Item) → ((n : ℕ) → memory_of s.stations n ≡ memory_left n lines)
    → ((packet : List ℕ) → what ≡ Answers.Left packet
    → map (λ item. item.now) items ≡ packet ∷ [])
    → AllByRecursion (IsIoServed (and_told lines (told_behind s task what)) node)
    (served_behind node (length lines) (answer_at_node s.stations) task what items)
event_served lines node s (Fetch at) (Answers.Left packet) items same one =
    left_served lines node at (memory_of s.stations at) packet items (same at) (one packet refl)
event_served lines node s (Fetch at) Answers.Took items same one = tt
event_served lines node s (Fetch at) Answers.Answered items same one = tt
event_served lines node s (Fetch at) _ items same one = tt
event_served lines node s (Ask at tid line) what items same one = tt
event_served lines node s (Carry line) what items same one = tt
event_served lines node s Settle what items same one = tt
event_served lines node s (Turn at) what items same one = tt
event_served lines node s (Reply at line) what items same one = tt
event_served lines node s Finish what items same one = tt

goes_served : {names : List (List ℕ)} {script : List Numbered} {s t : IoState} (node : ℕ)
    (lines : List IoTold) (goes : IoGoes names script s t) → IsSetUp (set_up_all bare script)
    → IsSentTrace script s.trace → ((n : ℕ) → memory_of s.stations n ≡ memory_left n lines)
    → AllByRecursion (IsIoServed (and_told lines (told_by goes)) node)
    (served_by node (length lines) goes)
goes_served node lines (IoBegins line rest is to) set_up own same = tt
goes_served node lines (IoTurns at rest is to) set_up own same = tt
goes_served {names} {script} {s} node lines
    (IoActs task rest line block is event block_is sent to) set_up own same =
    event_served lines node s task (happened line block)
    (gone (network_at script s) (steps_of block)) same
    (λ packet left. left_one (seen (start script) s.trace) line block packet _ block_is left
    (event_legal script s.trace line block set_up own block_is))
goes_served node lines (IoEnds rest is to) set_up own same = tt

pub comes_served : {names : List (List ℕ)} {script : List Numbered} {first s : IoState}
    (count node : ℕ) (comes : IoComes names script first s) → IsSetUp (set_up_all bare script)
    → first.trace ≡ [] → Keeps count [] first
    → AllByRecursion (IsIoServed (io_told comes) node) (io_served_at node comes)
comes_served count node (Here is) set_up none keeps = tt
comes_served count node (Further before comes goes) set_up none keeps =
    let lines = io_told comes in
    all-append (IsIoServed (and_told lines (told_by goes)) node) (io_served_at node comes)
    (served_by node (length lines) goes)
    (all_weaker (IsIoServed lines node) (IsIoServed (and_told lines (told_by goes)) node)
    (λ x is. served_and lines (told_by goes) node x is) (io_served_at node comes)
    (comes_served count node comes set_up none keeps))
    (goes_served node lines goes set_up (sent_comes set_up none comes)
    (behind_all count keeps comes).same)

-- ---- what is sent

-- the ID of a node stands in its registers
pub sent_from : (old net : Network) (line : Line) (item : Item) → old.registers ≡ net.registers
    → IsSentBy old line item → IsSentBy net line item
sent_from old net (Send node prio ftype dest hex) item same is = (
  is.0,
  subst (λ (devices : List Registers). LinkForm (body_of prio ftype false dest
      (unwrap_or (option_map (λ (device : Registers). sender_id device false)
      (slice_get devices node)) 0)
      hex) item.taken) same is.1,
)
sent_from old net _ item same is = absurd is

all_as : (net : Network) (line : Line) (items : List Item)
    → AllByRecursion (IsSentBy net line) items
    → AllByRecursion (λ (x : IoSent). IsSentBy net x.line x.item)
    (map (λ item. record { line = line; item = item }) items)
all_as net line [] all = tt
all_as net line (item ∷ items) all = (all.0, all_as net line items all.1)

task_sent : (s : Seen) (block : List TraceLine) (kept : ℕ → Option Line) (count node : ℕ)
    (net : Network) (task : IoTask) (line : Line) → s.network.registers ≡ net.registers
    → HeadFit kept count task → task_event task ≡ Some line → IsBlock s line block
    → AllByRecursion (λ (x : IoSent). IsSentBy net x.line x.item)
    (sent_behind node task (items_taken s.network (steps_of block)))
task_sent s block kept count node net (Reply at own) line same fit event is = by (eqb at node)
  where
    items : List Item
    items = items_taken s.network (steps_of block)

    all : AllByRecursion (IsSentBy net own) items
    all = all_weaker (IsSentBy s.network own) (IsSentBy net own)
        (λ x by. sent_from s.network net own x same by) items
        (send_items s own block (replies_plain at own fit.0)
        (subst (λ l. IsBlock s l block) (sym (same_line event)) is))

    by : (b : Bool) → AllByRecursion (λ (x : IoSent). IsSentBy net x.line x.item)
        (if b then map (λ item. record { line = own; item = item }) items else [])
    by true = all_as net own items all
    by false = tt
task_sent s block kept count node net (Ask at tid own) line same fit event is = tt
task_sent s block kept count node net _ line same fit event is = tt

goes_sent : {names : List (List ℕ)} {script : List Numbered} {s t : IoState} (node : ℕ)
    (goes : IoGoes names script s t) → IsFit s
    → (network_at script s).registers ≡ (start script).network.registers
    → AllByRecursion (λ (x : IoSent). IsSentBy (start script).network x.line x.item)
    (io_sent_by node goes)
goes_sent node (IoBegins line rest is to) fit same = tt
goes_sent node (IoTurns at rest is to) fit same = tt
goes_sent {names} {script} {s} node (IoActs task rest line block is event block_is sent to) fit
    same =
    task_sent (seen (start script) s.trace) block (kept_of_node s.stations) (length s.stations)
    node (start script).network task line same
    (subst (TasksFit (kept_of_node s.stations) (length s.stations)) is fit.tasks).0 event block_is
goes_sent node (IoEnds rest is to) fit same = tt

pub comes_sent : {names : List (List ℕ)} {script : List Numbered} {first s : IoState} (node : ℕ)
    (comes : IoComes names script first s) → IsSetUp (set_up_all bare script)
    → first.trace ≡ [] → IsFit first
    → AllByRecursion (λ (x : IoSent). IsSentBy (start script).network x.line x.item)
    (sent_at node comes)
comes_sent node (Here is) set_up none fit = tt
comes_sent {names} {script} node (Further before comes goes) set_up none fit =
    all-append (λ (x : IoSent). IsSentBy (start script).network x.line x.item) (sent_at node comes)
    (io_sent_by node goes) (comes_sent node comes set_up none fit)
    (goes_sent node goes (fit_comes comes fit)
    (registers_kept (start script).network (steps_of before.trace) _
    (run_plain comes set_up none fit).none
    (legal (set_up_all bare script) before.trace set_up (sent_comes set_up none comes).made)))

-- ---- the law

kept_few : (kept : Option Line) → length (kept_lines kept) ≤ 1
kept_few None = omega arith
kept_few (Some line) = omega arith

pending_few : (node : ℕ) (kept : ℕ → Option Line) (count : ℕ) (tasks : List IoTask)
    → TasksFit kept count tasks → length (pending node (kept node) tasks) ≤ 1
pending_few node kept count [] fit = kept_few (kept node)
pending_few node kept count (Carry line ∷ rest) fit = kept_few (kept node)
pending_few node kept count (Ask at tid line ∷ rest) fit = kept_few (kept node)
pending_few node kept count (Settle ∷ rest) fit = kept_few (kept node)
pending_few node kept count (Turn at ∷ rest) fit = kept_few (kept node)
pending_few node kept count (Fetch at ∷ rest) fit = kept_few (kept node)
pending_few node kept count (Finish ∷ rest) fit = kept_few (kept node)
pending_few node kept count (Reply at line ∷ rest) fit = by (eqb at node) refl
  where
    by : (b : Bool) → eqb at node ≡ b
        → length ((if b then line ∷ [] else []) ++ kept_lines (kept node)) ≤ 1
    by true same =
        let none = ap (λ k. length (kept_lines k))
        (ap kept (sym (eqb-true at node same)) ∙ fit.0.1) in omega (arith, none)
    by false other = kept_few (kept node)

first_pending : (names : List (List ℕ)) (io : List NumberedIo) (node : ℕ)
    → [] ≡ pending node (kept_of_node (first_state names io).stations node)
    (first_state names io).tasks
first_pending names io node =
    ap kept_lines (sym (new_none (length names) node))
    ∙ ap (λ l. l ++ kept_lines (kept_of_node (first_state names io).stations node))
    (sym (no_head io))
  where
    no_head : (io : List NumberedIo)
        → head_lines node (map (λ (line : NumberedIo). Carry line.io) io ++ Finish ∷ []) ≡ []
    no_head [] = refl
    no_head (line ∷ io) = refl

pub replies_answer : RepliesAnswerServed
replies_answer names script io s comes node fit =
    let set_up = fit_set_up names script io fit in
    let own = first_fit names io in
    let whole = comes_pending node comes set_up refl own (first_pending names io node) in
    let few = pending_few node (kept_of_node s.stations) (length s.stations) s.tasks
    (fit_comes comes own).tasks in
    let served = io_served_at node comes in
    let sent = sent_at node comes in
    let rest = pending node (kept_of_node s.stations node) s.tasks in
    record {
      served = comes_served (length names) node comes set_up refl
          (at_first names script io fit);
      sent = comes_sent node comes set_up refl own;
      in_turn = (rest, whole);
      all_but_one = omega (
        arith,
        few,
        length-map served (reply_to node),
        length-map sent (λ (x : IoSent). x.line),
        ap length whole,
        length-append (map (λ (x : IoSent). x.line) sent) rest,
      );
    }
