-- What a node served and has not replied to yet is at most one packet: its reply is the next task,
-- or is kept.
use Rattle.io_law.proofs.Prelude.{◌≡◌, ◌<◌, ℕ, Bool, true, false, eqb, List, [], ◌∷◌, ◌++◌, length, map, Option, Some, None, refl, sym, ap, ap₂, ◌∙◌, subst, arith, append-nil, append_assoc, if◌then◌else◌, AllByRecursion, eqb-true, eqb-false, map-append, get_or-set_same, get_or-set_other, prio_of, Line, Send, Numbered, Item, port_of, room_out, Take, AtNode, all-append, items_taken, gone, IsBlock, seen, Seen, NoRoom, TraceLine, Stepped, Lacked, steps_of, start, set_up_all, bare, IsSetUp, happened, Happened, Io, new_station, station_at, kept_of_node, with_kept, counted_on, answer_at_node, stations_met, IoTask, stations_by, Carry, Ask, Settle, Turn, Reply, Fetch, Finish, reply_line, task_event, task_behind, tasks_of, IoState, left_to_do, with_event, first_of_turn, behind_event, endpoints_of, IoGoes, IoBegins, IoTurns, IoActs, IoEnds, IoComes, Here, Further, io_told, IoSent, served_with, served_behind, served_by, io_served_at, reply_to, sent_behind, io_sent_by, sent_at}
use Rattle.fabric_ports.specs.declared.answers.Happened.TheVariants as Answers
use Rattle.io_law.proofs.Fit.{RestFit, HeadFit, TasksFit, IsFit, none_kept, line_fit, begun_kept, counted_kept, met_kept, fit_comes}
use Rattle.io_law.proofs.Items.{left_one, took_one}
use Rattle.io_law.proofs.Places.{same_line}
use Rattle.io_law.proofs.Taking.{SendsPlain, replies_plain}
use Rattle.io_law.proofs.Tracing.{IsSentTrace, event_legal, sent_comes}

-- ---- what is pending

abbrev pub head_lines : ℕ → List IoTask → List Line
head_lines node (Reply at line ∷ rest) = if eqb at node then line ∷ [] else []
head_lines node _ = []

abbrev pub kept_lines : Option Line → List Line
kept_lines None = []
kept_lines (Some line) = line ∷ []

abbrev pub pending : ℕ → Option Line → List IoTask → List Line
pending node kept tasks = head_lines node tasks ++ kept_lines kept

-- what is to be done later has no reply
rest_none : (node : ℕ) (tasks : List IoTask) → AllByRecursion RestFit tasks
    → head_lines node tasks ≡ []
rest_none node [] all = refl
rest_none node (Carry line ∷ rest) all = refl
rest_none node (Ask at tid line ∷ rest) all = refl
rest_none node (Settle ∷ rest) all = refl
rest_none node (Turn at ∷ rest) all = refl
rest_none node (Reply at line ∷ rest) all = absurd all.0
rest_none node (Fetch at ∷ rest) all = absurd all.0
rest_none node (Finish ∷ rest) all = refl

rest_kept : (node : ℕ) (stations : List _) (tasks : List IoTask)
    → AllByRecursion RestFit tasks
    → pending node (kept_of_node stations node) tasks ≡ kept_lines (kept_of_node stations node)
rest_kept node stations tasks all =
    ap (λ l. l ++ kept_lines (kept_of_node stations node)) (rest_none node tasks all)

-- ---- what one task does

-- What was pending, with what is served, is what is sent and what is pending then.
abbrev Balanced : List Line → List Line → List Line → List Line → Type 0
Balanced old served sent new = old ++ served ≡ sent ++ new

same_pending : (old new : List Line) → old ≡ new → Balanced old [] [] new
same_pending old new is = append-nil old ∙ is

kept_other : (stations : List _) (at : ℕ) (kept : Option Line) (node : ℕ)
    → eqb at node ≡ false
    → kept_of_node (with_kept stations at kept) node ≡ kept_of_node stations node
kept_other stations at kept node other =
    ap (λ x. kept_of_node (x ∷ []) 0)
    (get_or-set_other stations at node (record (station_at stations at) { kept = kept })
    new_station (λ same. eqb-false at node other (sym same)))

kept_own : (stations : List _) (at : ℕ) (kept : Option Line) → at < length stations
    → kept_of_node (with_kept stations at kept) at ≡ kept
kept_own stations at kept within =
    ap (λ x. kept_of_node (x ∷ []) 0)
    (get_or-set_same stations at (record (station_at stations at) { kept = kept }) new_station
    within)

-- the turn of a node
turn_pending : (node at : ℕ) (stations : List _) (kept : Option Line) (rest : List IoTask)
    → kept_of_node stations at ≡ kept
    → pending node (kept_of_node (with_kept stations at None) node) (first_of_turn at kept ∷ rest)
    ≡ kept_lines (kept_of_node stations node)
turn_pending node at stations kept rest is = by (eqb at node) refl kept is
  where
    now : eqb at node ≡ true → kept_lines (kept_of_node (with_kept stations at None) node) ≡ []
    now same = ap kept_lines
        (ap (kept_of_node (with_kept stations at None)) (sym (eqb-true at node same))
        ∙ none_kept stations at _ refl)

    was : eqb at node ≡ true → (kept : Option Line) → kept_of_node stations at ≡ kept
        → kept_lines kept ≡ kept_lines (kept_of_node stations node)
    was same kept is = ap kept_lines (sym is ∙ ap (kept_of_node stations) (eqb-true at node same))

    stays : eqb at node ≡ false
        → kept_lines (kept_of_node (with_kept stations at None) node)
        ≡ kept_lines (kept_of_node stations node)
    stays other = ap kept_lines (kept_other stations at None node other)

    by : (b : Bool) → eqb at node ≡ b → (kept : Option Line) → kept_of_node stations at ≡ kept
        → pending node (kept_of_node (with_kept stations at None) node)
        (first_of_turn at kept ∷ rest)
        ≡ kept_lines (kept_of_node stations node)
    by true same None is = now same ∙ was same None is
    by true same (Some line) is =
        ap₂ ◌++◌ (ap (λ b. if b then line ∷ [] else []) same) (now same) ∙ was same (Some line) is
    by false other None is = stays other
    by false other (Some line) is =
        ap₂ ◌++◌ (ap (λ b. if b then line ∷ [] else []) other) (stays other)

-- a reply that was taken
reply_sent : (node at : ℕ) (line : Line) (stations : List _) (rest : List IoTask)
    (items : List Item) → length items ≡ 1 → kept_of_node stations at ≡ None
    → Balanced (pending node (kept_of_node stations node) (Reply at line ∷ rest)) []
    (map (λ (x : IoSent). x.line) (sent_behind node (Reply at line) items))
    (pending node (kept_of_node stations node) (Fetch at ∷ rest))
reply_sent node at line stations rest [] one none = absurd (omega (arith, one))
reply_sent node at line stations rest (item ∷ []) one none = by (eqb at node) refl
  where
    by : (b : Bool) → eqb at node ≡ b
        → ((if b then line ∷ [] else []) ++ kept_lines (kept_of_node stations node)) ++ []
        ≡ map (λ (x : IoSent). x.line)
        (if b then map (λ item. record { line = line; item = item }) (item ∷ []) else [])
        ++ kept_lines (kept_of_node stations node)
    by true same = append-nil _
    by false other = append-nil _
reply_sent node at line stations rest (item ∷ more ∷ items) one none = absurd (omega (arith, one))

-- one without room
reply_waits : (node at : ℕ) (line : Line) (stations : List _) (rest : List IoTask)
    (items : List Item) → items ≡ [] → kept_of_node stations at ≡ None → at < length stations
    → AllByRecursion RestFit rest
    → Balanced (pending node (kept_of_node stations node) (Reply at line ∷ rest)) []
    (map (λ (x : IoSent). x.line) (sent_behind node (Reply at line) items))
    (pending node (kept_of_node (with_kept stations at (Some line)) node) rest)
reply_waits node at line stations rest items nothing none within all =
    by (eqb at node) refl
    ∙ ap (λ l. l ++ pending node (kept_of_node (with_kept stations at (Some line)) node) rest)
    (sym (sends items nothing))
  where
    none_sent : (b : Bool) → map (λ (x : IoSent). x.line)
        (if b then map (λ item. record { line = line; item = item }) [] else []) ≡ []
    none_sent true = refl
    none_sent false = refl

    sends : (items : List Item) → items ≡ []
        → map (λ (x : IoSent). x.line) (sent_behind node (Reply at line) items) ≡ []
    sends [] is = none_sent (eqb at node)
    sends (item ∷ items) is = absurd cc

    by : (b : Bool) → eqb at node ≡ b
        → ((if b then line ∷ [] else []) ++ kept_lines (kept_of_node stations node)) ++ []
        ≡ pending node (kept_of_node (with_kept stations at (Some line)) node) rest
    by true same =
        let it = eqb-true at node same in
        append-nil _
        ∙ ap (λ l. line ∷ l) (ap kept_lines (ap (kept_of_node stations) (sym it) ∙ none))
        ∙ sym (rest_kept node (with_kept stations at (Some line)) rest all
        ∙ ap kept_lines (ap (kept_of_node (with_kept stations at (Some line))) (sym it)
        ∙ kept_own stations at (Some line) within))
    by false other =
        append-nil _
        ∙ sym (rest_kept node (with_kept stations at (Some line)) rest all
        ∙ ap kept_lines (kept_other stations at (Some line) node other))

-- a packet that came
served_lines : (node before : ℕ) (answer : Io) (items : List Item) (packet : List ℕ)
    → map (λ item. item.now) items ≡ packet ∷ []
    → map (reply_to node) (served_with before (Some answer) items)
    ≡ reply_line node packet answer ∷ []
served_lines node before answer [] packet is = absurd cc
served_lines node before answer (item ∷ []) packet is =
    let same : item.now ≡ packet = cc in ap (λ p. reply_line node p answer ∷ []) same
served_lines node before answer (item ∷ more ∷ items) packet is = absurd cc

take_serves : (node before at : ℕ) (packet : List ℕ) (stations : List _)
    (answer : Option Io) (rest : List IoTask) (items : List Item)
    → map (λ item. item.now) items ≡ packet ∷ [] → kept_of_node stations at ≡ None
    → Balanced (kept_lines (kept_of_node stations node))
    (map (reply_to node) (if eqb at node then served_with before answer items else [])) []
    (pending node (kept_of_node (stations_met stations at packet) node)
    (task_behind at packet answer ∷ rest))
take_serves node before at packet stations answer rest items one none = by (eqb at node) refl answer
  where
    kept : kept_lines (kept_of_node (stations_met stations at packet) node)
        ≡ kept_lines (kept_of_node stations node)
    kept = ap kept_lines (met_kept stations at packet node)

    own : at ≡ node → kept_lines (kept_of_node stations node) ≡ []
    own it = ap kept_lines (ap (kept_of_node stations) (sym it) ∙ none)

    by : (b : Bool) → eqb at node ≡ b → (answer : Option Io)
        → kept_lines (kept_of_node stations node)
        ++ map (reply_to node) (if b then served_with before answer items else [])
        ≡ pending node (kept_of_node (stations_met stations at packet) node)
        (task_behind at packet answer ∷ rest)
    by true same None = append-nil _ ∙ sym kept
    by true same (Some io) =
        let it = eqb-true at node same in
        ap₂ ◌++◌ (own it) (served_lines node before io items packet one)
        ∙ ap (λ n. reply_line n packet io ∷ []) (sym it)
        ∙ sym (ap₂ ◌++◌ (ap (λ b. if b then reply_line at packet io ∷ [] else []) same)
        (kept ∙ own it))
    by false other None = append-nil _ ∙ sym kept
    by false other (Some io) =
        append-nil _
        ∙ sym (ap₂ ◌++◌ (ap (λ b. if b then reply_line at packet io ∷ [] else []) other) kept)

-- ---- an event

-- if the packet of a reply was not taken there is none
not_taken : (s : Seen) (block : List TraceLine) (line : Line) → SendsPlain line
    → IsBlock s line block → (happened line block ≡ Answers.Took → ⊥)
    → items_taken s.network (steps_of block) ≡ []
not_taken s block (Send node prio ftype dest hex) plain is other =
    by (room_out s.network (port_of node) (prio_of is.packet)) is.lines
  where
    by : (room : Bool)
        → block
        ≡ (if room then Stepped (AtNode (Take node is.packet)) ∷ [] else Lacked NoRoom ∷ [])
        → items_taken s.network (steps_of block) ≡ []
    by true same = absurd (other (ap (happened (Send node prio ftype dest hex)) same))
    by false same = ap (λ l. items_taken s.network (steps_of l)) same
not_taken s block _ plain is other = absurd plain

-- so it is where the task is one to reply
reply_none : (s : Seen) (block : List TraceLine) (kept : ℕ → Option Line) (count : ℕ)
    (task : IoTask) (line : Line) → HeadFit kept count task → task_event task ≡ Some line
    → IsBlock s line block → (node : ℕ) (own : Line) → task ≡ Reply node own
    → (happened line block ≡ Answers.Took → ⊥) → items_taken s.network (steps_of block) ≡ []
reply_none s block kept count task line fit event is node own same other =
    let own_fit = subst (HeadFit kept count) same fit in
    let own_line = same_line (sym (ap task_event same) ∙ event) in
    not_taken s block line
    (subst SendsPlain own_line (replies_plain node own own_fit.0)) is other

module _ (names : List (List ℕ)) (node before : ℕ) (asked left : List Item) where
  event_pending : (task : IoTask) (what : Happened) (s : IoState)
      → HeadFit (kept_of_node s.stations) (length s.stations) task → AllByRecursion RestFit s.tasks
      → (what ≡ Answers.Took → length asked ≡ 1)
      → ((node : ℕ) (line : Line) → task ≡ Reply node line → (what ≡ Answers.Took → ⊥)
      → asked ≡ [])
      → ((packet : List ℕ) → what ≡ Answers.Left packet
      → map (λ item. item.now) left ≡ packet ∷ [])
      → Balanced (pending node (kept_of_node s.stations node) (task ∷ s.tasks))
      (map (reply_to node) (served_behind node before (answer_at_node s.stations) task what left))
      (map (λ (x : IoSent). x.line) (sent_behind node task asked))
      (pending node (kept_of_node (behind_event names task what s).stations node)
      (behind_event names task what s).tasks)
  event_pending (Carry line) what s head rest one none came =
      same_pending _ _ (sym (rest_kept node s.stations s.tasks rest))
  event_pending (Ask at tid line) Answers.Took s head rest one none came =
      same_pending _ _
      (sym (rest_kept node (counted_on s.stations at tid) s.tasks rest
      ∙ ap kept_lines (counted_kept s.stations at tid node)))
  event_pending (Ask at tid line) _ s head rest one none came =
      same_pending _ _ (sym (rest_kept node s.stations s.tasks rest))
  event_pending Settle what s head rest one none came =
      same_pending _ _ (sym (rest_kept node s.stations s.tasks rest))
  event_pending (Turn at) what s head rest one none came =
      same_pending _ _ (sym (rest_kept node s.stations s.tasks rest))
  event_pending (Reply at line) Answers.Took s head rest one none came =
      reply_sent node at line s.stations s.tasks asked (one refl) head.1
  event_pending (Reply at line) (Answers.Left packet) s head rest one none came =
      reply_waits node at line s.stations s.tasks asked (none at line refl (λ is. absurd cc))
      head.1 head.2 rest
  event_pending (Reply at line) Answers.Answered s head rest one none came =
      reply_waits node at line s.stations s.tasks asked (none at line refl (λ is. absurd cc))
      head.1 head.2 rest
  event_pending (Reply at line) _ s head rest one none came =
      reply_waits node at line s.stations s.tasks asked (none at line refl (λ is. absurd cc))
      head.1 head.2 rest
  event_pending (Fetch at) (Answers.Left packet) s head rest one none came =
      take_serves node before at packet s.stations (answer_at_node s.stations at packet) s.tasks
      left (came packet refl) head
  event_pending (Fetch at) Answers.Answered s head rest one none came = same_pending _ _ refl
  event_pending (Fetch at) _ s head rest one none came =
      same_pending _ _ (sym (rest_kept node s.stations s.tasks rest))
  event_pending Finish what s head rest one none came =
      same_pending _ _ (sym (rest_kept node s.stations s.tasks rest))

-- ---- a task, and all

goes_pending : {names : List (List ℕ)} {script : List Numbered} {s t : IoState} (node before : ℕ)
    (goes : IoGoes names script s t) → IsSetUp (set_up_all bare script)
    → IsSentTrace script s.trace → IsFit s
    → Balanced (pending node (kept_of_node s.stations node) s.tasks)
    (map (reply_to node) (served_by node before goes))
    (map (λ (x : IoSent). x.line) (io_sent_by node goes))
    (pending node (kept_of_node t.stations node) t.tasks)
goes_pending {names} {script} {s} node before (IoBegins line rest is to) set_up own fit =
    let left = subst (TasksFit (kept_of_node s.stations) (length s.stations)) is fit.tasks in
    subst (λ (x : IoState). Balanced (pending node (kept_of_node s.stations node) s.tasks) [] []
    (pending node (kept_of_node x.stations node) x.tasks)) (sym to)
    (subst (λ l. Balanced (pending node (kept_of_node s.stations node) l) [] []
    (pending node (kept_of_node (stations_by line s.stations) node)
    (tasks_of (endpoints_of script) s.stations line ++ rest))) (sym is)
    (same_pending _ _
    (sym (rest_kept node (stations_by line s.stations)
    (tasks_of (endpoints_of script) s.stations line ++ rest)
    (all-append RestFit (tasks_of (endpoints_of script) s.stations line) rest
    (line_fit (endpoints_of script) s.stations line) left.1)
    ∙ ap kept_lines (begun_kept s.stations line node)))))
goes_pending {names} {script} {s} node before (IoTurns at rest is to) set_up own fit =
    subst (λ (x : IoState). Balanced (pending node (kept_of_node s.stations node) s.tasks) [] []
    (pending node (kept_of_node x.stations node) x.tasks)) (sym to)
    (subst (λ l. Balanced (pending node (kept_of_node s.stations node) l) [] []
    (pending node (kept_of_node (with_kept s.stations at None) node)
    (first_of_turn at (kept_of_node s.stations at) ∷ rest))) (sym is)
    (same_pending _ _
    (sym (turn_pending node at s.stations (kept_of_node s.stations at) rest refl))))
goes_pending {names} {script} {s} node before
    (IoActs task rest line block is event block_is sent to) set_up own fit =
    let left = subst (TasksFit (kept_of_node s.stations) (length s.stations)) is fit.tasks in
    let on = with_event (left_to_do s rest) line block in
    let what = happened line block in
    let now = seen (start script) s.trace in
    let asks = items_taken now.network (steps_of block) in
    let came = gone now.network (steps_of block) in
    subst (λ (x : IoState). Balanced (pending node (kept_of_node s.stations node) s.tasks)
    (map (reply_to node) (served_behind node before (answer_at_node s.stations) task what came))
    (map (λ (x : IoSent). x.line) (sent_behind node task asks))
    (pending node (kept_of_node x.stations node) x.tasks)) (sym to)
    (subst (λ l. Balanced (pending node (kept_of_node s.stations node) l)
    (map (reply_to node) (served_behind node before (answer_at_node s.stations) task what came))
    (map (λ (x : IoSent). x.line) (sent_behind node task asks))
    (pending node (kept_of_node (behind_event names task what on).stations node)
    (behind_event names task what on).tasks)) (sym is)
    (event_pending names node before asks came task what on left.0 left.1
    (took_one now line block block_is)
    (reply_none now block (kept_of_node s.stations) (length s.stations) task line left.0 event
    block_is)
    (λ packet gone_is. left_one now line block packet _ block_is gone_is
    (event_legal script s.trace line block set_up own block_is))))
goes_pending {names} {script} {s} node before (IoEnds rest is to) set_up own fit =
    let left = subst (TasksFit (kept_of_node s.stations) (length s.stations)) is fit.tasks in
    subst (λ (x : IoState). Balanced (pending node (kept_of_node s.stations node) s.tasks) [] []
    (pending node (kept_of_node x.stations node) x.tasks)) (sym to)
    (subst (λ l. Balanced (pending node (kept_of_node s.stations node) l) [] []
    (pending node (kept_of_node s.stations node) rest)) (sym is)
    (same_pending _ _ (sym (rest_kept node s.stations rest left.1))))

joins : (m r p n q new : List Line) → m ≡ r ++ p → Balanced p n q new
    → m ++ n ≡ (r ++ q) ++ new
joins m r p n q new is balanced =
    ap (λ l. l ++ n) is ∙ append_assoc r p n ∙ ap (λ l. r ++ l) balanced
    ∙ sym (append_assoc r q new)

pub comes_pending : {names : List (List ℕ)} {script : List Numbered} {first s : IoState}
    (node : ℕ) (comes : IoComes names script first s) → IsSetUp (set_up_all bare script)
    → first.trace ≡ [] → IsFit first
    → [] ≡ pending node (kept_of_node first.stations node) first.tasks
    → map (reply_to node) (io_served_at node comes)
    ≡ map (λ (x : IoSent). x.line) (sent_at node comes)
    ++ pending node (kept_of_node s.stations node) s.tasks
comes_pending node (Here is) set_up none fit nothing =
    nothing
    ∙ sym (ap (λ (x : IoState). pending node (kept_of_node x.stations node) x.tasks) is)
comes_pending {names} {script} {first} {s} node (Further before comes goes) set_up none fit
    nothing =
    map-append (reply_to node) (io_served_at node comes)
    (served_by node (length (io_told comes)) goes)
    ∙ joins (map (reply_to node) (io_served_at node comes))
    (map (λ (x : IoSent). x.line) (sent_at node comes))
    (pending node (kept_of_node before.stations node) before.tasks)
    (map (reply_to node) (served_by node (length (io_told comes)) goes))
    (map (λ (x : IoSent). x.line) (io_sent_by node goes))
    (pending node (kept_of_node s.stations node) s.tasks)
    (comes_pending node comes set_up none fit nothing)
    (goes_pending node (length (io_told comes)) goes set_up (sent_comes set_up none comes)
    (fit_comes comes fit))
    ∙ ap (λ l. l ++ pending node (kept_of_node s.stations node) s.tasks)
    (sym (map-append (λ (x : IoSent). x.line) (sent_at node comes) (io_sent_by node goes)))
