-- What the network takes in a run is what nodes asked with and replied, and what leaves came.
use Rattle.io_law.proofs.Prelude.{◌≡◌, ◌<◌, ℕ, Bool, true, false, List, [], ◌∷◌, ◌++◌, length, Option, Some, refl, sym, ap, ap₂, ◌∙◌, subst, arith, append-nil, if◌then◌else◌, AllByRecursion, prio_of, ftype_of-link_form, collected, Collected, Line, Send, Collect, Numbered, Network, port_of, id_of, room_out, Take, Leave, Move, Drop, Answer, Linked, AtNode, ByDevice, after, EndLeft, ended_by, items_taken, gone, all-append, IsBlock, seen, Seen, NoRoom, TraceLine, Begun, Stepped, Signed, Lacked, Ended, Undetected, steps_of, start, set_up_all, bare, face_in, collect_lines, IsSetUp, steps_of-append, legal, happened, kept_of_node, IoTask, Carry, Ask, Settle, Turn, Reply, Fetch, Finish, task_event, IoState, IoGoes, IoBegins, IoTurns, IoActs, IoEnds, IoComes, Here, Further, asked_behind, replied_behind, came_behind, network_at, asked_by, replied_by, came_by, came}
use Rattle.switch_core.specs.declared.endpoint.Collected.TheVariants as Collects
use Rattle.io_law.proofs.Fit.{AsksFit, RepliesFit, HeadFit, TasksFit, IsFit, fit_comes}
use Rattle.io_law.proofs.NoTakes.{OnlyAt, Leaves, Never, rounds_none, collect_none}
use Rattle.io_law.proofs.Places.{same_line}
use Rattle.io_law.proofs.Plain.{TakesPlain, NoAnswers, StayPlain, stay_plain, empty_plain}
use Rattle.io_law.proofs.Tracing.{added, trace_goes, sent_comes, gathered_goes}

-- ---- what is sent

-- the line sends a packet that is no maintenance packet
abbrev pub SendsPlain : Line → Type 0
SendsPlain (Send node prio ftype dest hex) = (prio < 4) × (ftype < 16) × (ftype ≡ 8 → ⊥)
SendsPlain _ = ⊥

pub asks_plain : (node : ℕ) (line : Line) → AsksFit node line → SendsPlain line
asks_plain node (Send at prio ftype dest hex) fit =
    (let one = fit.1 in omega (arith, one), fit.2, fit.4)
asks_plain node _ fit = absurd fit

pub replies_plain : (node : ℕ) (line : Line) → RepliesFit node line → SendsPlain line
replies_plain node (Send at prio ftype dest hex) fit =
    (fit.1, let type = fit.2 in omega (arith, type), λ is. absurd (cc (is, fit.2)))
replies_plain node _ fit = absurd fit

-- what is taken where it has room
module _ (s : Seen) (block : List TraceLine) where
  send_takes : (line : Line) → SendsPlain line → IsBlock s line block
      → AllByRecursion TakesPlain (steps_of block)
  send_takes (Send node prio ftype dest hex) plain is =
      by (room_out s.network (port_of node) (prio_of is.packet)) is.lines
    where
      by : (room : Bool)
          → block
          ≡ (if room then Stepped (AtNode (Take node is.packet)) ∷ [] else Lacked NoRoom ∷ [])
          → AllByRecursion TakesPlain (steps_of block)
      by true same =
          subst (λ l. AllByRecursion TakesPlain (steps_of l)) (sym same) (
            λ response. plain.2 (sym (ftype_of-link_form prio ftype false dest
                (id_of s.network node false) hex is.packet is.form plain.0 plain.1) ∙ response),
            tt,
          )
      by false same = subst (λ l. AllByRecursion TakesPlain (steps_of l)) (sym same) tt
  send_takes _ plain is = absurd plain

  send_leaves : (line : Line) → SendsPlain line → IsBlock s line block
      → gone s.network (steps_of block) ≡ []
  send_leaves (Send node prio ftype dest hex) plain is =
      by (room_out s.network (port_of node) (prio_of is.packet)) is.lines
    where
      by : (room : Bool)
          → block
          ≡ (if room then Stepped (AtNode (Take node is.packet)) ∷ [] else Lacked NoRoom ∷ [])
          → gone s.network (steps_of block) ≡ []
      by true same = ap (λ l. gone s.network (steps_of l)) same
      by false same = ap (λ l. gone s.network (steps_of l)) same
  send_leaves _ plain is = absurd plain

  -- a request that was not taken is none
  send_asks : (node : ℕ) (tid : Option ℕ) (line : Line) → SendsPlain line → IsBlock s line block
      → items_taken s.network (steps_of block)
      ≡ asked_behind (Ask node tid line) (happened line block)
      (items_taken s.network (steps_of block))
  send_asks at tid (Send node prio ftype dest hex) plain is =
      by (room_out s.network (port_of node) (prio_of is.packet)) is.lines
    where
      line : Line
      line = Send node prio ftype dest hex

      Same : List TraceLine → Type 0
      Same l = items_taken s.network (steps_of l)
          ≡ asked_behind (Ask at tid line) (happened line l) (items_taken s.network (steps_of l))

      by : (room : Bool)
          → block
          ≡ (if room then Stepped (AtNode (Take node is.packet)) ∷ [] else Lacked NoRoom ∷ [])
          → Same block
      by true same = subst Same (sym same) refl
      by false same = subst Same (sym same) refl
  send_asks at tid _ plain is = absurd plain

-- ---- where no node takes or no packet leaves

leaves_plain : (lines : List TraceLine) → OnlyAt Leaves lines
    → AllByRecursion TakesPlain (steps_of lines)
leaves_plain [] none = tt
leaves_plain (Stepped (AtNode (Take n packet)) ∷ lines) none = absurd none.0
leaves_plain (Stepped (AtNode (Leave n packet)) ∷ lines) none = (tt, leaves_plain lines none.1)
leaves_plain (Stepped (Linked step) ∷ lines) none = (tt, leaves_plain lines none)
leaves_plain (Stepped (ByDevice step) ∷ lines) none = (tt, leaves_plain lines none)
leaves_plain (Begun line ∷ lines) none = leaves_plain lines none
leaves_plain (Signed sign ∷ lines) none = leaves_plain lines none
leaves_plain (Lacked lack ∷ lines) none = leaves_plain lines none
leaves_plain (Ended ∷ lines) none = leaves_plain lines none
leaves_plain (Undetected number q e ∷ lines) none = leaves_plain lines none

none_gone : (net : Network) (lines : List TraceLine) → OnlyAt Never lines
    → gone net (steps_of lines) ≡ []
none_gone net [] none = refl
none_gone net (Stepped (AtNode step) ∷ lines) none = absurd none.0
none_gone net (Stepped (Linked step) ∷ lines) none = none_gone (after net (Linked step)) lines none
none_gone net (Stepped (ByDevice (Move p q packet)) ∷ lines) none =
    none_gone (after net (ByDevice (Move p q packet))) lines none
none_gone net (Stepped (ByDevice (Drop p packet)) ∷ lines) none =
    none_gone (after net (ByDevice (Drop p packet))) lines none
none_gone net (Stepped (ByDevice (Answer p packet response)) ∷ lines) none =
    none_gone (after net (ByDevice (Answer p packet response))) lines none
none_gone net (Begun line ∷ lines) none = none_gone net lines none
none_gone net (Signed sign ∷ lines) none = none_gone net lines none
none_gone net (Lacked lack ∷ lines) none = none_gone net lines none
none_gone net (Ended ∷ lines) none = none_gone net lines none
none_gone net (Undetected number q e ∷ lines) none = none_gone net lines none

none_taken : (net : Network) (lines : List TraceLine) → OnlyAt Leaves lines
    → NoAnswers (steps_of lines) → items_taken net (steps_of lines) ≡ []
none_taken net [] none plain = refl
none_taken net (Stepped (AtNode (Take n packet)) ∷ lines) none plain = absurd none.0
none_taken net (Stepped (AtNode (Leave n packet)) ∷ lines) none plain =
    none_taken (after net (AtNode (Leave n packet))) lines none.1 plain.1
none_taken net (Stepped (Linked step) ∷ lines) none plain =
    none_taken (after net (Linked step)) lines none plain.1
none_taken net (Stepped (ByDevice (Move p q packet)) ∷ lines) none plain =
    none_taken (after net (ByDevice (Move p q packet))) lines none plain.1
none_taken net (Stepped (ByDevice (Drop p packet)) ∷ lines) none plain =
    none_taken (after net (ByDevice (Drop p packet))) lines none plain.1
none_taken net (Stepped (ByDevice (Answer p packet response)) ∷ lines) none plain =
    absurd (cc (plain.0))
none_taken net (Begun line ∷ lines) none plain = none_taken net lines none plain
none_taken net (Signed sign ∷ lines) none plain = none_taken net lines none plain
none_taken net (Lacked lack ∷ lines) none plain = none_taken net lines none plain
none_taken net (Ended ∷ lines) none plain = none_taken net lines none plain
none_taken net (Undetected number q e ∷ lines) none plain = none_taken net lines none plain

collect_came : (net : Network) (node : ℕ) (what : Collected)
    → gone net (steps_of (collect_lines node what))
    ≡ came_behind (Fetch node) (happened (Collect node) (collect_lines node what))
    (gone net (steps_of (collect_lines node what)))
collect_came net node (Collects.Left packet) = refl
collect_came net node (Collects.Answered request response) = refl
collect_came net node Collects.Empty = refl
collect_came net node Collects.Full = refl

-- ---- one task

module _ (s : Seen) (block : List TraceLine) (kept : ℕ → Option Line) (count : ℕ)
  where
    task_takes : (task : IoTask) (line : Line) → HeadFit kept count task
        → task_event task ≡ Some line
        → IsBlock s line block → AllByRecursion TakesPlain (steps_of block)
    task_takes (Ask node tid own) line fit event is =
        send_takes s block own (asks_plain node own fit)
        (subst (λ l. IsBlock s l block) (sym (same_line event)) is)
    task_takes (Reply node own) line fit event is =
        send_takes s block own (replies_plain node own fit.0)
        (subst (λ l. IsBlock s l block) (sym (same_line event)) is)
    task_takes Settle line fit event is =
        leaves_plain block (rounds_none Leaves 1 s block
        (subst (λ l. IsBlock s l block) (sym (same_line event)) is))
    task_takes (Fetch node) line fit event is =
        let one = subst (λ l. IsBlock s l block) (sym (same_line event)) is in
        leaves_plain block (subst (OnlyAt Leaves) (sym one.lines)
        (collect_none node (collected one.device (face_in s.network (port_of node)))))
    task_takes (Carry own) line fit event is = absurd cc
    task_takes (Turn node) line fit event is = absurd cc
    task_takes Finish line fit event is = absurd cc

    task_gone : (task : IoTask) (line : Line) → HeadFit kept count task
        → task_event task ≡ Some line
        → IsBlock s line block
        → gone s.network (steps_of block)
        ≡ came_behind task (happened line block) (gone s.network (steps_of block))
    task_gone (Ask node tid own) line fit event is =
        send_leaves s block own (asks_plain node own fit)
        (subst (λ l. IsBlock s l block) (sym (same_line event)) is)
    task_gone (Reply node own) line fit event is =
        send_leaves s block own (replies_plain node own fit.0)
        (subst (λ l. IsBlock s l block) (sym (same_line event)) is)
    task_gone Settle line fit event is =
        none_gone s.network block (rounds_none Never 1 s block
        (subst (λ l. IsBlock s l block) (sym (same_line event)) is))
    task_gone (Fetch node) line fit event is =
        let one = subst (λ l. IsBlock s l block) (sym (same_line event)) is in
        subst (λ l. gone s.network (steps_of block)
        ≡ came_behind (Fetch node) (happened l block) (gone s.network (steps_of block)))
        (same_line event)
        (subst (λ b. gone s.network (steps_of b)
        ≡ came_behind (Fetch node) (happened (Collect node) b) (gone s.network (steps_of b)))
        (sym one.lines)
        (collect_came s.network node (collected one.device (face_in s.network (port_of node)))))
    task_gone (Carry own) line fit event is = absurd cc
    task_gone (Turn node) line fit event is = absurd cc
    task_gone Finish line fit event is = absurd cc

    task_taken : (task : IoTask) (line : Line) → HeadFit kept count task
        → task_event task ≡ Some line
        → IsBlock s line block → NoAnswers (steps_of block)
        → items_taken s.network (steps_of block)
        ≡ asked_behind task (happened line block) (items_taken s.network (steps_of block))
        ++ replied_behind task (items_taken s.network (steps_of block))
    task_taken (Ask node tid own) line fit event is plain =
        let it = subst (λ l. IsBlock s l block) (sym (same_line event)) is in
        subst (λ l. items_taken s.network (steps_of block)
        ≡ asked_behind (Ask node tid own) (happened l block)
        (items_taken s.network (steps_of block)))
        (same_line event) (send_asks s block node tid own (asks_plain node own fit) it)
        ∙ sym (append-nil (asked_behind (Ask node tid own) (happened line block)
        (items_taken s.network (steps_of block))))
    task_taken (Reply node own) line fit event is plain = refl
    task_taken Settle line fit event is plain =
        none_taken s.network block (rounds_none Leaves 1 s block
        (subst (λ l. IsBlock s l block) (sym (same_line event)) is)) plain
    task_taken (Fetch node) line fit event is plain =
        let one = subst (λ l. IsBlock s l block) (sym (same_line event)) is in
        none_taken s.network block (subst (OnlyAt Leaves) (sym one.lines)
        (collect_none node (collected one.device (face_in s.network (port_of node))))) plain
    task_taken (Carry own) line fit event is plain = absurd cc
    task_taken (Turn node) line fit event is plain = absurd cc
    task_taken Finish line fit event is plain = absurd cc

-- ---- all tasks

goes_takes : {names : List (List ℕ)} {script : List Numbered} {s t : IoState}
    (goes : IoGoes names script s t) → IsFit s → AllByRecursion TakesPlain (steps_of (added goes))
goes_takes (IoBegins line rest is to) fit = tt
goes_takes (IoTurns node rest is to) fit = tt
goes_takes {names} {script} {s} (IoActs task rest line block is event block_is sent to) fit =
    task_takes (seen (start script) s.trace) block (kept_of_node s.stations) (length s.stations)
    task line
    (subst (TasksFit (kept_of_node s.stations) (length s.stations)) is fit.tasks).0 event block_is
goes_takes (IoEnds rest is to) fit = tt

comes_takes : {names : List (List ℕ)} {script : List Numbered} {first s : IoState}
    (comes : IoComes names script first s) → first.trace ≡ [] → IsFit first
    → AllByRecursion TakesPlain (steps_of s.trace)
comes_takes (Here is) none fit =
    subst (λ l. AllByRecursion TakesPlain (steps_of l))
    (sym (ap (λ (x : IoState). x.trace) is ∙ none)) tt
comes_takes (Further before comes goes) none fit =
    subst (AllByRecursion TakesPlain)
    (sym (ap steps_of (trace_goes goes) ∙ steps_of-append before.trace (added goes)))
    (all-append TakesPlain (steps_of before.trace) (steps_of (added goes))
    (comes_takes comes none fit) (goes_takes goes (fit_comes comes fit)))

-- nothing is answered in a run, and it holds no maintenance packet
pub run_plain : {names : List (List ℕ)} {script : List Numbered} {first s : IoState}
    (comes : IoComes names script first s) → IsSetUp (set_up_all bare script)
    → first.trace ≡ [] → IsFit first
    → StayPlain (steps_of s.trace) (network_at script s)
run_plain {names} {script} {first} {s} comes set_up none fit =
    stay_plain (start script).network (steps_of s.trace) _ (comes_takes comes none fit)
    (legal (set_up_all bare script) s.trace set_up (sent_comes set_up none comes).made)
    (empty_plain (set_up_all bare script) set_up.empty)

pub goes_gone : {names : List (List ℕ)} {script : List Numbered} {s t : IoState}
    (goes : IoGoes names script s t) → IsFit s
    → gone (network_at script s) (steps_of (added goes)) ≡ came_by goes
goes_gone (IoBegins line rest is to) fit = refl
goes_gone {names} {script} {s} (IoActs task rest line block is event block_is sent to) fit =
    task_gone (seen (start script) s.trace) block (kept_of_node s.stations) (length s.stations)
    task line
    (subst (TasksFit (kept_of_node s.stations) (length s.stations)) is fit.tasks).0 event block_is
goes_gone _ fit = refl

-- what came is what left
pub comes_gone : {names : List (List ℕ)} {script : List Numbered} {first s : IoState}
    (comes : IoComes names script first s) → first.trace ≡ [] → IsFit first
    → gone (start script).network (steps_of s.trace) ≡ came comes
comes_gone {names} {script} (Here is) none fit =
    ap (λ l. gone (start script).network (steps_of l))
    (ap (λ (x : IoState). x.trace) is ∙ none)
comes_gone (Further before comes goes) none fit =
    gathered_goes (ended_by EndLeft) goes
    ∙ ap₂ ◌++◌ (comes_gone comes none fit) (goes_gone goes (fit_comes comes fit))

-- what a task's steps take is what it asked with and replied
pub goes_taken : {names : List (List ℕ)} {script : List Numbered} {s t : IoState}
    (goes : IoGoes names script s t) → IsFit s → NoAnswers (steps_of (added goes))
    → items_taken (network_at script s) (steps_of (added goes)) ≡ asked_by goes ++ replied_by goes
goes_taken (IoBegins line rest is to) fit plain = refl
goes_taken {names} {script} {s} (IoActs task rest line block is event block_is sent to) fit plain =
    task_taken (seen (start script) s.trace) block (kept_of_node s.stations) (length s.stations)
    task line
    (subst (TasksFit (kept_of_node s.stations) (length s.stations)) is fit.tasks).0 event block_is
    plain
goes_taken _ fit plain = refl
