-- Each line of a packet is of one, and no packet has two of a kind.
use Rattle.io_law.proofs.Prelude.{◌≡◌, ◌≤◌, ◌+◌, ℕ, Bool, true, false, List, [], ◌∷◌, ◌++◌, length, map, Option, Some, None, refl, sym, ap, ◌∙◌, subst, arith, if◌then◌else◌, length-append, length-map, prio_of, collected, Collected, Line, Numbered, Network, Item, port_of, first_packet, room_out, Take, Step, AtNode, only_first, LegalFrom, EndLeft, gathered, taken_by, ended_by, items_taken, gone, how_often, how_often-append, SendsBody, IsBlock, seen, Seen, NoRoom, TraceLine, Stepped, Lacked, steps_of, start, set_up_all, bare, face_in, collect_lines, IsSetUp, lawful, happened, answer_taken, answer_collected, Happened, IoTask, Carry, Ask, Settle, Turn, Reply, Fetch, Finish, IoState, IoGoes, IoBegins, IoTurns, IoActs, IoEnds, IoComes, Here, Further, IoTold, io_told, told_by, told_behind, and_told, asked_behind, came_behind, network_at, asked_by, came_by, io_asked, came, asked_line, came_line, lines_in, PacketsHaveOneLine}
use Rattle.switch_core.specs.declared.endpoint.Collected.TheVariants as Collects
use Rattle.fabric_script.specs.declared.lines.Line.TheVariants.{Send, Read, Write, Collect, Send16, Read16, Write16}
use Rattle.fabric_ports.specs.declared.answers.Happened.TheVariants as Answers
use Rattle.io_law.proofs.Numbers.{taken_once}
use Rattle.io_law.proofs.Tracing.{added, IsSentTrace, event_legal, sent_comes, fit_set_up, gathered_goes}

-- ---- the packets of lines are among them

asked_few : (n : ℕ) (task : IoTask) (what : Happened) (items : List Item)
    → how_often n (asked_behind task what items) ≤ how_often n items
asked_few n (Ask node tid line) Answers.Took items = omega arith
asked_few n (Ask node tid line) _ items = omega arith
asked_few n (Carry line) what items = omega arith
asked_few n Settle what items = omega arith
asked_few n (Turn node) what items = omega arith
asked_few n (Reply node line) what items = omega arith
asked_few n (Fetch node) what items = omega arith
asked_few n Finish what items = omega arith

came_few : (n : ℕ) (task : IoTask) (what : Happened) (items : List Item)
    → how_often n (came_behind task what items) ≤ how_often n items
came_few n (Fetch node) (Answers.Left packet) items = omega arith
came_few n (Fetch node) _ items = omega arith
came_few n (Carry line) what items = omega arith
came_few n Settle what items = omega arith
came_few n (Turn node) what items = omega arith
came_few n (Reply node line) what items = omega arith
came_few n (Ask node tid line) what items = omega arith
came_few n Finish what items = omega arith

asked_goes_few : {names : List (List ℕ)} {script : List Numbered} {s t : IoState} (n : ℕ)
    (goes : IoGoes names script s t)
    → how_often n (asked_by goes)
    ≤ how_often n (items_taken (network_at script s) (steps_of (added goes)))
asked_goes_few n (IoBegins line rest is to) = omega arith
asked_goes_few n (IoTurns node rest is to) = omega arith
asked_goes_few {names} {script} {s} n (IoActs task rest line block is event block_is sent to) =
    asked_few n task (happened line block) (items_taken (network_at script s) (steps_of block))
asked_goes_few n (IoEnds rest is to) = omega arith

came_goes_few : {names : List (List ℕ)} {script : List Numbered} {s t : IoState} (n : ℕ)
    (goes : IoGoes names script s t)
    → how_often n (came_by goes)
    ≤ how_often n (gone (network_at script s) (steps_of (added goes)))
came_goes_few n (IoBegins line rest is to) = omega arith
came_goes_few n (IoTurns node rest is to) = omega arith
came_goes_few {names} {script} {s} n (IoActs task rest line block is event block_is sent to) =
    came_few n task (happened line block) (gone (network_at script s) (steps_of block))
came_goes_few n (IoEnds rest is to) = omega arith

-- what the steps of a run give is what they gave before a task, and what its steps give
pub given_goes : {names : List (List ℕ)} {script : List Numbered} {s t : IoState} (n : ℕ)
    (each : Network → Step → List Item) (goes : IoGoes names script s t)
    → how_often n (gathered each (start script).network (steps_of t.trace))
    ≡ how_often n (gathered each (start script).network (steps_of s.trace))
    + how_often n (gathered each (network_at script s) (steps_of (added goes)))
given_goes {names} {script} {s} n each goes =
    ap (how_often n) (gathered_goes each goes)
    ∙ how_often-append n (gathered each (start script).network (steps_of s.trace))
    (gathered each (network_at script s) (steps_of (added goes)))

asked_comes_few : {names : List (List ℕ)} {script : List Numbered} {first s : IoState} (n : ℕ)
    (comes : IoComes names script first s)
    → how_often n (io_asked comes)
    ≤ how_often n (items_taken (start script).network (steps_of s.trace))
asked_comes_few n (Here is) = omega arith
asked_comes_few n (Further before comes goes) =
    omega (
      arith,
      how_often-append n (io_asked comes) (asked_by goes),
      asked_comes_few n comes,
      asked_goes_few n goes,
      given_goes n taken_by goes,
    )

came_comes_few : {names : List (List ℕ)} {script : List Numbered} {first s : IoState} (n : ℕ)
    (comes : IoComes names script first s)
    → how_often n (came comes)
    ≤ how_often n (gone (start script).network (steps_of s.trace))
came_comes_few n (Here is) = omega arith
came_comes_few n (Further before comes goes) =
    omega (
      arith,
      how_often-append n (came comes) (came_by goes),
      came_comes_few n comes,
      came_goes_few n goes,
      given_goes n (ended_by EndLeft) goes,
    )

-- ---- what answers say of blocks

sends_one : (s : Seen) (node : ℕ) (body : List ℕ) (block : List TraceLine)
    → SendsBody s node body block → answer_taken block ≡ Answers.Took
    → length (items_taken s.network (steps_of block)) ≡ 1
sends_one s node body block is took =
    by (room_out s.network (port_of node) (prio_of is.packet)) is.lines
  where
    by : (room : Bool)
        → block
        ≡ (if room then Stepped (AtNode (Take node is.packet)) ∷ [] else Lacked NoRoom ∷ [])
        → length (items_taken s.network (steps_of block)) ≡ 1
    by true same = ap (λ l. length (items_taken s.network (steps_of l))) same
    by false same = absurd (cc (sym (ap answer_taken same) ∙ took))

collect_not_taken : (node : ℕ) (what : Collected)
    → answer_collected (collect_lines node what) ≡ Answers.Took → ⊥
collect_not_taken node (Collects.Left packet) is = absurd cc
collect_not_taken node (Collects.Answered request response) is = absurd cc
collect_not_taken node Collects.Empty is = absurd cc
collect_not_taken node Collects.Full is = absurd cc

-- a packet was taken, so it is one
pub took_one : (s : Seen) (line : Line) (block : List TraceLine) → IsBlock s line block
    → happened line block ≡ Answers.Took → length (items_taken s.network (steps_of block)) ≡ 1
took_one s (Send node prio ftype dest hex) block is took = sends_one s node _ block is took
took_one s (Read node prio dest hop tid offset) block is took = sends_one s node _ block is took
took_one s (Write node prio dest hop tid offset value) block is took =
    sends_one s node _ block is took
took_one s (Send16 node prio ftype dest hex) block is took = sends_one s node _ block is took
took_one s (Read16 node prio dest hop tid offset) block is took = sends_one s node _ block is took
took_one s (Write16 node prio dest hop tid offset value) block is took =
    sends_one s node _ block is took
took_one s (Collect node) block is took =
    absurd (collect_not_taken node _ (sym (ap answer_collected is.lines) ∙ took))
took_one s _ block is took = absurd cc

sends_not_left : (s : Seen) (node : ℕ) (body : List ℕ) (block : List TraceLine) (packet : List ℕ)
    → SendsBody s node body block → answer_taken block ≡ Answers.Left packet → ⊥
sends_not_left s node body block packet is left =
    by (room_out s.network (port_of node) (prio_of is.packet)) is.lines
  where
    by : (room : Bool)
        → block
        ≡ (if room then Stepped (AtNode (Take node is.packet)) ∷ [] else Lacked NoRoom ∷ [])
        → ⊥
    by true same = absurd (cc (sym (ap answer_taken same) ∙ left))
    by false same = absurd (cc (sym (ap answer_taken same) ∙ left))

first_as_it_is : (items : List Item) (own packet : List ℕ) → first_packet items ≡ Some own
    → Answers.Left own ≡ Answers.Left packet
    → map (λ item. item.now) (only_first items ++ []) ≡ packet ∷ []
first_as_it_is [] own packet is left = absurd cc
first_as_it_is (item ∷ items) own packet is left =
    let same : item.now ≡ packet = cc in ap (λ p. p ∷ []) same

collect_one : (net : Network) (node : ℕ) (what : Collected) (packet : List ℕ) (end : Network)
    → answer_collected (collect_lines node what) ≡ Answers.Left packet
    → LegalFrom net (steps_of (collect_lines node what)) end
    → map (λ item. item.now) (gone net (steps_of (collect_lines node what))) ≡ packet ∷ []
collect_one net node (Collects.Left own) packet end left legal =
    first_as_it_is (net.received (port_of node) (prio_of own)) own packet legal.0.1 left
collect_one net node (Collects.Answered request response) packet end left legal = absurd cc
collect_one net node Collects.Empty packet end left legal = absurd cc
collect_one net node Collects.Full packet end left legal = absurd cc

-- a packet left, and it is the one that did
pub left_one : (s : Seen) (line : Line) (block : List TraceLine) (packet : List ℕ) (end : Network)
    → IsBlock s line block → happened line block ≡ Answers.Left packet
    → LegalFrom s.network (steps_of block) end
    → map (λ item. item.now) (gone s.network (steps_of block)) ≡ packet ∷ []
left_one s (Send node prio ftype dest hex) block packet end is left legal =
    absurd (sends_not_left s node _ block packet is left)
left_one s (Read node prio dest hop tid offset) block packet end is left legal =
    absurd (sends_not_left s node _ block packet is left)
left_one s (Write node prio dest hop tid offset value) block packet end is left legal =
    absurd (sends_not_left s node _ block packet is left)
left_one s (Send16 node prio ftype dest hex) block packet end is left legal =
    absurd (sends_not_left s node _ block packet is left)
left_one s (Read16 node prio dest hop tid offset) block packet end is left legal =
    absurd (sends_not_left s node _ block packet is left)
left_one s (Write16 node prio dest hop tid offset value) block packet end is left legal =
    absurd (sends_not_left s node _ block packet is left)
left_one s (Collect node) block packet end is left legal =
    let what = collected is.device (face_in s.network (port_of node)) in
    ap (λ l. map (λ item. item.now) (gone s.network (steps_of l))) is.lines
    ∙ collect_one s.network node what packet end (sym (ap answer_collected is.lines) ∙ left)
    (subst (λ l. LegalFrom s.network (steps_of l) end) is.lines legal)
left_one s _ block packet end is left legal = absurd cc

-- ---- a task tells as many lines as it has packets

abbrev told_lines : (IoTold → ℕ) → Option IoTold → ℕ
told_lines each None = 0
told_lines each (Some line) = each line

lines_and : (each : IoTold → ℕ) (lines : List IoTold) (more : Option IoTold)
    → lines_in each (and_told lines more) ≡ lines_in each lines + told_lines each more
lines_and each lines None = omega arith
lines_and each lines (Some line) = push lines
  where
    push : (lines : List IoTold)
        → lines_in each (lines ++ line ∷ []) ≡ lines_in each lines + each line
    push [] = omega arith
    push (first ∷ lines) = omega (arith, push lines)

asked_act : (s : IoState) (task : IoTask) (what : Happened) (items : List Item)
    → (what ≡ Answers.Took → length items ≡ 1)
    → length (asked_behind task what items) ≡ told_lines asked_line (told_behind s task what)
asked_act s (Ask node tid line) Answers.Took items one = one refl
asked_act s (Ask node tid line) _ items one = refl
asked_act s (Carry line) what items one = refl
asked_act s Settle what items one = refl
asked_act s (Turn node) what items one = refl
asked_act s (Reply node line) what items one = refl
asked_act s (Fetch node) (Answers.Left packet) items one = refl
asked_act s (Fetch node) _ items one = refl
asked_act s Finish what items one = refl

came_act : (s : IoState) (task : IoTask) (what : Happened) (items : List Item)
    → ((packet : List ℕ) → what ≡ Answers.Left packet → length items ≡ 1)
    → length (came_behind task what items) ≡ told_lines came_line (told_behind s task what)
came_act s (Fetch node) (Answers.Left packet) items one = one packet refl
came_act s (Fetch node) _ items one = refl
came_act s (Ask node tid line) Answers.Took items one = refl
came_act s (Ask node tid line) _ items one = refl
came_act s (Carry line) what items one = refl
came_act s Settle what items one = refl
came_act s (Turn node) what items one = refl
came_act s (Reply node line) what items one = refl
came_act s Finish what items one = refl

asked_goes_each : {names : List (List ℕ)} {script : List Numbered} {s t : IoState}
    (goes : IoGoes names script s t)
    → length (asked_by goes) ≡ told_lines asked_line (told_by goes)
asked_goes_each (IoBegins line rest is to) = refl
asked_goes_each (IoTurns node rest is to) = refl
asked_goes_each {names} {script} {s} (IoActs task rest line block is event block_is sent to) =
    asked_act s task (happened line block) (items_taken (network_at script s) (steps_of block))
    (took_one (seen (start script) s.trace) line block block_is)
asked_goes_each (IoEnds rest is to) = refl

came_goes_each : {names : List (List ℕ)} {script : List Numbered} {s t : IoState}
    (goes : IoGoes names script s t) → IsSetUp (set_up_all bare script)
    → IsSentTrace script s.trace
    → length (came_by goes) ≡ told_lines came_line (told_by goes)
came_goes_each (IoBegins line rest is to) set_up own = refl
came_goes_each (IoTurns node rest is to) set_up own = refl
came_goes_each {names} {script} {s} (IoActs task rest line block is event block_is sent to)
    set_up own =
    let items = gone (network_at script s) (steps_of block) in
    came_act s task (happened line block) items
    (λ packet left. sym (length-map items (λ item. item.now))
    ∙ ap length (left_one (seen (start script) s.trace) line block packet _ block_is left
    (event_legal script s.trace line block set_up own block_is)))
came_goes_each (IoEnds rest is to) set_up own = refl

-- ---- all tasks

asked_comes_each : {names : List (List ℕ)} {script : List Numbered} {first s : IoState}
    (comes : IoComes names script first s)
    → length (io_asked comes) ≡ lines_in asked_line (io_told comes)
asked_comes_each (Here is) = refl
asked_comes_each (Further before comes goes) =
    omega (
      arith,
      length-append (io_asked comes) (asked_by goes),
      asked_comes_each comes,
      asked_goes_each goes,
      lines_and asked_line (io_told comes) (told_by goes),
    )

came_comes_each : {names : List (List ℕ)} {script : List Numbered} {first s : IoState}
    (comes : IoComes names script first s) → IsSetUp (set_up_all bare script)
    → first.trace ≡ [] → length (came comes) ≡ lines_in came_line (io_told comes)
came_comes_each (Here is) set_up none = refl
came_comes_each (Further before comes goes) set_up none =
    omega (
      arith,
      length-append (came comes) (came_by goes),
      came_comes_each comes set_up none,
      came_goes_each goes set_up (sent_comes set_up none comes),
      lines_and came_line (io_told comes) (told_by goes),
    )

pub one_line_each : PacketsHaveOneLine
one_line_each names script io s comes fit =
    let set_up = fit_set_up names script io fit in
    let net = set_up_all bare script in
    let shown = lawful net s.trace set_up (sent_comes set_up refl comes).made in
    record {
      asked_each = asked_comes_each comes;
      asked_once = λ n.
          let few = asked_comes_few n comes in
          omega (arith, few, taken_once n net (steps_of s.trace));
      came_each = came_comes_each comes set_up refl;
      came_once = λ n.
          let few = came_comes_few n comes in omega (arith, few, shown.once.never_twice n);
    }
