-- Packets come in the order in which they were sent.
use Rattle.io_law.proofs.Prelude.{◌≡◌, ◌<◌, ℕ, Bool, true, false, List, [], ◌∷◌, length, Option, Some, None, refl, sym, ap, ◌∙◌, subst, arith, if◌then◌else◌, slice_get, AllByRecursion, ne_eqb, prio_of, ftype_of, hop_of, ftype_of-link_form, prio_of-link_form, Line, Send, Numbered, Network, Item, port_of, id_of, room_out, Take, AtNode, SameCourse, EndLeft, items_taken, gone, WasTaken, Over, all-append, all_weaker, IsBlock, seen, Seen, NoRoom, TraceLine, Stepped, Lacked, steps_of, start, set_up_all, bare, lawful, happened, Happened, NumberedIo, kept_of_node, IoTask, Carry, Ask, Settle, Turn, Reply, Fetch, Finish, task_event, IoState, IoGoes, IoBegins, IoActs, IoComes, Here, Further, IsIoFit, first_state, asked_behind, replied_behind, asked_by, replied_by, io_asked, io_replied, came, IsSentBy, SameWay, ComesBefore, PacketsComeInTurn}
use Rattle.fabric_ports.specs.declared.answers.Happened.TheVariants as Answers
use Rattle.io_law.proofs.Fit.{AsksFit, RepliesFit, HeadFit, TasksFit, IsFit, fit_comes, first_fit}
use Rattle.io_law.proofs.Order.{first_goes_first}
use Rattle.io_law.proofs.Places.{same_line, get_all}
use Rattle.io_law.proofs.Plain.{IsPlain, not_maintenance}
use Rattle.io_law.proofs.Sending.{taken_at, rises_two, comes_rise, all_sent}
use Rattle.io_law.proofs.Taking.{SendsPlain, asks_plain, replies_plain, run_plain, comes_gone}
use Rattle.io_law.proofs.Tracing.{sent_comes, fit_set_up}

-- ---- what a line sends

pub send_items : (s : Seen) (line : Line) (block : List TraceLine) → SendsPlain line
    → IsBlock s line block
    → AllByRecursion (IsSentBy s.network line) (items_taken s.network (steps_of block))
send_items s (Send node prio ftype dest hex) block plain is =
    by (room_out s.network (port_of node) (prio_of is.packet)) is.lines
  where
    All : List TraceLine → Type 0
    All l = AllByRecursion (IsSentBy s.network (Send node prio ftype dest hex))
        (items_taken s.network (steps_of l))

    by : (room : Bool)
        → block
        ≡ (if room then Stepped (AtNode (Take node is.packet)) ∷ [] else Lacked NoRoom ∷ [])
        → All block
    by true same = subst All (sym same) ((refl, is.form), tt)
    by false same = subst All (sym same) tt
send_items s _ block plain is = absurd plain

abbrev pub IsAsked : Item → Type 0
IsAsked item = (prio_of item.taken ≡ 1) × IsPlain item.taken × (ftype_of item.taken ≡ 13 → ⊥)

asked_right : (net : Network) (node : ℕ) (line : Line) (item : Item) → AsksFit node line
    → IsSentBy net line item → IsAsked item
asked_right net node (Send at prio ftype dest hex) item fit is =
    let one = fit.1 in
    let few : prio < 4 = omega (arith, one) in
    let type = ftype_of-link_form prio ftype false dest (id_of net at false) hex item.taken is.1
    few fit.2 in (
      prio_of-link_form prio ftype false dest (id_of net at false) hex item.taken is.1 few fit.2
          ∙ one,
      λ eight. fit.4 (sym type ∙ eight),
      λ response. fit.3 (sym type ∙ response),
    )
asked_right net node _ item fit is = absurd fit

-- it is a response
abbrev pub IsReplied : Item → Type 0
IsReplied item = ftype_of item.taken ≡ 13

pub replied_plain : (item : Item) → IsReplied item → IsPlain item.taken
replied_plain item is = λ eight. absurd (cc (is, eight))

replied_right : (net : Network) (node : ℕ) (line : Line) (item : Item) → RepliesFit node line
    → IsSentBy net line item → IsReplied item
replied_right net node (Send at prio ftype dest hex) item fit is =
    let type = fit.2 in
    let few : ftype < 16 = omega (arith, type) in
    ftype_of-link_form prio ftype false dest (id_of net at false) hex item.taken is.1 fit.1 few
    ∙ type
replied_right net node _ item fit is = absurd fit

module _ (s : Seen) (block : List TraceLine) (kept : ℕ → Option Line) (count : ℕ)
  where
    task_asked : (task : IoTask) (line : Line) (what : Happened) → HeadFit kept count task
        → task_event task ≡ Some line → IsBlock s line block
        → AllByRecursion IsAsked (asked_behind task what (items_taken s.network (steps_of block)))
    task_asked (Ask node tid own) line Answers.Took fit event is =
        all_weaker (IsSentBy s.network own) IsAsked
        (λ x by. asked_right s.network node own x fit by)
        (items_taken s.network (steps_of block))
        (send_items s own block (asks_plain node own fit)
        (subst (λ l. IsBlock s l block) (sym (same_line event)) is))
    task_asked (Ask node tid own) line _ fit event is = tt
    task_asked (Reply node own) line what fit event is = tt
    task_asked Settle line what fit event is = tt
    task_asked (Fetch node) line what fit event is = tt
    task_asked (Carry own) line what fit event is = tt
    task_asked (Turn node) line what fit event is = tt
    task_asked Finish line what fit event is = tt

    task_replied : (task : IoTask) (line : Line) → HeadFit kept count task
        → task_event task ≡ Some line → IsBlock s line block
        → AllByRecursion IsReplied
        (replied_behind task (items_taken s.network (steps_of block)))
    task_replied (Reply node own) line fit event is =
        all_weaker (IsSentBy s.network own) IsReplied
        (λ x by. replied_right s.network node own x fit.0 by)
        (items_taken s.network (steps_of block))
        (send_items s own block (replies_plain node own fit.0)
        (subst (λ l. IsBlock s l block) (sym (same_line event)) is))
    task_replied (Ask node tid own) line fit event is = tt
    task_replied Settle line fit event is = tt
    task_replied (Fetch node) line fit event is = tt
    task_replied (Carry own) line fit event is = tt
    task_replied (Turn node) line fit event is = tt
    task_replied Finish line fit event is = tt

pub goes_asked : {names : List (List ℕ)} {script : List Numbered} {s t : IoState}
    (goes : IoGoes names script s t) → IsFit s → AllByRecursion IsAsked (asked_by goes)
goes_asked (IoBegins line rest is to) fit = tt
goes_asked {names} {script} {s} (IoActs task rest line block is event block_is sent to) fit =
    task_asked (seen (start script) s.trace) block (kept_of_node s.stations) (length s.stations)
    task line (happened line block)
    (subst (TasksFit (kept_of_node s.stations) (length s.stations)) is fit.tasks).0 event block_is
goes_asked _ fit = tt

pub goes_replied : {names : List (List ℕ)} {script : List Numbered} {s t : IoState}
    (goes : IoGoes names script s t) → IsFit s
    → AllByRecursion IsReplied (replied_by goes)
goes_replied (IoBegins line rest is to) fit = tt
goes_replied {names} {script} {s} (IoActs task rest line block is event block_is sent to) fit =
    task_replied (seen (start script) s.trace) block (kept_of_node s.stations) (length s.stations)
    task line
    (subst (TasksFit (kept_of_node s.stations) (length s.stations)) is fit.tasks).0 event block_is
goes_replied _ fit = tt

comes_asked : {names : List (List ℕ)} {script : List Numbered} {first s : IoState}
    (comes : IoComes names script first s) → IsFit first → AllByRecursion IsAsked (io_asked comes)
comes_asked (Here is) fit = tt
comes_asked (Further before comes goes) fit =
    all-append IsAsked (io_asked comes) (asked_by goes) (comes_asked comes fit)
    (goes_asked goes (fit_comes comes fit))

comes_replied : {names : List (List ℕ)} {script : List Numbered} {first s : IoState}
    (comes : IoComes names script first s) → IsFit first
    → AllByRecursion IsReplied (io_replied comes)
comes_replied (Here is) fit = tt
comes_replied (Further before comes goes) fit =
    all-append IsReplied (io_replied comes) (replied_by goes) (comes_replied comes fit)
    (goes_replied goes (fit_comes comes fit))

-- ---- the law

no_hop : (packet : List ℕ) → IsPlain packet → hop_of packet ≡ None
no_hop packet plain = rw (not_maintenance packet plain) refl

same_course : (x y : Item) → SameWay x y → prio_of x.taken ≡ prio_of y.taken → IsPlain x.taken
    → IsPlain y.taken → SameCourse x y
same_course x y same prio first second =
    let port = same.port in
    let dest = same.dest in
    record {
      port = port;
      dest = dest;
      priority = prio;
      maintenance = ne_eqb (ftype_of x.taken) 8 first
          ∙ sym (ne_eqb (ftype_of y.taken) 8 second);
      hop = no_hop x.taken first ∙ sym (no_hop y.taken second);
    }

some_is : {x y : Item} → Some x ≡ Some y → x ≡ y
some_is is = cc

module _ {names : List (List ℕ)} {script : List Numbered} {io : List NumberedIo} {s : IoState}
    (comes : IoComes names script (first_state names io) s) (fit : IsIoFit names script io) where
  -- two packets that were taken, of which the later one has come
  two_in_turn : (x y z : Item) (k : ℕ)
      → slice_get (items_taken (start script).network (steps_of s.trace)) x.number ≡ Some x
      → slice_get (items_taken (start script).network (steps_of s.trace)) y.number ≡ Some y
      → SameCourse x y → x.number < y.number → slice_get (came comes) k ≡ Some z
      → z.number ≡ y.number → ComesBefore (came comes) x.number k
  two_in_turn x y z k x_taken y_taken same less at number =
      let set_up = fit_set_up names script io fit in
      let net = set_up_all bare script in
      let steps = steps_of s.trace in
      let own = first_fit names io in
      let shown = lawful net s.trace set_up (sent_comes set_up refl comes).made in
      let all_gone = comes_gone comes refl own in
      let left = subst (λ l. slice_get l k ≡ Some z) (sym all_gone) at in
      let was = get_all (WasTaken net steps) (gone net steps) k z
      (shown.holding_exactly.known (Over EndLeft)) left in
      let it : y ≡ record z { now = z.taken } =
      some_is (sym y_taken ∙ ap (slice_get (items_taken net steps)) (sym number) ∙ was) in
      let with_z = subst (SameCourse x) it same in
      let port = with_z.port in
      let dest = with_z.dest in
      let priority = with_z.priority in
      let maintenance = with_z.maintenance in
      let hop = with_z.hop in
      subst (λ l. ComesBefore l x.number k) all_gone
      (first_goes_first net steps _ set_up.empty set_up.proper shown.legal
      (run_plain comes set_up refl own).none x z k x_taken left
      (record {
        port = port;
        dest = dest;
        priority = priority;
        maintenance = maintenance;
        hop = hop;
      }) (omega (arith, less, number)))

pub come_in_turn : PacketsComeInTurn
come_in_turn names script io s comes fit =
    let set_up = fit_set_up names script io fit in
    let net = set_up_all bare script in
    let steps = steps_of s.trace in
    let own = first_fit names io in
    let plain = (run_plain comes set_up refl own).none in
    let rise = comes_rise comes set_up refl own plain in
    let stand = all_sent (λ x. slice_get (items_taken net steps) x.number ≡ Some x) comes own plain
    (taken_at net steps set_up.empty.given) in
    record {
      asked_in_turn = λ i j k x y z less at later same came_at number.
          let x_is = get_all IsAsked (io_asked comes) i x (comes_asked comes own) at in
          let y_is = get_all IsAsked (io_asked comes) j y (comes_asked comes own) later in
          two_in_turn comes fit x y z k
          (get_all (λ x. slice_get (items_taken net steps) x.number ≡ Some x) (io_asked comes) i x
          stand.asks_are at)
          (get_all (λ x. slice_get (items_taken net steps) x.number ≡ Some x) (io_asked comes) j y
          stand.asks_are later)
          (same_course x y same (x_is.0 ∙ sym y_is.0) x_is.1 y_is.1)
          (rises_two 0 (io_asked comes) _ i j x y rise.asks_rise less at later) came_at number;
      replied_in_turn = λ i j k x y z less at later same came_at number.
          let x_is = get_all IsReplied (io_replied comes) i x (comes_replied comes own)
          at in
          let y_is = get_all IsReplied (io_replied comes) j y (comes_replied comes own)
          later in
          two_in_turn comes fit x y z k
          (get_all (λ x. slice_get (items_taken net steps) x.number ≡ Some x) (io_replied comes) i x
          stand.replies_are at)
          (get_all (λ x. slice_get (items_taken net steps) x.number ≡ Some x) (io_replied comes) j y
          stand.replies_are later)
          (same_course x y same.0 same.1 (replied_plain x x_is) (replied_plain y y_is))
          (rises_two 0 (io_replied comes) _ i j x y rise.replies_rise less at later) came_at number;
    }
