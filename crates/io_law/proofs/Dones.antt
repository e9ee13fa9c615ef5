-- Each `done` line is of the reply to a packet that was served before, and no two are of one.
use Rattle.io_law.proofs.Prelude.{◌≡◌, ℕ, List, [], ◌∷◌, ◌++◌, length, map, Option, Some, refl, sym, ap, ap₂, ◌∙◌, subst, append_assoc, if◌then◌else◌, slice_get, AllByRecursion, eq-eqb, map-append, ftype_of, Line, Numbered, Item, taken_by, items_taken, gone, all-append, all_weaker, seen, steps_of, start, happened, Happened, Done, NumberedIo, memory_of, met_by, IoTask, Carry, Ask, Settle, Turn, Reply, Fetch, Finish, IoState, IoGoes, IoBegins, IoTurns, IoActs, IoEnds, IoComes, Here, Further, IsIoFit, first_state, ToldCame, io_told, told_by, told_behind, asked_behind, replied_behind, came_behind, network_at, asked_by, replied_by, came_by, came, IoArrival, arrived_behind, arrived_by, io_arrived, IoSent, sent_behind, io_sent_by, sent_at}
use Rattle.fabric_ports.specs.declared.answers.Happened.TheVariants as Answers
use Rattle.io_law.proofs.Fit.{IsFit, fit_comes}
use Rattle.io_law.proofs.Items.{left_one}
use Rattle.io_law.proofs.Places.{slice_get-append, slice_get-seam}
use Rattle.io_law.proofs.Plain.{NoAnswers}
use Rattle.io_law.proofs.Sending.{last_none}
use Rattle.io_law.proofs.Taking.{goes_taken}
use Rattle.io_law.proofs.Tracing.{added, trace_goes, event_legal, sent_comes, fit_set_up, gathered_goes}
use Rattle.io_law.proofs.Turning.{IsAsked, goes_asked}
use Rattle.io_law.proofs.ReadLaws.{came_node, came_met}

-- ---- each response that is taken is a reply of a node

record IsFound (old : ℕ → List IoSent) (task : IoTask) (items : List Item) (x : Item) : Type 0 where
  pub server : ℕ
  pub turn : ℕ
  pub reply : IoSent
  pub is : slice_get (old server ++ sent_behind server task items) turn ≡ Some reply
  pub same : reply.item ≡ x

pub record IsAReply {names : List (List ℕ)} {script : List Numbered} {first s : IoState}
    (comes : IoComes names script first s) (x : Item) : Type 0 where
  pub server : ℕ
  pub turn : ℕ
  pub reply : IoSent
  pub is : slice_get (sent_at server comes) turn ≡ Some reply
  pub same : reply.item ≡ x

-- each of them stands in the list behind another
all_placed : (old : List IoSent) (line : Line) (items : List Item)
    → AllByRecursion (λ x. (turn : ℕ)
    × (slice_get (old ++ map (λ item. record { line = line; item = item }) items) turn
    ≡ Some (record { line = line; item = x }))) items
all_placed old line [] = tt
all_placed old line (x ∷ items) =
    let mine : IoSent = record { line = line; item = x } in
    let rest : List IoSent = map (λ item. record { line = line; item = item }) items in (
      (length old, slice_get-seam old mine rest),
      subst (λ l. AllByRecursion (λ y. (turn : ℕ)
          × (slice_get l turn ≡ Some (record { line = line; item = y }))) items)
          (append_assoc old (mine ∷ []) rest)
          (all_placed (old ++ mine ∷ []) line items),
    )

task_found : (old : ℕ → List IoSent) (task : IoTask) (items : List Item)
    → AllByRecursion (IsFound old task items) (replied_behind task items)
task_found old (Reply at line) items =
    all_weaker (λ x. (turn : ℕ)
    × (slice_get (old at ++ map (λ item. record { line = line; item = item }) items) turn
    ≡ Some (record { line = line; item = x }))) (IsFound old (Reply at line) items)
    (λ x place. record {
      server = at;
      turn = place.0;
      reply = record { line = line; item = x };
      is = ap (λ b. slice_get (old at
          ++ (if b then map (λ item. record { line = line; item = item }) items else [])) place.0)
          (eq-eqb at at refl) ∙ place.1;
      same = refl;
    }) items (all_placed (old at) line items)
task_found old (Ask node tid line) items = tt
task_found old (Carry line) items = tt
task_found old Settle items = tt
task_found old (Turn node) items = tt
task_found old (Fetch node) items = tt
task_found old Finish items = tt

module _ {names : List (List ℕ)} {script : List Numbered} {first : IoState} where
  goes_found : {before s : IoState} (comes : IoComes names script first before)
      (goes : IoGoes names script before s)
      → AllByRecursion (IsAReply (Further before comes goes))
      (replied_by goes)
  goes_found comes (IoBegins line rest is to) = tt
  goes_found comes (IoTurns node rest is to) = tt
  goes_found {before} comes (IoActs task rest line block is event block_is sent to) =
      let items = items_taken (network_at script before) (steps_of block) in
      all_weaker (IsFound (λ server. sent_at server comes) task items) _
      (λ x found.
      let server = found.server in
      let turn = found.turn in
      let reply = found.reply in
      let at = found.is in
      let same = found.same in
      record { server = server; turn = turn; reply = reply; is = at; same = same })
      (replied_behind task items) (task_found (λ server. sent_at server comes) task items)
  goes_found comes (IoEnds rest is to) = tt

  replied_on : {before s : IoState} (comes : IoComes names script first before)
      (goes : IoGoes names script before s) (x : Item) → IsAReply comes x
      → IsAReply (Further before comes goes) x
  replied_on comes goes x replied =
      let server = replied.server in
      let turn = replied.turn in
      let reply = replied.reply in
      let at = replied.is in
      let same = replied.same in
      record {
        server = server;
        turn = turn;
        reply = reply;
        is = slice_get-append (sent_at server comes) (io_sent_by server goes) turn reply at;
        same = same;
      }

  pub all_replied : {s : IoState} (comes : IoComes names script first s) → IsFit first
      → first.trace ≡ [] → NoAnswers (steps_of s.trace)
      → AllByRecursion (λ x. ftype_of x.taken ≡ 13 → IsAReply comes x)
      (items_taken (start script).network (steps_of s.trace))
  all_replied (Here is) fit none plain =
      subst (λ l. AllByRecursion (λ x. ftype_of x.taken ≡ 13
      → IsAReply {names = names} {script = script} (Here is) x)
      (items_taken (start script).network (steps_of l)))
      (sym (ap (λ (x : IoState). x.trace) is ∙ none)) tt
  all_replied {s} (Further before comes goes) fit none plain =
      let parts = last_none script before (added goes) s (trace_goes goes) plain in
      let net = (start script).network in
      let old = items_taken net (steps_of before.trace) in
      let P = λ (x : Item). ftype_of x.taken ≡ 13 → IsAReply (Further before comes goes) x in
      subst (AllByRecursion P)
      (sym (gathered_goes taken_by goes
      ∙ ap (λ l. old ++ l) (goes_taken goes (fit_comes comes fit) parts.1)))
      (all-append P old (asked_by goes ++ replied_by goes)
      (all_weaker (λ x. ftype_of x.taken ≡ 13 → IsAReply comes x) P
      (λ x replied response. replied_on comes goes x (replied response)) old
      (all_replied comes fit none parts.0))
      (all-append P (asked_by goes) (replied_by goes)
      (all_weaker IsAsked P (λ x right response. absurd (right.2 response)) (asked_by goes)
      (goes_asked goes (fit_comes comes fit)))
      (all_weaker (IsAReply (Further before comes goes)) P (λ x replied response. replied)
      (replied_by goes) (goes_found comes goes))))

-- ---- what came is what arrived

arrived_act : (lines : ℕ) (task : IoTask) (what : Happened) (items : List Item)
    → map (λ (a : IoArrival). a.item) (arrived_behind lines task what items)
    ≡ came_behind task what items
arrived_act lines (Fetch node) (Answers.Left packet) items = back items
  where
    back : (items : List Item)
        → map (λ (a : IoArrival). a.item)
        (map (λ item. record { before = lines; node = node; item = item }) items) ≡ items
    back [] = refl
    back (item ∷ items) = ap (λ l. item ∷ l) (back items)
arrived_act lines (Fetch node) Answers.Took items = refl
arrived_act lines (Fetch node) Answers.Answered items = refl
arrived_act lines (Fetch node) _ items = refl
arrived_act lines (Ask node tid line) what items = refl
arrived_act lines (Carry line) what items = refl
arrived_act lines Settle what items = refl
arrived_act lines (Turn node) what items = refl
arrived_act lines (Reply node line) what items = refl
arrived_act lines Finish what items = refl

arrived_goes : {names : List (List ℕ)} {script : List Numbered} {s t : IoState} (lines : ℕ)
    (goes : IoGoes names script s t)
    → map (λ (a : IoArrival). a.item) (arrived_by lines goes) ≡ came_by goes
arrived_goes lines (IoBegins line rest is to) = refl
arrived_goes lines (IoTurns node rest is to) = refl
arrived_goes {names} {script} {s} lines (IoActs task rest line block is event block_is sent to) =
    arrived_act lines task (happened line block) (gone (network_at script s) (steps_of block))
arrived_goes lines (IoEnds rest is to) = refl

pub arrived_came : {names : List (List ℕ)} {script : List Numbered} {first s : IoState}
    (comes : IoComes names script first s)
    → map (λ (a : IoArrival). a.item) (io_arrived comes) ≡ came comes
arrived_came (Here is) = refl
arrived_came (Further before comes goes) =
    map-append (λ (a : IoArrival). a.item) (io_arrived comes)
    (arrived_by (length (io_told comes)) goes)
    ∙ ap₂ ◌++◌ (arrived_came comes) (arrived_goes (length (io_told comes)) goes)

-- ---- the last line

record IsDoneEvent (s : IoState) (task : IoTask) (what : Happened) (node tid status : ℕ)
    (load : Option (List ℕ)) : Type 0 where
  pub packet : List ℕ
  pub task_is : task ≡ Fetch node
  pub what_is : what ≡ Answers.Left packet
  pub met : met_by (memory_of s.stations node) packet ≡ Done tid status load

done_event : (s : IoState) (task : IoTask) (what : Happened) (node tid status : ℕ)
    (load : Option (List ℕ)) → told_behind s task what ≡ Some (ToldCame node (Done tid status load))
    → IsDoneEvent s task what node tid status load
done_event s (Fetch at) (Answers.Left packet) node tid status load is = record {
  packet = packet;
  task_is = ap Fetch (came_node is);
  what_is = refl;
  met = ap (λ n. met_by (memory_of s.stations n) packet) (sym (came_node is)) ∙ came_met is;
}
done_event s (Fetch at) Answers.Took node tid status load is = absurd cc
done_event s (Fetch at) Answers.Answered node tid status load is = absurd cc
done_event s (Fetch at) _ node tid status load is = absurd cc
done_event s (Ask at t line) Answers.Took node tid status load is = absurd cc
done_event s (Ask at t line) _ node tid status load is = absurd cc
done_event s (Carry line) what node tid status load is = absurd cc
done_event s Settle what node tid status load is = absurd cc
done_event s (Turn at) what node tid status load is = absurd cc
done_event s (Reply at line) what node tid status load is = absurd cc
done_event s Finish what node tid status load is = absurd cc

record OneOf (items : List Item) (packet : List ℕ) : Type 0 where
  pub item : Item
  pub only : items ≡ item ∷ []
  pub now : item.now ≡ packet

one_of : (items : List Item) (packet : List ℕ) → map (λ item. item.now) items ≡ packet ∷ []
    → OneOf items packet
one_of [] packet is = absurd cc
one_of (item ∷ []) packet is = record { item = item; only = refl; now = cc }
one_of (item ∷ more ∷ items) packet is = absurd cc

-- what is so in a task whose line is such
pub record DoneBy {names : List (List ℕ)} {script : List Numbered} {s t : IoState} (lines : ℕ)
    (goes : IoGoes names script s t) (node tid status : ℕ) (load : Option (List ℕ)) : Type 0 where
  pub item : Item
  pub held : Option (List ℕ)
  pub arrives : arrived_by lines goes
      ≡ record { before = lines; node = node; item = item } ∷ []
  pub leaves : came_by goes ≡ item ∷ []
  pub takes : asked_by goes ++ replied_by goes ≡ []
  pub met : met_by held item.now ≡ Done tid status load

module _ {names : List (List ℕ)} {script : List Numbered} {io : List NumberedIo}
    (fit : IsIoFit names script io) where
  pub done_by : {before s : IoState} (comes : IoComes names script (first_state names io) before)
      (goes : IoGoes names script before s) (lines node tid status : ℕ) (load : Option (List ℕ))
      → told_by goes ≡ Some (ToldCame node (Done tid status load))
      → DoneBy lines goes node tid status load
  done_by comes (IoBegins line rest is to) lines node tid status load same = absurd cc
  done_by {before} comes (IoActs task rest line block is event block_is sent to) lines node tid
      status load same =
      let what = happened line block in
      let items = gone (network_at script before) (steps_of block) in
      let asks = items_taken (network_at script before) (steps_of block) in
      let it = done_event before task what node tid status load same in
      let set_up = fit_set_up names script io fit in
      let one = one_of items it.packet
      (left_one (seen (start script) before.trace) line block it.packet _ block_is it.what_is
      (event_legal script before.trace line block set_up (sent_comes set_up refl comes)
      block_is)) in
      let packet = it.packet in
      let task_is = it.task_is in
      let what_is = it.what_is in
      let met = it.met in
      let item = one.item in
      let only = one.only in
      let now = one.now in
      record {
        item = item;
        held = memory_of before.stations node;
        arrives = ap₂ (λ t w. arrived_behind lines t w items) task_is what_is
            ∙ ap (λ l. map (λ i. record { before = lines; node = node; item = i }) l) only;
        leaves = ap₂ (λ t w. came_behind t w items) task_is what_is ∙ only;
        takes = ap (λ t. asked_behind t what asks ++ replied_behind t asks) task_is;
        met = ap (met_by (memory_of before.stations node)) now ∙ met;
      }
  done_by comes _ lines node tid status load same = absurd cc
