-- What a checker keeps of a port, and what it asks of a line.
use Rattle.std.specs.Prelude.{◌≡◌, ◌≢◌, ◌⊎◌, ◌==◌, ℕ, ◌+◌, ◌%◌, ◌<◌, List, [], ◌∷◌, ◌++◌, Option, Some, None, IsSome, find, option_and_then, option_map, unwrap_or, if◌then◌else◌}
use Rattle.rio_chars.specs.declared.chars.Char.{Char}
use Rattle.link_model.specs.declared.event.Event.{Event}
use Rattle.link_model.specs.declared.event.Event.TheVariants.{Ctl, Pkt, Bad}
use Rattle.link_model.specs.Events.{same_event}
use Rattle.link_model.specs.Places.{Place, place_start, place_after}
use Rattle.link_model.specs.Said.{said}
use Rattle.rio_framer.specs.declared.events.Told.{Told}
use Rattle.rio_framer.specs.Giving.{events_by, listed}
use Rattle.fabric_script.specs.declared.ports.PortRef.{PortRef}
use Rattle.fabric_model.specs.Network.{same_port}
use Rattle.fabric_model.specs.Steps.{Hold, Free, Linked}
use Rattle.trace_lines.specs.Lines.{Got, TraceLine, Stepped, Signed}
use Rattle.fabric_trace.specs.Allowance.{raised_all}
use Rattle.trace_check.specs.declared.hearing.Hearing.{Hearing}

-- a packet that came, with its ackID
abbrev pub Come : Type 0
Come = ℕ × List ℕ

abbrev pub packets_come : List Event → List Come
packets_come [] = []
packets_come (Ctl symbol ∷ events) = packets_come events
packets_come (Pkt ack packet ∷ events) = (ack, packet) ∷ packets_come events
packets_come (Bad cause ∷ events) = packets_come events

-- what stands behind the first that is this packet with this ackID
abbrev pub behind_packet : ℕ → List ℕ → List Come → Option (List Come)
behind_packet ack packet [] = None
behind_packet ack packet (came ∷ more) =
    if same_event (Pkt came.0 came.1) (Pkt ack packet) then Some more
    else behind_packet ack packet more

-- Where its reader stands; the packets that came behind the last one held; the ackID of the next to
-- be held; how many packets it freed, and how many it may free.
pub record PortRun : Type 0 where
  pub place : Place
  pub unheld : List Come
  pub next : ℕ
  pub freed : ℕ
  pub allowed : ℕ

abbrev pub new_run : PortRun
new_run = record { place = place_start; unheld = []; next = 0; freed = 0; allowed = 0 }

-- after events that it reads
abbrev pub notes : PortRun → List Event → PortRun
notes run events = record run {
  unheld = run.unheld ++ packets_come events;
  allowed = raised_all run.allowed events;
}

-- after characters that it got
abbrev pub run_hears : PortRun → List Char → PortRun
run_hears run chars =
    record (notes run (said run.place chars)) { place = place_after run.place chars }

-- after a packet that it holds
abbrev pub holds_one : PortRun → List ℕ → PortRun
holds_one run packet = record run {
  unheld = unwrap_or (behind_packet run.next packet run.unheld) [];
  next = (run.next + 1) % 32;
}

-- after a packet that it frees
abbrev pub frees_one : PortRun → PortRun
frees_one run = record run { freed = run.freed + 1 }

-- after one more line
abbrev pub run_after : PortRef → PortRun → TraceLine → PortRun
run_after p run (Stepped (Linked (Hold q packet))) =
    if same_port p q then holds_one run packet else run
run_after p run (Stepped (Linked (Free q packet))) =
    if same_port p q then frees_one run else run
run_after p run (Signed (Got q chars)) = if same_port p q then run_hears run chars else run
run_after p run _ = run

-- the packet has come
abbrev pub MayHold : PortRun → List ℕ → Type 0
MayHold run packet = IsSome (behind_packet run.next packet run.unheld)

-- one more may be freed
abbrev pub MayFree : PortRun → Type 0
MayFree run = run.freed < run.allowed

-- the first packet that came with this ackID
abbrev pub first_with : ℕ → List Come → Option (List ℕ)
first_with ack came = option_map (λ came. came.1) (find (λ came. came.0 == ack) came)

-- ---- what the code keeps

-- What is behind packets that are held one after another, if they came so: the first of them with
-- this ackID, and each other one with the next.
abbrev pub left_behind : ℕ → List (List ℕ) → List Come → Option (List Come)
left_behind turn [] came = Some came
left_behind turn (packet ∷ packets) came =
    option_and_then (left_behind ((turn + 1) % 32) packets) (behind_packet turn packet came)

-- the ackID whose turn it is behind these
abbrev pub turn_behind : ℕ → List (List ℕ) → ℕ
turn_behind turn [] = turn
turn_behind turn (packet ∷ packets) = turn_behind ((turn + 1) % 32) packets

-- both are there, and the first packet with this ackID is the same; or none is there
abbrev pub LeavesAlike : ℕ → Option (List Come) → Option (List Come) → Type 0
LeavesAlike turn None None = Unit {0}
LeavesAlike turn (Some came) (Some kept) = first_with turn came ≡ first_with turn kept
LeavesAlike turn came kept = ⊥

-- What is kept of packets that came serves as all of them do, whatever is held from now on: the
-- same packets may be, and behind them the same one came first with the ackID whose turn it is.
abbrev pub ServesHolds : ℕ → List Come → List Come → Type 0
ServesHolds turn came kept = (packets : List (List ℕ)) → LeavesAlike (turn_behind turn packets)
    (left_behind turn packets came) (left_behind turn packets kept)

-- what is kept of a port, of which the packets that can no longer be held are forgotten
pub record KeepsRun (run : PortRun) (hearing : Hearing) : Type 0 where
  pub place : hearing.framer.place ≡ run.place
  pub serves : ServesHolds run.next run.unheld hearing.unheld.items
  pub next : hearing.next ≡ run.next
  pub freed : hearing.freed ≡ run.freed
  pub allowed : hearing.allowed ≡ run.allowed

-- none of them came with the ackID before this one
abbrev pub NoneBefore : ℕ → List Come → Type 0
NoneBefore ack [] = Unit {0}
NoneBefore ack (came ∷ more) = ((came.0 + 1) % 32 ≢ ack) × NoneBefore ack more

-- A packet that came with this ackID need not be kept behind these: it is among them, and behind it
-- none came with the ackID before it; or none of them did, and it is not its turn.
abbrev pub IsSpare : ℕ → ℕ → List ℕ → List Come → Type 0
IsSpare turn ack packet kept = ((front : List Come) × (back : List Come)
    × (kept ≡ front ++ (ack, packet) ∷ back) × NoneBefore ack back)
    ⊎ (NoneBefore ack kept × (ack ≢ turn))

-- the events of what characters told, with the packet that the last one ended
abbrev pub told_events : Told → Option Event → List Event
told_events told ended = listed (events_by told ended).first (events_by told ended).second

-- the packet of an event, if it is one
abbrev pub packet_in : Option Event → List Come
packet_in None = []
packet_in (Some event) = packets_come (event ∷ [])
