-- What a port sends is read as what it sent.
use Rattle.std.proofs.Common.{◌≡◌, ℕ, ◌+◌, ◌<◌, Bool, true, false, nat_lt, if◌then◌else◌, Option, Some, None, List, map, length, slice_get, refl, ap, subst, arith}
use Rattle.link_model.specs.Prelude.{InRange, Passes, Plain, run, place_after, Output, Sends, turns, Outstanding, window, status, start_of_packet, end_of_packet, restart_from_retry, link_request}
use Rattle.link_buffers.specs.Prelude.{Buffered, list_at, IsInStore, IsOutStore, highest}
use Rattle.link_buffers.proofs.QueueLemmas.{Passes-at}
use Rattle.link_buffers.proofs.PriorityLaws.{highest_below-some, IsOutStore-lists_without}
use Rattle.link_model.specs.declared.event.Event.{Event}
use Rattle.link_model.specs.Output.{started, unstarted, startable, credited}
use Rattle.link_model.specs.Outstanding.{next_ack}
use Rattle.link_model.specs.Reports.{has_credit}
use Rattle.link_receiver.specs.Status.{buffer_status}
use Rattle.link_model.specs.Symbols.{status_with}
use Rattle.link_model.proofs.ReadingSpeltLaws.{run-symbol, place_after-symbol, run-packet, place_after-packet}
use Rattle.link_port.specs.States.{prios_of}
use Rattle.link_port.specs.Ports.{PortState, IsPort}
use Rattle.link_port.specs.declared.sending.Standing.{Standing}
use Rattle.link_port.specs.Bursts.{IsStanding}
use Rattle.link_port.specs.Turns.{IsRead, standing, no_burst, symbol_burst, packet_burst, burst_of, turn_sends, tell_sends, waiting_in}

-- a status symbol of a port is in range
status_range : (at : Standing) (s1 cmd : ℕ) → IsStanding at → s1 < 8 → cmd < 8
    → InRange (status_with at.expected at.buffers s1 cmd)
status_range at s1 cmd is first second = record {
  s0 = omega arith;
  p0 = is.expected;
  p1 = is.buffers;
  s1 = first;
  cmd = second;
}

pub none_read : IsRead no_burst
unfolding run place_after
none_read = record { says = refl; rests = refl }

restart_read : (at : Standing) → IsStanding at
    → IsRead (symbol_burst (restart_from_retry at.expected at.buffers))
restart_read at is =
    let symbol = restart_from_retry at.expected at.buffers in
    let range = status_range at 3 0 is (omega arith) (omega arith) in
    record {
      says = ap (map (λ (event : ℕ × Event). event.1)) (run-symbol Plain 0 symbol tt range);
      rests = place_after-symbol Plain symbol tt range;
    }

request_read : (at : Standing) → IsStanding at
    → IsRead (symbol_burst (link_request at.expected at.buffers))
request_read at is =
    let symbol = link_request at.expected at.buffers in
    let range = status_range at 4 4 is (omega arith) (omega arith) in
    record {
      says = ap (map (λ (event : ℕ × Event). event.1)) (run-symbol Plain 0 symbol tt range);
      rests = place_after-symbol Plain symbol tt range;
    }

pub status_read : (at : Standing) → IsStanding at
    → IsRead (symbol_burst (status at.expected at.buffers))
status_read at is =
    let symbol = status at.expected at.buffers in
    let range = status_range at 7 0 is (omega arith) (omega arith) in
    record {
      says = ap (map (λ (event : ℕ × Event). event.1)) (run-symbol Plain 0 symbol tt range);
      rests = place_after-symbol Plain symbol tt range;
    }

packet_read : (at : Standing) (ack : ℕ) (found : Option (List ℕ)) → IsStanding at → ack < 32
    → ((packet : List ℕ) → found ≡ Some packet → Passes packet)
    → IsRead (packet_burst at ack found)
packet_read at ack None is below passes = none_read
packet_read at ack (Some packet) is below passes =
    let start = start_of_packet at.expected at.buffers in
    let end = end_of_packet at.expected at.buffers in
    let first = status_range at 0 0 is (omega arith) (omega arith) in
    let last = status_range at 2 0 is (omega arith) (omega arith) in
    let form = passes packet refl in
    record {
      says = ap (map (λ (event : ℕ × Event). event.1))
          (run-packet Plain 0 (7 + length packet) start ack packet end tt first refl below form last
          refl refl);
      rests =
          place_after-packet Plain start ack packet end tt first refl below form last refl;
    }

-- the ackID and the priority of a packet that starts are in range
abbrev pub InRanges : Sends → Type 0
InRanges (Sends.Packet ack prio) = (ack < 32) × (prio < 4)
InRanges Sends.Restart = Unit {0}
InRanges Sends.Request = Unit {0}
InRanges Sends.Status = Unit {0}
InRanges Sends.Nothing = Unit {0}

burst_read :
    (sends : Sends) (at : Standing) (waiting : List (List (List ℕ))) → IsStanding at
    → IsOutStore waiting → InRanges sends
    → IsRead (burst_of sends at waiting)
burst_read (Sends.Packet ack prio) at waiting is store (below, own) =
    packet_read at ack (slice_get (list_at waiting prio) 0) is below
    (λ packet found. Passes-at waiting prio 0 packet store.packets own found)
burst_read Sends.Restart at waiting is store range = restart_read at is
burst_read Sends.Request at waiting is store range = request_read at is
burst_read Sends.Status at waiting is store range = status_read at is
burst_read Sends.Nothing at waiting is store range = none_read

unstarted_range : (tells : Bool) → InRanges (unstarted tells)
unstarted_range true = tt
unstarted_range false = tt

started_range : (tells : Bool) (w : Outstanding) (waiting : Option ℕ)
    → ((prio : ℕ) → waiting ≡ Some prio → prio < 4) → InRanges (started tells w waiting).sends
started_range tells w None own = unstarted_range tells
started_range tells w (Some prio) own = (omega arith, own prio refl)

-- the priority that is found
abbrev found_or_none : Option ℕ → ℕ
found_or_none None = 0
found_or_none (Some prio) = prio

credited_own : (credit : Bool) (p prio : ℕ) → p < 4
    → (if credit then Some p else None) ≡ Some prio → prio < 4
credited_own true p prio own is = subst (λ n. n < 4) (ap found_or_none is) own
credited_own false p prio own is = absurd cc

startable_own : (w : Outstanding) (full : Bool) (waiting : Option ℕ) (prio : ℕ)
    → ((p : ℕ) → waiting ≡ Some p → p < 4)
    → (if full then credited w waiting else None) ≡ Some prio → prio < 4
startable_own w true None prio own is = absurd cc
startable_own w true (Some p) prio own is =
    credited_own (has_credit w.report (next_ack w) p) p prio (own p refl) is
startable_own w false waiting prio own is = absurd cc

turn_range : (tells : Bool) (output : Output) (waiting : Option ℕ)
    → ((prio : ℕ) → waiting ≡ Some prio → prio < 4) → InRanges (turns tells output waiting).sends
turn_range tells (Output.Ok w) waiting own =
    started_range tells w (startable w waiting)
    (λ prio is. startable_own w (nat_lt (length w.prios) window) waiting prio own is)
turn_range tells (Output.RetryStopped w) waiting own = tt
turn_range tells (Output.ErrorStopped true w) waiting own = tt
turn_range tells (Output.ErrorStopped false w) waiting own = tt
turn_range tells Output.Failed waiting own = tt

buffers_range : (tells : Bool) (store : Buffered) → IsInStore store
    → buffer_status tells store < 32
buffers_range true store is = let most = is.most in omega arith
buffers_range false store is = omega arith

-- what the symbols of a port tell is in range
pub standing_range : (port : PortState) → IsPort port → IsStanding (standing port)
standing_range port is = record {
  expected = is.expected_ack;
  buffers = buffers_range port.tells port.received is.receives;
}

-- what a port sends in a turn
pub turn_read : (port : PortState) → IsPort port → IsRead (turn_sends port)
turn_read port is =
    let waiting = waiting_in port in
    burst_read (turns port.tells port.output (highest waiting)).sends _ waiting
    (standing_range port is)
    (IsOutStore-lists_without (prios_of port.output) port.queued is.covered is.sends)
    (turn_range port.tells port.output (highest waiting)
    (λ prio found. (highest_below-some 4 prio waiting found).0))

told_read : (tells : Bool) (at : Standing) → IsStanding at
    → IsRead (if tells then symbol_burst (status at.expected at.buffers) else no_burst)
told_read true at is = status_read at is
told_read false at is = none_read

-- what it sends as it tells its free buffers
pub tell_read : (port : PortState) → IsPort port → IsRead (tell_sends port)
tell_read port is = told_read port.tells (standing port) (standing_range port is)
