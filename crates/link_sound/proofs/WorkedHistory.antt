-- A packet's way between two ports, step by step.
use Rattle.link_sound.proofs.Prelude.{◌≡◌, ℕ, true, false, None, List, [], ◌∷◌, refl, subst, arith, Passes, place_start, start_of_packet, end_of_packet, packet_accepted, Outstanding, from_ack, window, no_packets, highest_below, Link, new_link, link_turned_round, after_turn, after_event, after_put, IsStep, StepTurns, StepActs, Puts, IsHistory, Rests, AtFirst, AtSecond, no_journeys, worked_packet, one_arrived}
use Rattle.rio_packets.specs.Carries.{passes}
use Rattle.rio_packets.specs.Register.{shifted, shifted_times, fed}
use Rattle.rio_packets.proofs.CarriesLaws.{decides_passes}
use Rattle.link_port.specs.Prelude.{Event, Ctl, Pkt, PortState, new_port, turns_to, turn_sends}
use Rattle.link_model.specs.Input as in_half
use Rattle.link_model.specs.Output as out

-- the lists of a store with the packet alone
abbrev one : List (List (List ℕ))
one = (worked_packet ∷ []) ∷ [] ∷ [] ∷ [] ∷ []

abbrev sent_one : Outstanding
sent_one = record { oldest = 0; prios = 0 ∷ []; report = None }

-- the near port with the packet put, and with it sent
abbrev near_put : PortState
near_put = record {
  place = place_start;
  output = out.Output.Ok (from_ack 0 None);
  input = in_half.InputOk 0;
  queued = one;
  received = record { lists = no_packets; buffers = 4 };
  tells = false;
}

abbrev near_sent : PortState
near_sent = record {
  place = place_start;
  output = out.Output.Ok sent_one;
  input = in_half.InputOk 0;
  queued = one;
  received = record { lists = no_packets; buffers = 4 };
  tells = false;
}

-- what is sent for it, and what comes back
abbrev start_sent : Event
start_sent = Ctl (start_of_packet 0 31)

abbrev packet_sent : Event
packet_sent = Pkt 0 worked_packet

abbrev end_sent : Event
end_sent = Ctl (end_of_packet 0 31)

abbrev accepted : Event
accepted = Ctl (packet_accepted 0 31)

-- a turn of the near port
turns : turns_to near_put ≡ near_sent
unfolding highest_below window
turns = refl

sends : (turn_sends near_put).sent ≡ start_sent ∷ packet_sent ∷ end_sent ∷ []
unfolding highest_below window
sends = refl

-- the link after each step
abbrev new_one : Link
new_one = new_link false false 4 4

abbrev put_one : Link
put_one = after_put new_one worked_packet

abbrev sent_link : Link
sent_link = record {
  a = near_sent;
  b = new_port false 4;
  kept_a = start_sent ∷ packet_sent ∷ end_sent ∷ [];
  kept_b = [];
  of_a = record { put = worked_packet ∷ []; held = []; freed = [] };
  of_b = no_journeys;
}

turned_is : after_turn put_one ≡ sent_link
turned_is = λ i. record {
  a = turns i;
  b = new_port false 4;
  kept_a = sends i;
  kept_b = [];
  of_a = record { put = worked_packet ∷ []; held = []; freed = [] };
  of_b = no_journeys;
}

turn_step : IsStep put_one sent_link
turn_step = subst (λ (l : Link). IsStep put_one l) turned_is (StepTurns put_one)

abbrev begun : Link
begun = link_turned_round
    (after_event (link_turned_round sent_link) start_sent (packet_sent ∷ end_sent ∷ []))

abbrev held_link : Link
held_link = link_turned_round (after_event (link_turned_round begun) packet_sent (end_sent ∷ []))

abbrev ended : Link
ended = link_turned_round (after_event (link_turned_round held_link) end_sent [])

abbrev pub freed_link : Link
freed_link = after_event ended accepted []

-- the packet is in its link form
test_packet : passes worked_packet ≡ true
unfolding shifted shifted_times fed
test_packet = refl

pub passes_packet : Passes worked_packet
passes_packet = (decides_passes worked_packet).0 test_packet

pub whole : IsHistory new_one freed_link
whole =
    AtFirst new_one (Puts new_one worked_packet (omega arith) passes_packet (omega arith))
    (AtFirst put_one turn_step
    (AtSecond sent_link
    (StepActs (link_turned_round sent_link) start_sent (packet_sent ∷ end_sent ∷ []) refl refl)
    (AtSecond begun (StepActs (link_turned_round begun) packet_sent (end_sent ∷ []) refl refl)
    (AtSecond held_link (StepActs (link_turned_round held_link) end_sent [] refl refl)
    (AtFirst ended (StepActs ended accepted [] refl refl) (Rests freed_link))))))

pub arrives : freed_link.of_a ≡ one_arrived
arrives = refl
