-- Each step at either port keeps what is told of free buffers, and the room of packets.
use Rattle.link_sound.proofs.Prelude.{ℕ, Bool, true, false, All, List, ◌++◌, refl, subst, arith, All-nil, All-head, All-tail, All-append, appended, prio_of, IsSound, reply_sent, HasTold, FindsRoom, AreBuffers, Link, new_link, link_turned_round, IsStep, StepTurns, StepTells, StepActs, Others, StepTimesOut, Puts, Loses, StepGoesOn, IsHistory, Rests, AtFirst, AtSecond}
use Rattle.link_port.specs.Prelude.{Event, acts, turn_sends, tell_sends}
use Rattle.link_sound.specs.InTime.{LeavesRoom, HasAck, IsLinked}
use Rattle.link_sound.proofs.Steps.{exchanged, turn_keeps, tell_keeps, acted_keeps, other_keeps, time_out_keeps, lost_keeps, put_keeps, other_parts, begins}
use Rattle.link_sound.proofs.PortBounds.{new_is_port, turn_port, time_out_port, put_port, read_port, acted_port, other_port}
use Rattle.link_sound.proofs.Ranged.{turn_has, tell_has, event_has}
use Rattle.link_sound.proofs.Told.{rest_told}
use Rattle.link_sound.proofs.CreditTimely.{known_from_told, told_from_known, known_from_room, room_from_known, IsKnown}
use Rattle.link_sound.proofs.CreditHearer as hearer
use Rattle.link_sound.proofs.CreditTeller as teller

pub step_linked : (l next : Link) → IsStep l next → IsLinked l → IsLinked next
step_linked l next (StepTurns _) is = record {
  port_a = turn_port l.a is.port_a;
  port_b = is.port_b;
  sound = turn_keeps l.a l.b l.kept_a l.kept_b is.port_a.covered is.sound;
  acks_a =
      All-append HasAck l.kept_a (turn_sends l.a).sent is.acks_a
      (turn_has l.a is.port_a.expected_ack);
  acks_b = is.acks_b;
}
step_linked l next (StepTells _) is = record {
  port_a = is.port_a;
  port_b = is.port_b;
  sound = tell_keeps l.a l.b l.kept_a l.kept_b is.sound;
  acks_a =
      All-append HasAck l.kept_a (tell_sends l.a).sent is.acks_a
      (tell_has l.a is.port_a.expected_ack);
  acks_b = is.acks_b;
}
step_linked l next (StepActs _ e rest first acted) is =
    let sound = subst (λ (es : List Event). IsSound l.a l.b l.kept_a es) first is.sound in
    let has = subst (λ (es : List Event). All HasAck es) first is.acks_b in
    record {
      port_a =
          acted_port l.a l.b l.kept_a rest e is.port_a is.port_b (All-head HasAck e rest has) acted
          sound;
      port_b = is.port_b;
      sound = acted_keeps l.a l.b l.kept_a rest e is.port_a.covered acted sound;
      acks_a =
          All-append HasAck l.kept_a (reply_sent (acts l.a e).reply) is.acks_a
          (event_has l.a e is.port_a.expected_ack);
      acks_b = All-tail HasAck e rest has;
    }
step_linked l next (Others _ e other) is = record {
  port_a = other_port l.a e is.port_a other;
  port_b = is.port_b;
  sound = other_keeps l.a l.b l.kept_a l.kept_b e other is.sound;
  acks_a =
      All-append HasAck l.kept_a (reply_sent (acts l.a e).reply) is.acks_a
      (event_has l.a e is.port_a.expected_ack);
  acks_b = is.acks_b;
}
step_linked l next (StepTimesOut _) is = record {
  port_a = time_out_port l.a is.port_a;
  port_b = is.port_b;
  sound = time_out_keeps l.a l.b l.kept_a l.kept_b is.sound;
  acks_a = All-nil HasAck;
  acks_b = All-nil HasAck;
}
step_linked l next (Puts _ packet few passes room) is = record {
  port_a = put_port l.a packet few passes room is.port_a;
  port_b = is.port_b;
  sound =
      put_keeps l.a l.b l.kept_a l.kept_b (prio_of packet) packet is.port_a.covered
      (omega (arith, is.port_a.sends.four)) is.sound;
  acks_a = is.acks_a;
  acks_b = is.acks_b;
}
step_linked l next (Loses _ lost_a kept_a lost_b kept_b first second) is =
    let sound =
    subst (λ (es : List Event). IsSound l.a l.b (lost_a ++ kept_a) es) second
    (subst (λ (es : List Event). IsSound l.a l.b es l.kept_b) first is.sound) in
    record {
      port_a = is.port_a;
      port_b = is.port_b;
      sound = lost_keeps l.a l.b lost_a kept_a lost_b kept_b sound;
      acks_a =
          rest_told HasAck lost_a kept_a
          (subst (λ (es : List Event). All HasAck es) first is.acks_a);
      acks_b =
          rest_told HasAck lost_b kept_b
          (subst (λ (es : List Event). All HasAck es) second is.acks_b);
    }
step_linked l next (StepGoesOn _ received place store bounded) is = record {
  port_a = read_port l.a received place store bounded is.port_a;
  port_b = is.port_b;
  sound = other_parts l.a l.b l.kept_a l.kept_b received place is.sound;
  acks_a = is.acks_a;
  acks_b = is.acks_b;
}

pub round_linked : (l : Link) → IsLinked l → IsLinked (link_turned_round l)
round_linked l is = record {
  port_a = is.port_b;
  port_b = is.port_a;
  sound = exchanged l.a l.b l.kept_a l.kept_b is.sound;
  acks_a = is.acks_b;
  acks_b = is.acks_a;
}

linked_history : (l end : Link) → IsHistory l end → IsLinked l → IsLinked end
linked_history l end (Rests _) is = is
linked_history l end (AtFirst {next} _ step more) is =
    linked_history next end more (step_linked l next step is)
linked_history l end (AtSecond {next} _ step more) is =
    linked_history (link_turned_round next) end more
    (round_linked next (step_linked (link_turned_round l) next step (round_linked l is)))

pub new_linked : (tells_a tells_b : Bool) (m n : ℕ) → AreBuffers m → AreBuffers n
    → IsLinked (new_link tells_a tells_b m n)
new_linked tells_a tells_b m n first second = record {
  port_a = new_is_port tells_a m first;
  port_b = new_is_port tells_b n second;
  sound = record { a_to_b = begins _ _ _ refl refl; b_to_a = begins _ _ _ refl refl };
  acks_a = All-nil HasAck;
  acks_b = All-nil HasAck;
}

-- every history from two new ports
pub all_linked : (tells_a tells_b : Bool) (m n : ℕ) (l : Link) → AreBuffers m → AreBuffers n
    → IsHistory (new_link tells_a tells_b m n) l → IsLinked l
all_linked tells_a tells_b m n l first second history =
    linked_history (new_link tells_a tells_b m n) l history
    (new_linked tells_a tells_b m n first second)

-- of the first port as the one that hears
abbrev pub Hears : Bool → Link → Type 0
Hears timely l = IsKnown timely l.a l.b l.kept_a l.kept_b

-- and as the one that tells
abbrev pub Told : Bool → Link → Type 0
Told timely l = IsKnown timely l.b l.a l.kept_b l.kept_a

pub hearer_step : (timely : Bool) (l next : Link) → IsStep l next → IsLinked l → Hears timely l
    → Hears timely next
hearer_step timely l next (StepTurns _) is k =
    hearer.turn_known timely l.a l.b l.kept_a l.kept_b is.port_a is.sound k
hearer_step timely l next (StepTells _) is k = hearer.tell_known timely l.a l.b l.kept_a l.kept_b k
hearer_step timely l next (StepActs _ e rest first acted) is k =
    hearer.acted_known timely l.a l.b l.kept_a rest e is.port_a acted
    (subst (λ (es : List Event). IsSound l.a l.b l.kept_a es) first is.sound)
    (subst (λ (es : List Event). IsKnown timely l.a l.b l.kept_a es) first k)
hearer_step timely l next (Others _ e other) is k =
    hearer.other_known timely l.a l.b l.kept_a l.kept_b e other k
hearer_step timely l next (StepTimesOut _) is k =
    hearer.late_known timely l.a l.b l.kept_a l.kept_b k
hearer_step timely l next (Puts _ packet few passes room) is k =
    hearer.same_sender timely l.a l.b (appended l.a.queued (prio_of packet) packet) l.a.received
    l.a.input l.a.place l.kept_a l.kept_b k
hearer_step timely l next (Loses _ lost_a kept_a lost_b kept_b first second) is k =
    hearer.lost_known timely l.a l.b lost_a kept_a lost_b kept_b
    (subst (λ (es : List Event). IsKnown timely l.a l.b (lost_a ++ kept_a) es) second
    (subst (λ (es : List Event). IsKnown timely l.a l.b es l.kept_b) first k))
hearer_step timely l next (StepGoesOn _ received place store bounded) is k =
    hearer.same_sender timely l.a l.b l.a.queued received l.a.input place l.kept_a l.kept_b k

pub teller_step : (timely : Bool) (l next : Link) (step : IsStep l next) → LeavesRoom step
    → IsLinked l → Told timely l → Told timely next
teller_step timely l next (StepTurns _) leaves is k =
    teller.turn_told timely l.b l.a l.kept_b l.kept_a is.port_a k
teller_step timely l next (StepTells _) leaves is k =
    teller.tell_told timely l.b l.a l.kept_b l.kept_a is.port_a k
teller_step timely l next (StepActs _ e rest first acted) leaves is k =
    teller.acted_told timely l.b l.a rest l.kept_a e is.port_a is.port_b acted
    (subst (λ (es : List Event). IsSound l.a l.b l.kept_a es) first is.sound)
    (subst (λ (es : List Event). IsKnown timely l.b l.a es l.kept_a) first k)
teller_step timely l next (Others _ e other) leaves is k =
    teller.other_told timely l.b l.a l.kept_b l.kept_a e other k
teller_step timely l next (StepTimesOut _) leaves is k =
    teller.late_told timely l.b l.a l.kept_b l.kept_a k
teller_step timely l next (Puts _ packet few passes room) leaves is k =
    teller.same_receiver timely l.b l.a l.a.output (appended l.a.queued (prio_of packet) packet)
    l.kept_b l.kept_a k
teller_step timely l next (Loses _ lost_a kept_a lost_b kept_b first second) leaves is k =
    hearer.lost_known timely l.b l.a lost_b kept_b lost_a kept_a
    (subst (λ (es : List Event). IsKnown timely l.b l.a (lost_b ++ kept_b) es) first
    (subst (λ (es : List Event). IsKnown timely l.b l.a es l.kept_a) second k))
teller_step timely l next (StepGoesOn _ received place store bounded) leaves is k =
    teller.taken_told timely l.b l.a received place l.kept_b l.kept_a leaves k

-- what was told stays true at a step of either port
pub hearer_told : (l next : Link) → IsStep l next → IsLinked l → HasTold l.a l.b l.kept_b
    → HasTold next.a next.b next.kept_b
hearer_told l next step is told =
    told_from_known next.a next.b next.kept_a next.kept_b
    (hearer_step false l next step is (known_from_told l.a l.b l.kept_a l.kept_b told))

pub teller_told : (l next : Link) (step : IsStep l next) → LeavesRoom step → IsLinked l
    → HasTold l.b l.a l.kept_a → HasTold next.b next.a next.kept_a
teller_told l next step leaves is told =
    told_from_known next.b next.a next.kept_b next.kept_a
    (teller_step false l next step leaves is (known_from_told l.b l.a l.kept_b l.kept_a told))

-- and the packets find room
pub hearer_room : (l next : Link) → IsStep l next → IsLinked l
    → FindsRoom l.a l.b l.kept_a l.kept_b → FindsRoom next.a next.b next.kept_a next.kept_b
hearer_room l next step is room =
    room_from_known next.a next.b next.kept_a next.kept_b
    (hearer_step true l next step is (known_from_room l.a l.b l.kept_a l.kept_b room))

pub teller_room : (l next : Link) (step : IsStep l next) → LeavesRoom step → IsLinked l
    → FindsRoom l.b l.a l.kept_b l.kept_a → FindsRoom next.b next.a next.kept_b next.kept_a
teller_room l next step leaves is room =
    room_from_known next.b next.a next.kept_b next.kept_a
    (teller_step true l next step leaves is (known_from_room l.b l.a l.kept_b l.kept_a room))
