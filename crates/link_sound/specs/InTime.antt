-- Histories in which the layer above only takes packets away, and links in which a port was told of
-- free buffers before it started a packet.
use Rattle.std.specs.Prelude.{◌≡◌, ◌≢◌, ◌<◌, ◌≤◌, [], map, All, IsSome}
use Rattle.link_port.specs.Prelude.{Event, Ctl, Pkt, Bad, IsPort, prios_of}
use Rattle.link_sound.specs.Receiver.{ReceiverRetryStopped}
use Rattle.link_sound.specs.Meanings.{forward, receiver_of}
use Rattle.link_sound.specs.Kept.{Lacks}
use Rattle.link_sound.specs.Sound.{IsSound}
use Rattle.link_sound.specs.Told.{last_report}
use Rattle.link_sound.specs.Marks.{is_packet}
use Rattle.link_sound.specs.Credits.{HasTold, free_buffers}
use Rattle.link_sound.specs.Histories.{Link, IsStep, StepTurns, StepTells, StepActs, Others, StepTimesOut, Puts, Loses, StepGoesOn, IsHistory, Rests, AtFirst, AtSecond}

-- what becomes of the store of packets received leaves no fewer buffers free
abbrev pub LeavesRoom : {l next : Link} → IsStep l next → Type 0
LeavesRoom (StepTurns l) = Unit {0}
LeavesRoom (StepTells l) = Unit {0}
LeavesRoom (StepActs l e rest first acted) = Unit {0}
LeavesRoom (Others l e other) = Unit {0}
LeavesRoom (StepTimesOut l) = Unit {0}
LeavesRoom (Puts l packet few passes room) = Unit {0}
LeavesRoom (Loses l lost_a kept_a lost_b kept_b first second) = Unit {0}
LeavesRoom (StepGoesOn l received place store bounded) =
    free_buffers l.a.received ≤ free_buffers received

-- so at each step of the second port
abbrev pub LeaveRoom : {l end : Link} → IsHistory l end → Type 0
LeaveRoom (Rests l) = Unit {0}
LeaveRoom (AtFirst l step more) = LeaveRoom more
LeaveRoom (AtSecond l step more) = LeavesRoom step × LeaveRoom more

-- the ackID of a symbol has five bits
abbrev pub HasAck : Event → Type 0
HasAck (Ctl symbol) = symbol.p0 < 32
HasAck (Pkt ack packet) = Unit {0}
HasAck (Bad cause) = Unit {0}

-- both ends are as every port is, they are sound, and the symbols on their way are in range
pub record IsLinked (l : Link) : Type 0 where
  pub port_a : IsPort l.a
  pub port_b : IsPort l.b
  pub sound : IsSound l.a l.b l.kept_a l.kept_b
  pub acks_a : All HasAck l.kept_a
  pub acks_b : All HasAck l.kept_b

-- The first port keeps a report of the second, and has started nothing yet: nothing is outstanding,
-- and no packet of its own is on its way. The second tells its free buffers, and waits for no
-- restart-from-retry.
pub record IsToldInTime (l : Link) : Type 0 where
  pub linked : IsLinked l
  pub told : HasTold l.a l.b l.kept_b
  pub report : IsSome (last_report l.a.output)
  pub none_outstanding : prios_of l.a.output ≡ []
  pub none_comes : Lacks is_packet (map forward l.kept_a)
  pub takes : receiver_of l.b.input ≢ ReceiverRetryStopped
