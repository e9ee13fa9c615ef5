-- Whole histories of two ports of a link, whatever is lost between them.
use Rattle.std.specs.Prelude.{◌≡◌, ℕ, ◌<◌, ◌≤◌, length, Bool, true, false, List, [], ◌∷◌, ◌++◌, option_to_list}
use Rattle.link_model.specs.Prelude.{prio_of, Passes, Place, IsBounded}
use Rattle.link_buffers.specs.Queues.{Buffered, list_at, appended, of_prio, IsInStore}
use Rattle.link_port.specs.Prelude.{Event, PortState, new_port, acts, is_acted, turns_to, turn_sends, tell_sends, timed_out}
use Rattle.link_sound.specs.Lent.{lent, waiting}
use Rattle.link_sound.specs.Sound.{reply_sent}

-- the packets of one direction, each list in the order in which it happened: put at the port to be
-- sent, held by the far port, and freed by the port
pub record Journeys : Type 0 where
  pub put : List (List ℕ)
  pub held : List (List ℕ)
  pub freed : List (List ℕ)

-- two ports, what each has sent and the other has not acted on, and the packets of each
pub record Link : Type 0 where
  pub a : PortState
  pub b : PortState
  pub kept_a : List Event
  pub kept_b : List Event
  pub of_a : Journeys
  pub of_b : Journeys

abbrev pub no_journeys : Journeys
no_journeys = record { put = []; held = []; freed = [] }

-- how many receive buffers a port may have
abbrev pub AreBuffers : ℕ → Type 0
AreBuffers n = (4 ≤ n) × (n ≤ 30)

-- two new ports, of which each tells its free buffers or does not
abbrev pub new_link : (tells_a tells_b : Bool) (m n : ℕ) → Link
new_link tells_a tells_b m n =
    record {
      a = new_port tells_a m;
      b = new_port tells_b n;
      kept_a = [];
      kept_b = [];
      of_a = no_journeys;
      of_b = no_journeys;
    }

-- the ports in the other order
abbrev pub link_turned_round : Link → Link
link_turned_round l =
    record { a = l.b; b = l.a; kept_a = l.kept_b; kept_b = l.kept_a; of_a = l.of_b; of_b = l.of_a }

-- the first port takes a turn
abbrev pub after_turn : Link → Link
after_turn l = record l { a = turns_to l.a; kept_a = l.kept_a ++ (turn_sends l.a).sent }

-- the first port tells its free buffers, if it does
abbrev pub after_telling : Link → Link
after_telling l = record l { kept_a = l.kept_a ++ (tell_sends l.a).sent }

-- an event comes to the first port, and this is left of what the other has sent
abbrev pub after_event : Link → Event → List Event → Link
after_event l e rest = record {
  a = (acts l.a e).port;
  b = l.b;
  kept_a = l.kept_a ++ reply_sent (acts l.a e).reply;
  kept_b = rest;
  of_a = record l.of_a { freed = l.of_a.freed ++ (acts l.a e).freed };
  of_b = record l.of_b { held = l.of_b.held ++ option_to_list (acts l.a e).held };
}

-- a time-out of the first port: whatever was on its way, both ways, is lost
abbrev pub after_time_out : Link → Link
after_time_out l = record l { a = timed_out l.a; kept_a = []; kept_b = [] }

-- a packet is put at the first port
abbrev pub after_put : Link → List ℕ → Link
after_put l packet = record l {
  a = record l.a { queued = appended l.a.queued (prio_of packet) packet };
  of_a = record l.of_a { put = l.of_a.put ++ packet ∷ [] };
}

-- what may happen at the first port
pub data IsStep : Link → Link → Type 0 where
  StepTurns : (l : Link) → IsStep l (after_turn l)
  StepTells : (l : Link) → IsStep l (after_telling l)
  -- an event that the other port sent; what it sent before it is lost already
  StepActs : (l : Link) (e : Event) (rest : List Event) → l.kept_b ≡ e ∷ rest
      → is_acted l.a e ≡ true
      → IsStep l (after_event l e rest)
  -- an event that is not acted on, whoever sent it; it may be an error, and have a reply
  Others : (l : Link) (e : Event) → is_acted l.a e ≡ false → IsStep l (after_event l e l.kept_b)
  -- after it nothing that was sent before arrives
  StepTimesOut : (l : Link) → IsStep l (after_time_out l)
  -- a packet, where its priority has a place
  Puts : (l : Link) (packet : List ℕ) → prio_of packet < 4 → Passes packet
      → length (list_at l.a.queued (prio_of packet)) < 16 → IsStep l (after_put l packet)
  -- what was sent first is lost, both ways
  Loses : (l : Link) (lost_a kept_a lost_b kept_b : List Event) → l.kept_a ≡ lost_a ++ kept_a
      → l.kept_b ≡ lost_b ++ kept_b → IsStep l (record l { kept_a = kept_a; kept_b = kept_b })
  -- the store of packets received becomes any other, as where some are taken away, and the framer
  -- reads on
  StepGoesOn : (l : Link) (received : Buffered) (place : Place) → IsInStore received
      → IsBounded place.text
      → IsStep l (record l { a = record l.a { received = received; place = place } })

-- one step after another, each at one of the ports
pub data IsHistory : Link → Link → Type 0 where
  Rests : (l : Link) → IsHistory l l
  AtFirst : {next end : Link} (l : Link) → IsStep l next → IsHistory next end → IsHistory l end
  AtSecond : {next end : Link} (l : Link) → IsStep (link_turned_round l) next
      → IsHistory (link_turned_round next) end → IsHistory l end

-- Of each priority, what was put at the port p is what the far port q has held, in order, and then
-- what still waits; and what was held is what p has freed, in order, and then what is lent.
pub record AreCarried (j : Journeys) (p q : PortState) : Type 0 where
  pub in_order : (prio : ℕ) → of_prio prio j.put ≡ of_prio prio j.held ++ list_at (waiting p q) prio
  pub freed_after_held : j.held ≡ j.freed ++ lent p q
