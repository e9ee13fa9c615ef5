-- What a fabric knows to have nothing to do.
use Rattle.std.specs.Prelude.{◌≡◌, ◌⊎◌, ℕ, ◌+◌, Bool, true, false, List, [], ◌∷◌, length, Some, slice_get, slice_index_or}
use Rattle.link_law.specs.Resting.{has_no_work}
use Rattle.maint_packets.specs.declared.next_hop.Next.TheVariants.{Port}
use Rattle.switch_core.specs.declared.going.Going.{Going}
use Rattle.fabric_script.specs.declared.ports.PortRef.{PortRef}
use Rattle.fabric_trace.specs.Known.{Seen, link_at}
use Rattle.fabric_trace.specs.Served.{IsMove}
use Rattle.trace_lines.specs.Lines.{NoStep, Lacked}
use Rattle.fabric_ports.specs.declared.idle.Idle.{Idle}

-- a mark stands at this place
abbrev pub IsMarkedAt : List Bool → ℕ → Type 0
IsMarkedAt marks k = slice_index_or marks k false ≡ true

-- There is a place for each link and for each device. A link that is marked has no work. Of a
-- switch that is marked no packet can go.
pub record KnowsIdle (idle : Idle) (s : Seen) : Type 0 where
  pub links : (k : ℕ) (link : PortRef × PortRef) → IsMarkedAt idle.links.items k
      → slice_get s.network.links k ≡ Some link → has_no_work (link_at s link.0 link.1) ≡ true
  pub switches : (node : ℕ) → IsMarkedAt idle.switches.items node
      → IsMove s.network node (Lacked NoStep ∷ [])
  pub as_many_links : length idle.links.items ≡ length s.network.links
  pub as_many_devices : length idle.switches.items ≡ length s.network.registers

-- Of the marks those of these links and of these switches have gone, and none has come.
pub record Wakes (Links Switches : ℕ → Type 0) (old new : Idle) : Type 0 where
  pub links : (k : ℕ) → IsMarkedAt new.links.items k
      → IsMarkedAt old.links.items k × ¬ Links k
  pub switches : (node : ℕ) → IsMarkedAt new.switches.items node
      → IsMarkedAt old.switches.items node × ¬ Switches node
  pub as_many_links : length new.links.items ≡ length old.links.items
  pub as_many_devices : length new.switches.items ≡ length old.switches.items

-- at one of these places the number of this link stands
abbrev pub HasNumber : List ℕ → (ℕ → Type 0) → ℕ → Type 0
HasNumber numbers Places k =
    (place : ℕ) × Places place × (slice_get numbers place ≡ Some k)

-- a packet that goes leaves this port of its switch, or moves to it
abbrev pub IsPassed : Going → ℕ → Type 0
IsPassed going n = (n ≡ going.port) ⊎ (going.next ≡ Port n)

-- at this place stands such a port, where the ports of the switch stand in a row from a place on
abbrev pub IsPassedAt : ℕ → Going → ℕ → Type 0
IsPassedAt first going place = (n : ℕ) × IsPassed going n × (place ≡ first + n)
