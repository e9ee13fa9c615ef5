-- No port frees a packet before the next hop holds it.
use Rattle.std.specs.Prelude.{◌≡◌, ℕ, Bool, false, if◌then◌else◌, List, [], ◌∷◌, ◌++◌, Option, Some, None}
use Rattle.fabric_script.specs.declared.ports.PortRef.{PortRef}
use Rattle.fabric_model.specs.Network.{Network, same_port, peer_in}
use Rattle.fabric_model.specs.Steps.{Hold, Free, Step, Linked, AtNode, ByDevice}
use Rattle.fabric_model.specs.Laws.History.{gathered}

-- whether it is this port
abbrev pub is_port : PortRef → Option PortRef → Bool
is_port p None = false
is_port p (Some q) = same_port p q

-- the packet that the next hop of a port holds by a step
abbrev pub held_from : PortRef → Network → Step → List (List ℕ)
held_from p net (Linked (Hold q packet)) =
    if is_port p (peer_in net.links q) then packet ∷ [] else []
held_from p net (Linked (Free q packet)) = []
held_from p net (AtNode step) = []
held_from p net (ByDevice step) = []

-- the packet that a port frees by a step
abbrev pub freed_at : PortRef → Network → Step → List (List ℕ)
freed_at p net (Linked (Hold q packet)) = []
freed_at p net (Linked (Free q packet)) = if same_port p q then packet ∷ [] else []
freed_at p net (AtNode step) = []
freed_at p net (ByDevice step) = []

-- the one list is a front of the other
abbrev pub IsFront : {A : Type 0} → List A → List A → Type 0
IsFront {A} front all = (rest : List A) × (all ≡ front ++ rest)

pub record FreedAfterHeld (start : Network) (steps : List Step) : Type 0 where
  -- However far the steps have come, what a port has freed is, in order, a front of what its next
  -- hop has held: the i-th free at a port comes after the i-th hold at its peer, and has its
  -- packet.
  pub front : (done later : List Step) → steps ≡ done ++ later → (p : PortRef)
      → IsFront (gathered (freed_at p) start done) (gathered (held_from p) start done)
