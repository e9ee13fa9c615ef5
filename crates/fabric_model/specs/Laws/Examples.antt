-- Small lists of steps: a worked run over one link, and for laws that can fail a list of which each
-- does not hold.
use Rattle.std.specs.Prelude.{ℕ, true, List, [], ◌∷◌}
use Rattle.maint_registers.specs.Devices.{new_endpoint}
use Rattle.fabric_model.specs.Network.{Item, Network, bare, port_of, with_lane}
use Rattle.fabric_model.specs.Steps.{Hold, Free, Take, Leave, Step, Linked, AtNode, after_all}

-- a packet of priority 0 and format type 15, from device 1 to 2
abbrev pub packet : List ℕ
packet = 0x00 ∷ 0x0f ∷ 0x02 ∷ 0x01 ∷ 0xca ∷ 0xfe ∷ 0x00 ∷ 0x01 ∷ 0xa9 ∷ 0xbb ∷ 0x00 ∷ 0x00 ∷ []

-- another packet of the same flow
abbrev pub other : List ℕ
other = 0x00 ∷ 0x0f ∷ 0x02 ∷ 0x01 ∷ 0xca ∷ 0xfe ∷ 0x46 ∷ 0xff ∷ []

-- two endpoints and their link
abbrev pub pair : Network
pair = record bare {
  registers = new_endpoint 1 true ∷ new_endpoint 2 true ∷ [];
  links = (port_of 0, port_of 1) ∷ [];
}

-- a packet goes over the link, and leaves
abbrev pub pair_steps : List Step
pair_steps = AtNode (Take 0 packet) ∷ Linked (Hold (port_of 1) packet)
    ∷ Linked (Free (port_of 0) packet) ∷ AtNode (Leave 1 packet) ∷ []

-- the packet as the first item
abbrev pub first : Item
first = record { number = 0; port = port_of 0; taken = packet; now = packet }

-- the packet is held, and still waits
abbrev pub held_once : List Step
held_once = AtNode (Take 0 packet) ∷ Linked (Hold (port_of 1) packet) ∷ []

abbrev pub kept_too : Network
kept_too = record (after_all pair held_once) { waiting = λ p r. first ∷ [] }

-- it leaves twice
abbrev pub left_twice : List Step
left_twice = AtNode (Take 0 packet) ∷ Linked (Hold (port_of 1) packet) ∷ AtNode (Leave 1 packet)
    ∷ AtNode (Leave 1 packet) ∷ []

-- one number stands twice, and both items leave
abbrev pub twins : Network
twins = record pair { received = with_lane (λ p r. []) (port_of 1) 0 (first ∷ first ∷ []) }

abbrev pub left_both : List Step
left_both = AtNode (Leave 1 packet) ∷ AtNode (Leave 1 packet) ∷ []

-- it leaves as another
abbrev pub left_as_other : List Step
left_as_other = AtNode (Take 0 packet) ∷ Linked (Hold (port_of 1) packet) ∷ AtNode (Leave 1 other)
    ∷ []

-- it is freed before it is held
abbrev pub freed_too_early : List Step
freed_too_early = AtNode (Take 0 packet) ∷ Linked (Free (port_of 0) packet)
    ∷ Linked (Hold (port_of 1) packet) ∷ []

-- a port in two links, so not proper, and the second packet overtakes the first by the other link
abbrev pub fork : Network
fork = record bare {
  registers = new_endpoint 1 true ∷ new_endpoint 2 true ∷ new_endpoint 3 true ∷ [];
  links = (port_of 0, port_of 1) ∷ (port_of 0, port_of 2) ∷ [];
}

abbrev pub overtaking : List Step
overtaking =
    AtNode (Take 0 packet)
    ∷ AtNode (Take 0 other)
    ∷ Linked (Hold (port_of 1) packet)
    ∷ Linked (Hold (port_of 2) other)
    ∷ AtNode (Leave 2 other)
    ∷ AtNode (Leave 1 packet)
    ∷ []
