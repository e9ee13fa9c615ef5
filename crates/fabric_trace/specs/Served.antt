-- What devices do with packets, as lines: the step of a switch, and what an endpoint collects.
-- Which packet goes first and where it goes is said over the lists of ports.
use Rattle.std.specs.Prelude.{◌≡◌, ℕ, zero, suc, List, [], ◌∷◌, Some, slice_get}
use Rattle.rio_packets.specs.LinkForm.{Passes}
use Rattle.maint_registers.specs.Devices.{Registers}
use Rattle.switch_core.specs.Faces.{Face}
use Rattle.switch_core.specs.SwitchSteps.{step_of}
use Rattle.switch_core.specs.EndpointSteps.{collected}
use Rattle.switch_core.specs.declared.switch.Step as switch
use Rattle.switch_core.specs.declared.switch.Step.TheVariants.{Moved, Dropped, Answered, Nothing}
use Rattle.switch_core.specs.declared.endpoint.Collected.{Collected}
use Rattle.switch_core.specs.declared.endpoint.Collected.TheVariants as Collects
use Rattle.fabric_script.specs.declared.ports.PortRef.{PortRef}
use Rattle.fabric_model.specs.Network.{Network, port_of, IsEndpoint, IsSwitch}
use Rattle.fabric_model.specs.Steps.{Leave, Move, Drop, Answer, AtNode, ByDevice}
use Rattle.trace_lines.specs.Lines.{Full, Empty, NoStep, TraceLine, Stepped, Lacked}
use Rattle.fabric_trace.specs.Views.{lists_in, queue}

-- the lists of a port of the network, those that are lent among what it has to send
abbrev pub face_in : Network → PortRef → Face
face_in net p = record { received = lists_in (net.received p); queued = lists_in (queue net p) }

-- the lists of so many ports of a node, from this one on
abbrev pub faces_from : Network → ℕ → ℕ → ℕ → List Face
faces_from net node port zero = []
faces_from net node port (suc n) =
    face_in net record { node = node; port = port } ∷ faces_from net node (suc port) n

-- the lists of all ports of a device
abbrev pub faces_in : Network → ℕ → Registers → List Face
faces_in net node device = faces_from net node 0 device.ports

-- ---- a switch

abbrev pub step_lines : ℕ → switch.Step → List TraceLine
step_lines node (Moved from to packet) =
    Stepped (ByDevice (Move record { node = node; port = from } record { node = node; port = to }
    packet)) ∷ []
step_lines node (Dropped from packet) =
    Stepped (ByDevice (Drop record { node = node; port = from } packet)) ∷ []
step_lines node (Answered port request response) =
    Stepped (ByDevice (Answer record { node = node; port = port } request response)) ∷ []
step_lines node Nothing = Lacked NoStep ∷ []

-- a response is a packet in its link form
abbrev pub ResponseHasForm : switch.Step → Type 0
ResponseHasForm (Answered port request response) = Passes response
ResponseHasForm (Moved from to packet) = Unit {0}
ResponseHasForm (Dropped from packet) = Unit {0}
ResponseHasForm Nothing = Unit {0}

-- the switch makes the first step that it can make
pub record IsMove (net : Network) (node : ℕ) (block : List TraceLine) : Type 0 where
  pub switch : IsSwitch net node
  pub device : Registers
  pub stands : slice_get net.registers node ≡ Some device
  pub form : ResponseHasForm (step_of device (faces_in net node device))
  pub lines : block ≡ step_lines node (step_of device (faces_in net node device))

-- ---- an endpoint

abbrev pub collect_lines : ℕ → Collected → List TraceLine
collect_lines node (Collects.Left packet) = Stepped (AtNode (Leave node packet)) ∷ []
collect_lines node (Collects.Answered request response) =
    Stepped (ByDevice (Answer (port_of node) request response)) ∷ []
collect_lines node Collects.Empty = Lacked Empty ∷ []
collect_lines node Collects.Full = Lacked Full ∷ []

abbrev pub HasResponseForm : Collected → Type 0
HasResponseForm (Collects.Answered request response) = Passes response
HasResponseForm (Collects.Left packet) = Unit {0}
HasResponseForm Collects.Empty = Unit {0}
HasResponseForm Collects.Full = Unit {0}

-- the endpoint collects the packet whose turn it is
pub record IsCollect (net : Network) (node : ℕ) (block : List TraceLine) : Type 0 where
  pub endpoint : IsEndpoint net node
  pub device : Registers
  pub stands : slice_get net.registers node ≡ Some device
  pub form : HasResponseForm (collected device (face_in net (port_of node)))
  pub lines : block ≡ collect_lines node (collected device (face_in net (port_of node)))
