-- What a switch makes of a packet is in its link form if all that the network holds is: so each
-- switch has a move.
use Rattle.fabric_trace.proofs.Prelude.{◌≡◌, ℕ, ◌<◌, true, List, Option, Some, None, option_map, slice_get, arith, refl, sym, ap, ◌∙◌, subst, prio_of, Passes, Registers, is_switch, IsWithin, Next, Nowhere, RegisterUnit, Port, Request, next_of, request_of, response_bytes, request_answered, responses_pass, Moved, Dropped, Answered, Face, face_at, head_of, has_room, answer_step, step_to, step_of, first_step_by, PortRef, Network, IsSwitch, IsFormed, Seen, face_in, faces_in, step_lines, ResponseHasForm, IsMove}
use Rattle.switch_core.specs.declared.switch.Step as switch
use Rattle.fabric_model.proofs.Forms.{device_at}
use Rattle.fabric_trace.proofs.Network.Faces.{head_held, face_is, if_some}
use Rattle.fabric_trace.proofs.Parts.Keeping.{IsGood, good_by_priority, passes_first}

-- a node's device
pub record StandsAt (net : Network) (node : ℕ) : Type 0 where
  pub device : Registers
  pub stands : slice_get net.registers node ≡ Some device

-- a switch is one of the devices
pub switch_stands : (net : Network) (node : ℕ) → IsSwitch net node → StandsAt net node
switch_stands net node switch = by_found (slice_get net.registers node) refl switch
  where
    by_found : (found : Option Registers) → slice_get net.registers node ≡ found
        → option_map is_switch found ≡ Some true → StandsAt net node
    by_found None at is = absurd cc
    by_found (Some device) at is = record { device = device; stands = at }

module _ (s : Seen) (node : ℕ) (device : Registers) (good : IsGood s) (formed : IsFormed s.network)
    (stands : slice_get s.network.registers node ≡ Some device) where
  answer_form : (port : ℕ) (packet : List ℕ) (asks : Option Request) (step : switch.Step) → port
      < device.ports → Passes packet → request_of packet ≡ asks
      → answer_step device (faces_in s.network node device) port packet asks ≡ Some step
      → ResponseHasForm step
  answer_form port packet None step there passes asks is = absurd cc
  answer_form port packet (Some request) step there passes asks is =
      let response = response_bytes (request_answered device request port).response in
      let within : IsWithin device = device_at s.network.registers node device stands
      formed.registers in
      let most = within.ports in
      let made =
      if_some (has_room (face_at (faces_in s.network node device) port) (prio_of response))
      (Answered port packet response) step is in
      subst ResponseHasForm made.1
      (responses_pass device packet request port within (omega arith) passes asks)

  to_form : (port : ℕ) (packet : List ℕ) (next : Next) (step : switch.Step) → port < device.ports
      → Passes packet → step_to device (faces_in s.network node device) port packet next ≡ Some step
      → ResponseHasForm step
  to_form port packet Nowhere step there passes is =
      let same : Dropped port packet ≡ step = cc in
      subst ResponseHasForm same tt
  to_form port packet RegisterUnit step there passes is =
      answer_form port packet (request_of packet) step there passes refl is
  to_form port packet (Port to) step there passes is =
      let made = if_some (has_room (face_at (faces_in s.network node device) to) (prio_of packet))
      (Moved port to packet) step is in
      subst ResponseHasForm made.1 tt

  -- what a switch makes is in its link form
  pub step_form : ResponseHasForm (step_of device (faces_in s.network node device))
  step_form = first_step_by ResponseHasForm device (faces_in s.network node device) tt
      (λ port r packet step there head is.
      let p : PortRef = record { node = node; port = port } in
      let own : head_of (face_in s.network p) r ≡ Some packet =
      ap (λ (f : Face). head_of f r) (sym (face_is s.network node device port there)) ∙ head in
      to_form port packet (next_of device packet) step there
      (passes_first s good p packet
      (head_held s.network p r packet (good_by_priority good) own).first) is)

-- A switch has a move, if only the one that no packet of it can go.
pub move_exists : (s : Seen) (node : ℕ) → IsGood s → IsFormed s.network → IsSwitch s.network node
    → (step : switch.Step) × IsMove s.network node (step_lines node step)
move_exists s node good formed kind =
    let found = switch_stands s.network node kind in (
      step_of found.device (faces_in s.network node found.device),
      record {
        switch = kind;
        device = found.device;
        stands = found.stands;
        form = step_form s node found.device good formed found.stands;
        lines = refl;
      },
    )
