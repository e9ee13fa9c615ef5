-- The steps of a switch end: each leaves one packet fewer in what its ports have received.
use Rattle.fabric_trace.proofs.Prelude.{◌≡◌, ℕ, ◌+◌, ◌<◌, ◌≤◌, arith, Bool, true, false, List, [], ◌∷◌, Option, Some, None, sym, subst, if◌then◌else◌, ⊤, prio_of, Registers, Next, Nowhere, RegisterUnit, Port, Request, next_of, request_of, response_bytes, request_answered, Moved, Dropped, Answered, Nothing, Face, face_at, has_room, answer_step, step_to, step_of, first_step_by, PortRef, packets_at, step_empties, few_prio, Stepped, Seen, faces_in, step_lines, ResponseHasForm, IsMove}
use Rattle.switch_core.specs.declared.switch.Step as switch
use Rattle.fabric_model.specs.Steps.{DeviceStep, Move, Drop, Answer, ByDevice, after}
use Rattle.fabric_trace.proofs.Network.Faces.{StepNeeds, step_needs}
use Rattle.fabric_trace.proofs.Parts.Keeping.{IsGood, good_by_priority, passes_first}

-- ---- the port of a step is one of the device's

-- the port is one of so many
abbrev IsOfPort : ℕ → switch.Step → Type 0
IsOfPort ports (Moved from to packet) = from < ports
IsOfPort ports (Dropped from packet) = from < ports
IsOfPort ports (Answered port request response) = port < ports
IsOfPort ports Nothing = ⊤

by_room : (device : Registers) (room : Bool) (made step : switch.Step) → IsOfPort device.ports made
    → (if room then Some made else None) ≡ Some step → IsOfPort device.ports step
by_room device true made step there is =
    let same : made ≡ step = cc
    in
    subst (IsOfPort device.ports) same there
by_room device false made step there is = absurd cc

module _ (device : Registers) (faces : List Face) where
  answer_there : (port : ℕ) (packet : List ℕ) (asks : Option Request) (step : switch.Step) → port
      < device.ports → answer_step device faces port packet asks ≡ Some step
      → IsOfPort device.ports step
  answer_there port packet None step there is = absurd cc
  answer_there port packet (Some request) step there is =
      let response = response_bytes (request_answered device request port).response in
      by_room device (has_room (face_at faces port) (prio_of response))
      (Answered port packet response) step there is

  to_there : (port : ℕ) (packet : List ℕ) (next : Next) (step : switch.Step) → port < device.ports
      → step_to device faces port packet next ≡ Some step → IsOfPort device.ports step
  to_there port packet Nowhere step there is = by_room device true (Dropped port packet) step there
      is
  to_there port packet RegisterUnit step there is = answer_there port packet (request_of packet)
      step there is
  to_there port packet (Port to) step there is =
      by_room device (has_room (face_at faces to) (prio_of packet)) (Moved port to packet) step
      there is

  step_there : IsOfPort device.ports (step_of device faces)
  step_there = first_step_by (IsOfPort device.ports) device faces tt
      (λ port prio packet step there head is.
      to_there port packet (next_of device packet) step there is)

-- it is one of more ports too
of_more : (ports more : ℕ) (made : switch.Step) → ports ≤ more → IsOfPort ports made
    → IsOfPort more made
of_more ports more (Moved from to packet) most there = omega arith
of_more ports more (Dropped from packet) most there = omega arith
of_more ports more (Answered port request response) most there = omega arith
of_more ports more Nothing most there = tt

-- ---- one packet fewer

-- what so many ports of a node have received, before a step and after it
abbrev pub IsOneFewer : Seen → ℕ → ℕ → DeviceStep → Type 0
IsOneFewer s node ports step = packets_at (after s.network (ByDevice step)).received node ports + 1
    ≡ packets_at s.network.received node ports

fewer_by : (s : Seen) (node ports : ℕ) (made : switch.Step) (step : DeviceStep) → IsGood s
    → ResponseHasForm made → StepNeeds s.network node made → IsOfPort ports made
    → Stepped (ByDevice step) ∷ [] ≡ step_lines node made → IsOneFewer s node ports step
fewer_by s node ports (Moved from to packet) step good form needs there is =
    let p : PortRef = record { node = node; port = from } in
    let own = Move p (record { node = node; port = to }) packet in
    let same : step ≡ own = cc in
    subst (IsOneFewer s node ports) (sym same)
    (step_empties s.network own ports needs
    (few_prio packet (passes_first s good p packet needs.1)) there)
fewer_by s node ports (Dropped from packet) step good form needs there is =
    let p : PortRef = record { node = node; port = from } in
    let own = Drop p packet in
    let same : step ≡ own = cc in
    subst (IsOneFewer s node ports) (sym same)
    (step_empties s.network own ports needs
    (few_prio packet (passes_first s good p packet needs.0)) there)
fewer_by s node ports (Answered port request response) step good form needs there is =
    let p : PortRef = record { node = node; port = port } in
    let own = Answer p request response in
    let same : step ≡ own = cc in
    let all = needs form in
    subst (IsOneFewer s node ports) (sym same)
    (step_empties s.network own ports all
    (few_prio request (passes_first s good p request all.0)) there)
fewer_by s node ports Nothing step good form needs there is = absurd cc

-- A step that a switch makes leaves one packet fewer in what its ports have received.
pub move_empties : (s : Seen) (node ports : ℕ) (step : DeviceStep) → IsGood s
    → (move : IsMove s.network node (Stepped (ByDevice step) ∷ [])) → move.device.ports ≤ ports
    → IsOneFewer s node ports step
move_empties s node ports step good move most =
    let device = move.device in
    let faces = faces_in s.network node device in
    let made = step_of device faces in
    fewer_by s node ports made step good move.form
    (step_needs s.network node device (good_by_priority good) move.stands move.switch)
    (of_more device.ports ports made most (step_there device faces)) move.lines
