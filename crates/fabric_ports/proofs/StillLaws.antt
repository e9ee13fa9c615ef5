-- A device that changes only what it shows moves the same packets: if none of it could go, none can
-- afterwards.
use Rattle.std.proofs.Common.{◌≡◌, ℕ, zero, suc, Bool, true, false, List, [], ◌∷◌, Option, Some, None, option_map, unwrap_or, refl, sym, ap, ◌∙◌, subst, if◌then◌else◌}
use Rattle.std.specs.Option.{option_or}
use Rattle.rio_packets.specs.Fields.{prio_of}
use Rattle.maint_registers.specs.Devices.{Registers, is_switch}
use Rattle.maint_registers.proofs.ChangeLaws.{device-changed, kinds_stay}
use Rattle.maint_packets.specs.declared.next_hop.Next.{Next}
use Rattle.maint_packets.specs.declared.next_hop.Next.TheVariants.{Nowhere, RegisterUnit, Port}
use Rattle.maint_packets.specs.declared.request.Request.{Request}
use Rattle.maint_packets.specs.Answers.{request_answered}
use Rattle.maint_packets.specs.NextHops.{next_of}
use Rattle.maint_packets.specs.Requests.{request_of}
use Rattle.maint_packets.specs.Responses.{response_bytes}
use Rattle.switch_core.specs.declared.switch.Step.{Step}
use Rattle.switch_core.specs.declared.switch.Step.TheVariants.{Moved, Dropped, Answered, Nothing}
use Rattle.switch_core.specs.Faces.{Face, face_at, head_of, has_room}
use Rattle.switch_core.specs.Order.{least_first, greatest_first}
use Rattle.switch_core.specs.SwitchSteps.{answer_step, step_to, step_of_head, step_at, first_step}
use Rattle.switch_core.proofs.OrderLaws.{least_first-is, greatest_first-is}
use Rattle.switch_core.proofs.RequestLaws.{answer_prio}
use Rattle.fabric_model.specs.Network.{Network}
use Rattle.fabric_trace.specs.Served.{IsMove, ResponseHasForm, faces_from, faces_in, step_lines}
use Rattle.fabric_trace.specs.Settings.{with_change}
use Rattle.trace_lines.specs.Lines.{NoStep, Lacked}

-- ---- the first of several that has an answer

both_none : {A : Type 0} (o p : Option A) → option_or o p ≡ None → (o ≡ None) × (p ≡ None)
both_none None p none = (refl, none)
both_none (Some x) p none = absurd cc

-- where others have no answer either, the first has none
module _ {A : Type 0} (answer other : ℕ → Option A)
    (none_on : (n : ℕ) → answer n ≡ None → other n ≡ None) where
  least_none : (n : ℕ) → least_first answer n ≡ None → least_first other n ≡ None
  unfolding least_first
  least_none zero none = refl
  least_none (suc n) none =
      let both = both_none (least_first answer n) (answer n) none in
      rw (least_none n both.0, none_on n both.1) refl

  greatest_none : (n : ℕ) → greatest_first answer n ≡ None → greatest_first other n ≡ None
  unfolding greatest_first
  greatest_none zero none = refl
  greatest_none (suc n) none =
      let both = both_none (answer n) (greatest_first answer n) none in
      rw (none_on n both.0, greatest_none n both.1) refl

-- ---- a step is one

some_given : {A : Type 0} (room : Bool) (x y : A) → (if room then Some x else None) ≡ Some y
    → x ≡ y
some_given true x y is = cc
some_given false x y is = absurd cc

never_to : (device : Registers) (faces : List Face) (port : ℕ) (packet : List ℕ) (next : Next)
    → ¬ (step_to device faces port packet next ≡ Some Nothing)
never_to device faces port packet Nowhere is = absurd cc
never_to device faces port packet (Port to) is =
    let same =
    some_given (has_room (face_at faces to) (prio_of packet)) (Moved port to packet) Nothing is in
    absurd (cc same)
never_to device faces port packet RegisterUnit is = by_request (request_of packet) is
  where
    by_request : (o : Option Request) → ¬ (answer_step device faces port packet o ≡ Some Nothing)
    by_request None is = absurd cc
    by_request (Some request) is =
        let response = response_bytes (request_answered device request port).response in
        let same = some_given (has_room (face_at faces port) (prio_of response))
        (Answered port packet response) Nothing is in
        absurd (cc same)

never_head : (device : Registers) (faces : List Face) (port : ℕ) (head : Option (List ℕ))
    → ¬ (step_of_head device faces port head ≡ Some Nothing)
never_head device faces port None is = absurd cc
never_head device faces port (Some packet) is =
    never_to device faces port packet (next_of device packet) is

never_first : (device : Registers) (faces : List Face)
    → ¬ (first_step device faces ≡ Some Nothing)
never_first device faces is =
    let of_prio = greatest_first-is
    (λ prio. least_first (step_at device faces prio) device.ports) 4 Nothing is in
    let at = least_first-is (step_at device faces of_prio.0) device.ports Nothing of_prio.2 in
    never_head device faces at.0 (head_of (face_at faces at.0) of_prio.0) at.2

-- where no packet can go there is no first step
no_first : (node : ℕ) (device : Registers) (faces : List Face) (o : Option Step)
    → first_step device faces ≡ o → Lacked NoStep ∷ [] ≡ step_lines node (unwrap_or o Nothing)
    → o ≡ None
no_first node device faces None is lines = refl
no_first node device faces (Some (Moved from to packet)) is lines = absurd cc
no_first node device faces (Some (Dropped from packet)) is lines = absurd cc
no_first node device faces (Some (Answered port request response)) is lines = absurd cc
no_first node device faces (Some Nothing) is lines = absurd (never_first device faces is)

-- ---- a device that changes what it shows moves the same packets

-- a device stays of its kind, with its ports, and sends packets where it did
pub record LeavesWays (change : Registers → Registers) : Type 0 where
  pub kind : (device : Registers) → is_switch (change device) ≡ is_switch device
  pub ports : (device : Registers) → (change device).ports ≡ device.ports
  pub next : (device : Registers) (packet : List ℕ)
      → next_of (change device) packet ≡ next_of device packet

no_room : {A : Type 0} (room : Bool) (x y : A) → (if room then Some x else None) ≡ None
    → (if room then Some y else None) ≡ None
no_room true x y none = absurd cc
no_room false x y none = refl

none_to : (device other : Registers) (faces : List Face) (port : ℕ) (packet : List ℕ)
    (next : Next) → step_to device faces port packet next ≡ None
    → step_to other faces port packet next ≡ None
none_to device other faces port packet Nowhere none = none
none_to device other faces port packet (Port to) none = none
none_to device other faces port packet RegisterUnit none = by_request (request_of packet) none
  where
    by_request : (o : Option Request) → answer_step device faces port packet o ≡ None
        → answer_step other faces port packet o ≡ None
    by_request None none = refl
    by_request (Some request) none =
        let before = response_bytes (request_answered device request port).response in
        let after = response_bytes (request_answered other request port).response in
        let prio : prio_of before ≡ prio_of after =
        answer_prio device request port ∙ sym (answer_prio other request port) in
        subst (λ r. (if has_room (face_at faces port) r then Some (Answered port packet after)
        else None) ≡ None) prio
        (no_room (has_room (face_at faces port) (prio_of before)) (Answered port packet before)
        (Answered port packet after) none)

module _ (change : Registers → Registers) (leaves : LeavesWays change) where
  none_head : (device : Registers) (faces : List Face) (port : ℕ) (head : Option (List ℕ))
      → step_of_head device faces port head ≡ None
      → step_of_head (change device) faces port head ≡ None
  none_head device faces port None none = refl
  none_head device faces port (Some packet) none =
      ap (step_to (change device) faces port packet) (leaves.next device packet)
      ∙ none_to device (change device) faces port packet (next_of device packet) none

  none_first : (device : Registers) (faces : List Face) → first_step device faces ≡ None
      → first_step (change device) faces ≡ None
  none_first device faces none =
      let first = λ (n : ℕ).
      greatest_first (λ prio. least_first (step_at (change device) faces prio) n) 4 in
      ap first (leaves.ports device)
      ∙ greatest_none (λ prio. least_first (step_at device faces prio) device.ports)
      (λ prio. least_first (step_at (change device) faces prio) device.ports)
      (λ prio before. least_none (step_at device faces prio)
      (step_at (change device) faces prio)
      (λ port. none_head device faces port (head_of (face_at faces port) prio)) device.ports
      before)
      4 none

  -- a switch of which no packet can go stays one
  pub still_rests : (net : Network) (node : ℕ) → IsMove net node (Lacked NoStep ∷ [])
      → IsMove (with_change net node change) node (Lacked NoStep ∷ [])
  still_rests net node move =
      let device = change move.device in
      let faces = faces_in net node move.device in
      let none = none_first move.device faces
      (no_first node move.device faces (first_step move.device faces) refl move.lines) in
      let here : first_step device (faces_from net node 0 device.ports) ≡ None =
      ap (λ n. first_step device (faces_from net node 0 n)) (leaves.ports move.device) ∙ none in
      record {
        switch = kinds_stay net.registers node node change leaves.kind ∙ move.switch;
        device = device;
        stands = device-changed net.registers node change ∙ ap (option_map change) move.stands;
        form = subst ResponseHasForm (ap (λ o. unwrap_or o Nothing) (sym here)) tt;
        lines = ap (λ o. step_lines node (unwrap_or o Nothing)) (sym here);
      }
