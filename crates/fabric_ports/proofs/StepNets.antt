-- What the network is behind a step of a switch: which lists and which registers it changes.
use Rattle.std.proofs.Common.{◌≡◌, ◌≢◌, inl, inr, ℕ, ◌<◌, List, [], ◌∷◌, map, slice_get, slice_set, Option, Some, None, refl, sym, ap, ◌∙◌, subst}
use Rattle.rio_packets.specs.Fields.{prio_of}
use Rattle.rio_packets.specs.LinkForm.{Passes}
use Rattle.maint_packets.specs.declared.next_hop.Next.TheVariants.{Port}
use Rattle.maint_packets.specs.declared.request.Request.{Request}
use Rattle.maint_packets.specs.NextHops.{moved}
use Rattle.maint_packets.specs.Requests.{request_of}
use Rattle.maint_registers.proofs.ChangeLaws.{set-change}
use Rattle.maint_registers.specs.Devices.{Registers}
use Rattle.switch_core.specs.Faces.{Face, put_at, taken_at}
use Rattle.switch_core.specs.Goings.{going_of}
use Rattle.switch_core.specs.declared.going.Going.{Going}
use Rattle.switch_core.specs.SwitchSteps.{faces_after, answered_by, switch_after}
use Rattle.switch_core.specs.declared.switch.Step as switch
use Rattle.switch_core.specs.declared.switch.Step.TheVariants.{Moved, Dropped, Answered, Nothing}
use Rattle.fabric_script.specs.declared.ports.PortRef.{PortRef}
use Rattle.fabric_model.specs.Network.{Network}
use Rattle.fabric_model.specs.Serving.{device_after}
use Rattle.fabric_model.specs.Steps.{Move, Drop, Answer, ByDevice, Needs, only_first, moved_item, without_first, with_waiting, item_of, after}
use Rattle.fabric_model.proofs.Boards.{first_item}
use Rattle.fabric_model.proofs.Moving.{moves_on, named_goes, sent_by}
use Rattle.fabric_trace.specs.Fold.{seen}
use Rattle.fabric_trace.specs.Known.{Seen}
use Rattle.fabric_trace.specs.Served.{face_in}
use Rattle.fabric_trace.proofs.Network.Faces.{StepNeeds}
use Rattle.fabric_trace.proofs.Parts.Keeping.{few_prio}
use Rattle.fabric_ports.specs.Idling.{IsPassed}
use Rattle.fabric_ports.specs.Switching.{AreForms, written_lines}
use Rattle.fabric_ports.proofs.FaceLaws.{without_other, more_other, ports_part, port, AreFacesOf, taken_faces, put_faces, SamePlans}
use Rattle.fabric_ports.proofs.NodeLaws.{set_same}

pub after_step : Network → ℕ → switch.Step → Network
after_step net node (Moved from to packet) =
    after net (ByDevice (Move (port node from) (port node to) packet))
after_step net node (Dropped from packet) = after net (ByDevice (Drop (port node from) packet))
after_step net node (Answered at request response) =
    after net (ByDevice (Answer (port node at) request response))
after_step net node Nothing = net

pub seen_after : (s : Seen) (node : ℕ) (step : switch.Step)
    → seen s (written_lines node step) ≡ record s { network = after_step s.network node step }
unfolding after_step
seen_after s node (Moved from to packet) = refl
seen_after s node (Dropped from packet) = refl
seen_after s node (Answered at request response) = refl
seen_after s node Nothing = refl

pub after_none : (net : Network) (node : ℕ) → after_step net node Nothing ≡ net
unfolding after_step
after_none net node = refl

pub plans_stay : (net : Network) (node : ℕ) (step : switch.Step)
    → SamePlans (after_step net node step) net
unfolding after_step
plans_stay net node (Moved from to packet) = (refl, refl)
plans_stay net node (Dropped from packet) = (refl, refl)
plans_stay net node (Answered at request response) = (refl, refl)
plans_stay net node Nothing = (refl, refl)

pub links_stay : (net : Network) (node : ℕ) (step : switch.Step)
    → (after_step net node step).links ≡ net.links
unfolding after_step
links_stay net node (Moved from to packet) = refl
links_stay net node (Dropped from packet) = refl
links_stay net node (Answered at request response) = refl
links_stay net node Nothing = refl

-- the packet that was first moves to the port
move_faces : (net : Network) (node n from to : ℕ) (packet : List ℕ) (lists : List Face)
    → Passes packet → Needs net (ByDevice (Move (port node from) (port node to) packet))
    → AreFacesOf net node n lists
    → AreFacesOf (after net (ByDevice (Move (port node from) (port node to) packet))) node n
    (put_at (taken_at lists from (prio_of packet)) to (moved packet))
move_faces net node n from to packet lists passes needs are =
    let p = port node from in
    let q = port node to in
    let r = prio_of packet in
    let less = without_first net p r in
    let first = first_item (net.received p r) packet needs.1 in
    let sent = sent_by net p.node packet (Port q.port) needs.2 in
    let on = moves_on packet passes (named_goes sent.device packet q.port sent.sends) in
    let item = moved_item first.item in
    let now : item.now ≡ moved packet = ap moved first.now in
    let prio : prio_of item.now ≡ r = ap prio_of now ∙ on.prio in
    let only : only_first (map moved_item (net.received p r)) ≡ item ∷ [] =
    ap (λ xs. only_first (map moved_item xs)) first.whole in
    let few : prio_of item.now < 4 = few_prio _ (subst Passes (sym now) on.passes) in
    let taken = taken_faces net node n from r lists (few_prio packet passes) are in
    let put = put_faces less node n to item (taken_at lists from r) few taken in
    subst (λ (next : Network). AreFacesOf next node n
    (put_at (taken_at lists from r) to (moved packet)))
    (λ i. with_waiting less q (prio i) (sym only i))
    (subst (λ (x : List ℕ). AreFacesOf (with_waiting less q (prio_of item.now) (item ∷ [])) node n
    (put_at (taken_at lists from r) to x)) now put)

pub step_faces : (net : Network) (node n : ℕ) (step : switch.Step) (lists : List Face)
    → AreForms step → StepNeeds net node step → AreFacesOf net node n lists
    → AreFacesOf (after_step net node step) node n (faces_after lists step)
unfolding after_step
step_faces net node n (Moved from to packet) lists forms needs are =
    move_faces net node n from to packet lists forms needs are
step_faces net node n (Dropped from packet) lists forms needs are =
    taken_faces net node n from (prio_of packet) lists (few_prio packet forms) are
step_faces net node n (Answered at request response) lists forms needs are =
    let less = without_first net (port node at) (prio_of request) in
    put_faces less node n at (item_of less (port node at) response)
    (taken_at lists at (prio_of request)) (few_prio response forms.1)
    (taken_faces net node n at (prio_of request) lists (few_prio request forms.0) are)
step_faces net node n Nothing lists forms needs are = are

-- a port that no packet leaves, and to which none moves
pub step_apart : (net : Network) (node : ℕ) (step : switch.Step) (q : PortRef)
    → (q.node ≡ node → (going : Going) → going_of step ≡ Some going → ¬ IsPassed going q.port)
    → face_in (after_step net node step) q ≡ face_in net q
unfolding after_step
step_apart net node (Moved from to packet) q away =
    let own : q.node ≡ node → q.port ≢ from = λ same is. away same _ refl (inl is) in
    let other : q.node ≡ node → q.port ≢ to =
    λ same is. away same _ refl (inr (ap Port (sym is))) in
    more_other (without_first net (port node from) (prio_of packet)) (port node to) (prio_of packet)
    (only_first (map moved_item (net.received (port node from) (prio_of packet)))) q
    (ports_part (port node to) q other)
    ∙ without_other net (port node from) (prio_of packet) q (ports_part (port node from) q own)
step_apart net node (Dropped from packet) q away =
    without_other net (port node from) (prio_of packet) q
    (ports_part (port node from) q (λ same is. away same _ refl (inl is)))
step_apart net node (Answered at request response) q away =
    let less = without_first net (port node at) (prio_of request) in
    let part = ports_part (port node at) q (λ same is. away same _ refl (inl is)) in
    more_other less (port node at) (prio_of response)
    (item_of less (port node at) response ∷ []) q part
    ∙ without_other net (port node at) (prio_of request) q part
step_apart net node Nothing q away = refl

pub step_others : (net : Network) (node : ℕ) (step : switch.Step) (q : PortRef) → q.node ≢ node
    → face_in (after_step net node step) q ≡ face_in net q
step_others net node step q apart = step_apart net node step q (λ same going is passed. apart same)

answered_is : (device : Registers) (at : ℕ) (request : Option Request)
    → device_after at request device ≡ answered_by device at request
answered_is device at None = refl
answered_is device at (Some request) = refl

pub step_registers : (net : Network) (node : ℕ) (device : Registers) (step : switch.Step)
    → slice_get net.registers node ≡ Some device
    → (after_step net node step).registers
    ≡ slice_set net.registers node (switch_after device step)
unfolding after_step
step_registers net node device (Moved from to packet) stands =
    sym (set_same net.registers node device stands)
step_registers net node device (Dropped from packet) stands =
    sym (set_same net.registers node device stands)
step_registers net node device (Answered at request response) stands =
    sym (set-change net.registers node device (device_after at (request_of request)) stands)
    ∙ ap (slice_set net.registers node) (answered_is device at (request_of request))
step_registers net node device Nothing stands =
    sym (set_same net.registers node device stands)
