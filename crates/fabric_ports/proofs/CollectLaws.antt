-- What a call did that collects a packet at an endpoint.
use Rattle.std.proofs.Common.{◌≡◌, ℕ, false, List, [], ◌∷◌, slice_get, slice_set, Option, Some, None, option_map, refl, sym, ap, ◌∙◌, subst}
use Rattle.trace_lines.specs.Writing.{Adds}
use Rattle.trace_lines.specs.declared.writer.TraceWriter.{TraceWriter}
use Rattle.rio_packets.specs.Fields.{prio_of}
use Rattle.rio_packets.specs.LinkForm.{Passes}
use Rattle.link_port.specs.Ports.{PortState, AreAlike}
use Rattle.maint_packets.specs.declared.request.Request.{Request}
use Rattle.maint_packets.specs.Requests.{request_of}
use Rattle.maint_registers.proofs.ChangeLaws.{set-change}
use Rattle.maint_registers.specs.Devices.{Registers, IsSameDevice, is_switch}
use Rattle.switch_core.specs.declared.endpoint.Collected.{Collected}
use Rattle.switch_core.specs.declared.endpoint.Collected.TheVariants as Collects
use Rattle.switch_core.specs.EndpointSteps.{collected, face_after, answered_on_0, endpoint_after}
use Rattle.switch_core.specs.Faces.{with_packet}
use Rattle.fabric_script.specs.declared.ports.PortRef.{PortRef}
use Rattle.fabric_model.specs.Network.{Network, port_of, same_port}
use Rattle.fabric_model.specs.Serving.{device_after}
use Rattle.fabric_model.specs.Steps.{Leave, Answer, AtNode, ByDevice, without_first, item_of, after}
use Rattle.fabric_trace.specs.Fold.{seen}
use Rattle.fabric_trace.specs.Known.{Seen, port_seen}
use Rattle.fabric_trace.specs.Served.{face_in, collect_lines, HasResponseForm, IsCollect}
use Rattle.fabric_trace.proofs.Parts.Keeping.{few_prio}
use Rattle.fabric_ports.specs.declared.answers.Happened.{Happened}
use Rattle.fabric_ports.specs.declared.fabric.Fabric.{Fabric}
use Rattle.fabric_ports.specs.Events.{Did, answer_collected}
use Rattle.fabric_ports.specs.Places.{IsEndpointAt}
use Rattle.fabric_ports.specs.Showing.{ShowsFabric}
use Rattle.fabric_ports.proofs.FaceLaws.{without_own, without_other, more_own, more_other, face_of_port, SamePlans, port_faced, port_stays}
use Rattle.fabric_ports.proofs.NodeLaws.{set_same, HasBoth, port_shows}

-- its packets are ones in their link form
abbrev pub AreForms : Collected → Type 0
AreForms (Collects.Left packet) = Passes packet
AreForms (Collects.Answered request response) = Passes request × Passes response
AreForms Collects.Empty = Unit {0}
AreForms Collects.Full = Unit {0}

has_form : (told : Collected) → AreForms told → HasResponseForm told
has_form (Collects.Left packet) forms = tt
has_form (Collects.Answered request response) forms = forms.1
has_form Collects.Empty forms = tt
has_form Collects.Full forms = tt

-- ---- the network afterwards

after_collect : Network → ℕ → Collected → Network
after_collect net n (Collects.Left packet) = after net (AtNode (Leave n packet))
after_collect net n (Collects.Answered request response) =
    after net (ByDevice (Answer (port_of n) request response))
after_collect net n Collects.Empty = net
after_collect net n Collects.Full = net

seen_after : (s : Seen) (n : ℕ) (told : Collected)
    → seen s (collect_lines n told) ≡ record s { network = after_collect s.network n told }
unfolding after_collect
seen_after s n (Collects.Left packet) = refl
seen_after s n (Collects.Answered request response) = refl
seen_after s n Collects.Empty = refl
seen_after s n Collects.Full = refl

plans_stay : (net : Network) (n : ℕ) (told : Collected)
    → SamePlans (after_collect net n told) net
unfolding after_collect
plans_stay net n (Collects.Left packet) = (refl, refl)
plans_stay net n (Collects.Answered request response) = (refl, refl)
plans_stay net n Collects.Empty = (refl, refl)
plans_stay net n Collects.Full = (refl, refl)

links_stay : (net : Network) (n : ℕ) (told : Collected)
    → (after_collect net n told).links ≡ net.links
unfolding after_collect
links_stay net n (Collects.Left packet) = refl
links_stay net n (Collects.Answered request response) = refl
links_stay net n Collects.Empty = refl
links_stay net n Collects.Full = refl

collect_face : (net : Network) (n : ℕ) (told : Collected) → AreForms told
    → face_in (after_collect net n told) (port_of n) ≡ face_after (face_in net (port_of n)) told
unfolding after_collect
collect_face net n (Collects.Left packet) forms =
    without_own net (port_of n) (prio_of packet) (few_prio packet forms)
collect_face net n (Collects.Answered request response) forms =
    let p = port_of n in
    let less = without_first net p (prio_of request) in
    more_own less p (item_of less p response) (few_prio response forms.1)
    ∙ ap (λ f. with_packet f response) (without_own net p (prio_of request)
    (few_prio request forms.0))
collect_face net n Collects.Empty forms = refl
collect_face net n Collects.Full forms = refl

collect_others : (net : Network) (n : ℕ) (told : Collected) (q : PortRef)
    → same_port q (port_of n) ≡ false → face_in (after_collect net n told) q ≡ face_in net q
unfolding after_collect
collect_others net n (Collects.Left packet) q apart =
    without_other net (port_of n) (prio_of packet) q apart
collect_others net n (Collects.Answered request response) q apart =
    let p = port_of n in
    let less = without_first net p (prio_of request) in
    more_other less p (prio_of response) (item_of less p response ∷ []) q apart
    ∙ without_other net p (prio_of request) q apart
collect_others net n Collects.Empty q apart = refl
collect_others net n Collects.Full q apart = refl

pub answered_is : (device : Registers) (request : Option Request)
    → device_after 0 request device ≡ answered_on_0 device request
answered_is device None = refl
answered_is device (Some request) = refl

collect_registers : (net : Network) (n : ℕ) (device : Registers) (told : Collected)
    → slice_get net.registers n ≡ Some device
    → (after_collect net n told).registers ≡ slice_set net.registers n (endpoint_after device told)
unfolding after_collect
collect_registers net n device (Collects.Left packet) stands =
    sym (set_same net.registers n device stands)
collect_registers net n device (Collects.Answered request response) stands =
    sym (set-change net.registers n device (device_after 0 (request_of request)) stands)
    ∙ ap (slice_set net.registers n) (answered_is device (request_of request))
collect_registers net n device Collects.Empty stands = sym (set_same net.registers n device stands)
collect_registers net n device Collects.Full stands = sym (set_same net.registers n device stands)

-- ---- afterwards

-- what was collected, as the call was told
pub record WasCollected (device next : Registers) (x y : PortState)
    (told : Collected) : Type 0 where
  pub by_lists : told ≡ collected device (face_of_port x)
  pub face : face_of_port y ≡ face_after (face_of_port x) told
  pub registers : next ≡ endpoint_after device told
  pub same : IsSameDevice device next
  pub alike : AreAlike x y
  pub forms : AreForms told

pub did_collect : {K : Type 0} {b b2 : TraceWriter K} {s : Seen} {old new : Fabric} {n : ℕ}
    {device next : Registers} {x y : PortState} (told : Collected) {happens : Happened}
    → ShowsFabric old s → s.undetected ≡ None → IsEndpointAt old.devices.items n
    → slice_get old.devices.items n ≡ Some device → port_seen s (port_of n) ≡ x
    → WasCollected device next x y told → HasBoth old new n next (port_of n) y
    → happens ≡ answer_collected (collect_lines n told)
    → Adds b b2 (collect_lines n told)
    → Did (λ block. IsCollect s.network n block
    × (happens ≡ answer_collected block))
    b b2 s new
did_collect {s = s} {old = old} {new = new} {n = n} {device = device} {next = next}
    {y = y} told shows sent at stands
    is was has answers adds =
    let net = s.network in
    let p = port_of n in
    let later = after_collect net n told in
    let t : Seen = record s { network = later } in
    let known = ap (λ (l : List Registers). slice_get l n) shows.registers ∙ stands in
    let whole : told ≡ collected device (face_in net p) =
    was.by_lists ∙ ap (λ (z : PortState). collected device (face_of_port z)) (sym is) in
    let own : face_of_port y ≡ face_in later p = was.face
    ∙ ap (λ (z : PortState). face_after (face_of_port z) told) (sym is)
    ∙ sym (collect_face net n told was.forms) in
    let becomes : port_seen t p ≡ y = port_faced s later p y (plans_stay net n told)
    (subst (λ z. AreAlike z y) (sym is) was.alike) own in
    let showing : ShowsFabric new t = port_shows old new s t n device next y shows at stands
    was.same has becomes
    (λ q apart. port_stays s later q (plans_stay net n told) (collect_others net n told q apart))
    refl (links_stay net n told)
    (collect_registers net n device told known
    ∙ ap (slice_set net.registers n) (sym was.registers)) in
    let seen_is = seen_after s n told in
    record {
      block = collect_lines n told;
      adds = adds;
      is = (
        record {
          endpoint = ap
              (λ (l : List Registers). option_map is_switch (slice_get l n)) shows.registers
              ∙ ap (option_map is_switch) at.stands ∙ ap Some at.kind;
          device = device;
          stands = known;
          form = subst HasResponseForm whole (has_form told was.forms);
          lines = ap (collect_lines n) whole;
        },
        answers,
      );
      sent = ap (λ (u : Seen). u.undetected) seen_is ∙ sent;
      shows = subst (ShowsFabric new) (sym seen_is) showing;
    }
