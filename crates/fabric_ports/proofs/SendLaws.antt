-- What a call did that sends a packet at an endpoint.
use Rattle.std.proofs.Common.{◌≡◌, ℕ, ◌<◌, true, false, List, [], ◌∷◌, None, refl, sym, ap, ◌∙◌, subst, if◌then◌else◌, slice_get}
use Rattle.trace_lines.specs.Writing.{Adds}
use Rattle.trace_lines.specs.declared.writer.TraceWriter.{TraceWriter}
use Rattle.rio_packets.specs.Fields.{prio_of}
use Rattle.link_buffers.specs.Queues.{appended}
use Rattle.link_port.specs.Ports.{PortState, AreAlike}
use Rattle.maint_registers.proofs.SameLaws.{same_device}
use Rattle.switch_core.specs.Faces.{with_packet}
use Rattle.fabric_model.specs.Network.{port_of, room_out}
use Rattle.fabric_model.specs.Steps.{Take, AtNode, item_of, after}
use Rattle.fabric_trace.specs.Blocks.{take_lines}
use Rattle.fabric_trace.specs.Fold.{seen_line}
use Rattle.fabric_trace.specs.Known.{Seen, port_seen}
use Rattle.trace_lines.specs.Lines.{Full as NoRoom, Stepped, Lacked}
use Rattle.fabric_trace.specs.Served.{face_in}
use Rattle.fabric_ports.specs.declared.answers.Happened.TheVariants.{Took, Full}
use Rattle.fabric_ports.specs.declared.fabric.Fabric.{Fabric}
use Rattle.fabric_ports.specs.Events.{Did, answer_taken}
use Rattle.fabric_ports.specs.Places.{IsEndpointAt}
use Rattle.fabric_ports.specs.Showing.{ShowsFabric}
use Rattle.fabric_ports.proofs.FaceLaws.{more_own, more_other, face_of_port, port_faced, port_stays}
use Rattle.fabric_ports.proofs.NodeLaws.{set_same, HasBoth, port_shows}

module _ {K : Type 0}
    (b b2 : TraceWriter K) (s : Seen) (old : Fabric) (n : ℕ) (packet : List ℕ) where
  -- there is no room for it
  pub did_full : ShowsFabric old s → s.undetected ≡ None
      → room_out s.network (port_of n) (prio_of packet) ≡ false
      → Adds b b2 (Lacked NoRoom ∷ [])
      → Did (λ block. (block ≡ take_lines s n packet)
      × (Full ≡ answer_taken block)) b b2 s old
  did_full shows sent none adds = record {
    block = Lacked NoRoom ∷ [];
    adds = adds;
    is = (
      ap (λ t. if t then Stepped (AtNode (Take n packet)) ∷ [] else Lacked NoRoom ∷ [])
          (sym none),
      refl,
    );
    sent = sent;
    shows = shows;
  }

  -- it is taken
  pub did_take : {new : Fabric} {x y : PortState} → ShowsFabric old s → s.undetected ≡ None
      → room_out s.network (port_of n) (prio_of packet) ≡ true → prio_of packet < 4
      → (at : IsEndpointAt old.devices.items n) → port_seen s (port_of n) ≡ x
      → HasBoth old new n at.device (port_of n) y
      → AreAlike x y → y.queued ≡ appended x.queued (prio_of packet) packet
      → y.received.lists ≡ x.received.lists
      → Adds b b2 (Stepped (AtNode (Take n packet)) ∷ [])
      → Did (λ block. (block ≡ take_lines s n packet)
      × (Took ≡ answer_taken block)) b b2 s new
  did_take {new = new} {x = x} {y = y} shows sent room few at is has alike put same adds =
      let net = s.network in
      let p = port_of n in
      let next = after net (AtNode (Take n packet)) in
      let t = seen_line s (Stepped (AtNode (Take n packet))) in
      let face : face_of_port y ≡ with_packet (face_of_port x) packet =
      λ i. record { received = same i; queued = put i } in
      let own : face_of_port y ≡ face_in next p = face
      ∙ ap (λ (z : PortState). with_packet (face_of_port z) packet) (sym is)
      ∙ sym (more_own net p (item_of net p packet) few) in
      let becomes : port_seen t p ≡ y =
      port_faced s next p y (refl, refl) (subst (λ z. AreAlike z y) (sym is) alike) own in
      let stands = ap (λ l. slice_get l n) shows.registers ∙ at.stands in
      record {
        block = Stepped (AtNode (Take n packet)) ∷ [];
        adds = adds;
        is = (
          ap (λ t. if t then Stepped (AtNode (Take n packet)) ∷ [] else Lacked NoRoom ∷ [])
              (sym room),
          refl,
        );
        sent = sent;
        shows = port_shows old new s t n at.device at.device y shows at at.stands
            (same_device at.device) has becomes
            (λ q apart. port_stays s next q (refl, refl)
            (more_other net p (prio_of packet) (item_of net p packet ∷ []) q apart))
            refl refl (sym (set_same net.registers n at.device stands));
      }
