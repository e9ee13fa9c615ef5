-- A device changes its registers without a packet.
use Rattle.std.proofs.Common.{◌≡◌, ℕ, List, [], ◌∷◌, Option, Some, None, slice_get, slice_set, refl, sym, ap, ◌∙◌, subst, inl, inr, arith}
use Rattle.std.specs.Vec.{with_item}
use Rattle.std.proofs.lemmas.Bool.{cases_eq}
use Rattle.maint_registers.specs.Devices.{Registers}
use Rattle.maint_registers.specs.Within.{IsWithin}
use Rattle.maint_registers.proofs.ChangeLaws.{length-with_device, device-kept, set-change}
use Rattle.fabric_script.specs.declared.ports.PortRef.{PortRef}
use Rattle.fabric_model.proofs.Forms.{device_at}
use Rattle.fabric_trace.specs.Fold.{seen}
use Rattle.fabric_trace.specs.Known.{Seen}
use Rattle.fabric_trace.specs.Parts.{Done}
use Rattle.fabric_trace.specs.Ready.{IsReady}
use Rattle.fabric_trace.specs.Served.{IsMove}
use Rattle.fabric_trace.specs.Settings.{with_change}
use Rattle.fabric_trace.proofs.Traces.Existing.{ready_on}
use Rattle.trace_lines.specs.Lines.{TraceLine, NoStep, Lacked}
use Rattle.fabric_ask.specs.Course.{IsDevicePort, IsLaid}
use Rattle.fabric_ask.proofs.Owning.{own_ready}
use Rattle.fabric_ports.specs.Idling.{KnowsIdle}
use Rattle.fabric_ports.specs.Places.{HasPort}
use Rattle.fabric_ports.specs.Standing.{Stands}
use Rattle.fabric_ports.specs.declared.fabric.Fabric.{Fabric}
use Rattle.fabric_ports.proofs.DeviceLaws.{HasForm, AreSameDevices, one_changed, kinds_stay, has_port_still}
use Rattle.fabric_ports.proofs.IdleLaws.{nothing_woken, idle_stays, move_stays}
use Rattle.fabric_ports.proofs.NodeLaws.{served_shows}

-- ---- links stay laid

port_has : (registers : List Registers) (q : PortRef) → IsDevicePort registers q
    → HasPort (slice_get registers q.node) q.port
port_has registers q port =
    subst (λ o. HasPort o q.port) (sym port.stands) port.below

has_device : (registers : List Registers) (q : PortRef)
    → HasPort (slice_get registers q.node) q.port
    → IsDevicePort registers q
has_device registers q has = by_device (slice_get registers q.node) refl has
  where
    by_device : (o : Option Registers) → slice_get registers q.node ≡ o → HasPort o q.port
        → IsDevicePort registers q
    by_device None stands has = absurd has
    by_device (Some device) stands has =
        record { device = device; stands = stands; below = has }

laid_same : (old new : List Registers) (links : List (PortRef × PortRef)) (host : ℕ)
    → AreSameDevices old new → IsLaid old links host → IsLaid new links host
laid_same old new links host same laid = record {
  ports = λ q p peer. has_device new q
      (has_port_still old new q.node q.port same (port_has old q (laid.ports q p peer)));
  ends = λ q p peer endpoint. laid.ends q p peer (sym (kinds_stay old new q.node same) ∙ endpoint);
  host_is = kinds_stay old new host same ∙ laid.host_is;
}

-- ---- the fabric with another device at a place

abbrev pub with_registers : Fabric → ℕ → Registers → Fabric
with_registers fabric place device = record {
  devices = with_item fabric.devices place device;
  firsts = fabric.firsts;
  ports = fabric.ports;
  cables = fabric.cables;
  cable_at = fabric.cable_at;
  idle = fabric.idle;
}

-- A change keeps the form of a device and stays within its registers. If no packet of it could go,
-- none can.
module _ (from : Seen) (lines : List TraceLine) (fabric : Fabric) (node place : ℕ)
    (change : Registers → Registers) (device next : Registers) (stands : Stands from lines fabric)
    (known : slice_get (seen from lines).network.registers node ≡ Some device)
    (here : place ≡ node) (becomes : next ≡ change device) (form : HasForm device next)
    (within : IsWithin device → IsWithin (change device))
    (rests : IsMove (seen from lines).network node (Lacked NoStep ∷ [])
    → IsMove (with_change (seen from lines).network node change) node (Lacked NoStep ∷ [])) where
  abbrev s : Seen
  s = seen from lines

  abbrev t : Seen
  t = record s { network = with_change s.network node change }

  at : slice_get fabric.devices.items node ≡ Some device
  at = ap (λ (l : List Registers). slice_get l node) (sym stands.shows.registers) ∙ known

  -- the registers that are known are those of the fabric
  registers : t.network.registers ≡ slice_set fabric.devices.items place next
  registers =
      sym (set-change s.network.registers node device change known)
      ∙ ap (λ (d : Registers). slice_set s.network.registers node d) (sym becomes)
      ∙ ap (λ (l : List Registers). slice_set l node next) stands.shows.registers
      ∙ ap (λ n. slice_set fabric.devices.items n next) (sym here)

  devices : AreSameDevices fabric.devices.items (slice_set fabric.devices.items place next)
  devices = subst (λ n. AreSameDevices fabric.devices.items
      (slice_set fabric.devices.items n next)) (sym here)
      (one_changed fabric.devices.items node device next at form)

  idle : KnowsIdle fabric.idle t
  idle =
      idle_stays fabric.idle fabric.idle s t stands.shows.idle (nothing_woken fabric.idle) refl
      (length-with_device s.network.registers node change)
      (λ k link there none. refl)
      (λ n marked none move. elim (cases_eq n node) [
        | inl same ↦ subst (λ m. IsMove t.network m (Lacked NoStep ∷ [])) (sym same)
            (rests (subst (λ m. IsMove s.network m (Lacked NoStep ∷ [])) same move))
        | inr other ↦ move_stays
            (device-kept s.network.registers node n change
            (λ same. omega (arith, other, same))) (λ j. refl) move
      ])

  -- a trace may go on from it
  ready : IsReady t
  ready =
      let before = ready_on stands.ready stands.made in
      let one = sym (set-change s.network.registers node device (λ other. change device) known)
      ∙ set-change s.network.registers node device change known in
      subst IsReady
      (ap (λ (l : List Registers).
      record s { network = record s.network { registers = l } }) one)
      (own_ready node (change device) s
      (within (device_at s.network.registers node device known before.formed.registers)) before)

  pub stands_changed : Stands t [] (with_registers fabric place next)
  stands_changed = record {
    ready = ready;
    made = Done refl;
    sent = stands.sent;
    shows = served_shows fabric (with_registers fabric place next) s t stands.shows
        (record {
          devices = devices;
          firsts = refl;
          count = refl;
          cables = refl;
          cable_at = refl;
        })
        stands.shows.ports refl refl registers idle;
  }

  pub laid_on : (host : ℕ) → IsLaid s.network.registers s.network.links host
      → IsLaid t.network.registers t.network.links host
  laid_on host laid =
      subst (λ r. IsLaid r s.network.links host) (sym registers)
      (laid_same fabric.devices.items (slice_set fabric.devices.items place next) s.network.links
      host devices
      (subst (λ r. IsLaid r s.network.links host) stands.shows.registers laid))
