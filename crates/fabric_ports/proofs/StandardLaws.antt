-- Devices show what standard hosts look for, and move the same packets as before.
use Rattle.std.proofs.Common.{◌≡◌, ℕ, zero, suc, ◌<◌, false, List, [], length, Some, slice_get, get_or, refl, sym, ap, ◌∙◌, subst, arith}
use Rattle.std.proofs.lemmas.Option.{slice_get-get_or, slice_get_within}
use Rattle.maint_registers.specs.Devices.{Registers, new_endpoint}
use Rattle.maint_registers.specs.Changes.{standard_shown}
use Rattle.maint_registers.proofs.ChangeLaws.{length-with_device}
use Rattle.maint_registers.proofs.WithinLaws.{standard_within}
use Rattle.fabric_trace.specs.Fold.{seen}
use Rattle.fabric_trace.specs.Known.{Seen}
use Rattle.fabric_trace.specs.Parts.{Done}
use Rattle.fabric_trace.proofs.Traces.Existing.{ready_on}
use Rattle.trace_lines.specs.Lines.{TraceLine}
use Rattle.fabric_ports.specs.OwnRegisters.{HasDevice, with_standards, StandardShown, AllStandardShown}
use Rattle.fabric_ports.specs.Standing.{Stands}
use Rattle.fabric_ports.specs.declared.fabric.Fabric.{Fabric}
use Rattle.fabric_ports.proofs.ChangedLaws.{with_registers, stands_changed}
use Rattle.fabric_ports.proofs.StillLaws.{LeavesWays, still_rests}

-- what standard hosts look for changes where no packet goes
leaves_standard : LeavesWays standard_shown
leaves_standard = record {
  kind = λ device. refl;
  ports = λ device. refl;
  next = λ device packet. refl;
}

-- ---- the fabric afterwards

-- there is one at its place
pub device_there : {fabric : Fabric} {node : ℕ} → HasDevice fabric node
    → node < length fabric.devices.items
device_there {fabric} {node} has =
    slice_get_within fabric.devices.items node has.device
    (ap (λ (l : List Registers). slice_get l node) (sym has.stands.shows.registers) ∙ has.is)

-- a device that stands at its place shows more
pub standard_stands : {from : Seen} {lines : List TraceLine} {fabric : Fabric} (node : ℕ)
    (device next : Registers) → Stands from lines fabric → node < length fabric.devices.items
    → device ≡ get_or fabric.devices.items node device → next ≡ standard_shown device
    → StandardShown node from lines (with_registers fabric node next)
standard_stands {from} {lines} {fabric} node device next stands within read becomes =
    stands_changed from lines fabric node node standard_shown device next stands
    (ap (λ (l : List Registers). slice_get l node) stands.shows.registers
    ∙ slice_get-get_or fabric.devices.items node device within ∙ ap Some (sym read))
    refl becomes
    (record {
      kind = ap (λ (d : Registers). d.kind) becomes;
      ports = ap (λ (d : Registers). d.ports) becomes;
    }) (standard_within device)
    (still_rests standard_shown leaves_standard (seen from lines).network node)

-- ---- one after another

-- it stands from what is known
pub stands_here : {from : Seen} {lines : List TraceLine} {fabric : Fabric}
    → Stands from lines fabric → Stands (seen from lines) [] fabric
stands_here stands = record {
  ready = ready_on stands.ready stands.made;
  made = Done refl;
  sent = stands.sent;
  shows = stands.shows;
}

standards_length : (n : ℕ) (s : Seen)
    → length (with_standards n s).network.registers ≡ length s.network.registers
standards_length zero s = refl
standards_length (suc n) s =
    length-with_device (with_standards n s).network.registers n standard_shown
    ∙ standards_length n s

-- the devices before this one do, and it is there
pub next_device : {from : Seen} {lines : List TraceLine} {old now : Fabric} (n : ℕ)
    → Stands from lines old → Stands (with_standards n (seen from lines)) [] now
    → n < length old.devices.items → HasDevice now n
next_device {from} {lines} {old} n before stands below =
    let registers = (with_standards n (seen from lines)).network.registers in
    let many = standards_length n (seen from lines) in
    let first = ap (λ (l : List Registers). length l) before.shows.registers in
    record {
      from = with_standards n (seen from lines);
      lines = [];
      stands = stands;
      device = get_or registers n (new_endpoint 0 false);
      is = slice_get-get_or registers n (new_endpoint 0 false) (omega (arith, many, first, below));
    }

-- all devices do
pub all_stand : {from : Seen} {lines : List TraceLine} {old now : Fabric} (n : ℕ)
    → Stands from lines old → Stands (with_standards n (seen from lines)) [] now
    → n ≡ length old.devices.items → AllStandardShown from lines now
all_stand {from} {lines} {old} {now} n before stands all =
    subst (λ m. Stands (with_standards m (seen from lines)) [] now)
    (all ∙ sym (ap (λ (l : List Registers). length l) before.shows.registers)) stands
