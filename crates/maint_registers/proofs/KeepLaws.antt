-- A write leaves a device what it is, with an ID and a lock that fit.
use Rattle.std.proofs.Common.{◌≡◌, ℕ, ◌%◌, ◌<◌, length, unwrap_or, arith, refl, sym, ◌∙◌, length-set}
use Rattle.maint_registers.specs.declared.table.Register.{Register}
use Rattle.maint_registers.specs.declared.table.Register.TheVariants.{Fixed, PortInformation, BaseId, HostLock, ComponentTag, RouteSelect, RouteEntry, DefaultPort}
use Rattle.maint_registers.specs.Devices.{Registers, IsDevice, IsSameDevice, is_switch}
use Rattle.maint_registers.specs.Access.{written_to, write_into}
use Rattle.maint_registers.proofs.AccessLaws.{by_register}
use Rattle.maint_registers.proofs.BesideLaws.{id-stays}
use Rattle.maint_registers.proofs.SameLaws.{same_kind, write_same}
use Rattle.maint_registers.proofs.WithinLaws.{locked_within}

module _ (device : Registers) (offset value : ℕ) where
  -- what the numbers of a device fit that are bounded
  abbrev Fits : Registers → Type 0
  Fits after = (length after.routes ≡ length device.routes)
      × ((device.select < 1024 → after.select < 1024)
      × ((device.base_id < 256 → after.base_id < 256)
      × (device.lock < 65536 → after.lock < 65536)))

  nothing : Fits device
  nothing = (refl, (λ is. is, (λ is. is, λ is. is)))

  each : (register : Register) → Fits (unwrap_or (written_to device value register) device)
  each (Fixed shown) = nothing
  each PortInformation = nothing
  each BaseId = (refl, (λ is. is, (λ is. omega arith, λ is. is)))
  each HostLock =
      let held = λ (below : device.lock < 65536).
      locked_within device.lock (value % 0x10000) below (omega arith) in
      (refl, (λ is. is, (λ is. is, held)))
  each ComponentTag = nothing
  each RouteSelect = (refl, (λ is. omega arith, (λ is. is, λ is. is)))
  each RouteEntry =
      (length-set device.routes device.select (value % 0x100), (λ is. is, (λ is. is, λ is. is)))
  each DefaultPort = nothing

  after : Fits (write_into device offset value).device
  after = by_register Fits device offset value nothing (λ register at. each register)

  pub write_id : device.base_id < 256 → (write_into device offset value).device.base_id < 256
  write_id = after.1.1.0

  pub write_lock : device.lock < 65536 → (write_into device offset value).device.lock < 65536
  write_lock = after.1.1.1

  pub write_device : IsDevice device → IsDevice (write_into device offset value).device
  write_device is = record {
    most_ports = omega (arith, same.ports, is.most_ports);
    endpoint_ports = λ kind. same.ports ∙ is.endpoint_ports (was ∙ kind);
    switch_id = λ kind. id-stays device offset value (was ∙ kind) ∙ is.switch_id (was ∙ kind);
    switch_large = λ kind. same.large_id ∙ is.switch_large (was ∙ kind);
    destinations = after.0 ∙ is.destinations;
    selected = after.1.0 is.selected;
  }
    where
      same : IsSameDevice device (write_into device offset value).device
      same = write_same device offset value

      was : is_switch device ≡ is_switch (write_into device offset value).device
      was = sym (same_kind device (write_into device offset value).device same)
