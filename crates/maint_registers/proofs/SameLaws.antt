-- A write leaves a device the same: of its kind, with its ports, its links and its ID of 16 bits.
use Rattle.std.proofs.Common.{◌≡◌, ℕ, unwrap_or, refl, ap}
use Rattle.maint_registers.specs.declared.table.Register.{Register}
use Rattle.maint_registers.specs.declared.table.Register.TheVariants.{Fixed, PortInformation, BaseId, HostLock, ComponentTag, RouteSelect, RouteEntry, DefaultPort}
use Rattle.maint_registers.specs.Devices.{Registers, IsSameDevice, is_switch}
use Rattle.maint_registers.specs.Access.{written_to, write_into}
use Rattle.maint_registers.proofs.AccessLaws.{by_register}

pub same_device : (device : Registers) → IsSameDevice device device
same_device device =
    record { kind = refl; ports = refl; linked = refl; large_id = refl; standard = refl }

-- what is a switch stays one
pub same_kind : (before after : Registers) → IsSameDevice before after
    → is_switch after ≡ is_switch before
same_kind before after same = ap (λ k. is_switch (record before { kind = k })) same.kind

register_same : (device : Registers) (value : ℕ) (register : Register)
    → IsSameDevice device (unwrap_or (written_to device value register) device)
register_same device value (Fixed shown) = same_device device
register_same device value PortInformation = same_device device
register_same device value BaseId =
    record { kind = refl; ports = refl; linked = refl; large_id = refl; standard = refl }
register_same device value HostLock =
    record { kind = refl; ports = refl; linked = refl; large_id = refl; standard = refl }
register_same device value ComponentTag =
    record { kind = refl; ports = refl; linked = refl; large_id = refl; standard = refl }
register_same device value RouteSelect =
    record { kind = refl; ports = refl; linked = refl; large_id = refl; standard = refl }
register_same device value RouteEntry =
    record { kind = refl; ports = refl; linked = refl; large_id = refl; standard = refl }
register_same device value DefaultPort =
    record { kind = refl; ports = refl; linked = refl; large_id = refl; standard = refl }

-- whatever is written, it is the same device
pub write_same : (device : Registers) (offset value : ℕ)
    → IsSameDevice device (write_into device offset value).device
write_same device offset value =
    by_register (IsSameDevice device) device offset value (same_device device)
    (λ register at. register_same device value register)
