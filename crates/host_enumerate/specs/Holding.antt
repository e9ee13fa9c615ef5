-- Who holds a device when it is asked, and what the question leaves.
use Rattle.std.specs.Prelude.{◌≡◌, ◌≢◌, ℕ, ◌⊎◌}
use Rattle.maint_registers.specs.Devices.{Registers}
use Rattle.fabric_map.specs.Routes.{AllRegisters}
use Rattle.fabric_map.specs.Locked.{IsForeign}
use Rattle.host_enumerate.specs.declared.taking.Holder.{Holder}
use Rattle.host_enumerate.specs.declared.taking.Holder.TheVariants.{Taken, Met, Other}
use Rattle.host_enumerate.specs.Asking.{AreSame, Becomes}

-- nobody holds it, or the host does without having met it
abbrev pub IsTakable : ℕ → Registers → Type 0
IsTakable host_id device =
    (device.lock ≡ 0xffff) ⊎ ((device.lock ≡ host_id) × (device.tag ≡ 0))

abbrev pub IsHolder : ℕ → AllRegisters → AllRegisters → ℕ → Holder → Type 0
IsHolder host_id old new node Taken =
    IsTakable host_id (old node) × Becomes old new node (record (old node) { lock = host_id })
IsHolder host_id old new node Met =
    ((old node).lock ≡ host_id) × ((old node).tag ≢ 0) × AreSame old new
IsHolder host_id old new node (Other id) =
    ((old node).lock ≡ id) × IsForeign host_id id × AreSame old new
