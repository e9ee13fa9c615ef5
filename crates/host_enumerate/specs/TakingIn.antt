-- What a host leaves of a device that it takes in.
use Rattle.std.specs.Prelude.{◌≡◌, ◌≢◌, ℕ, ◌+◌, true, false, List, [], ◌∷◌, ◌++◌, length, Option, Some, None}
use Rattle.fabric_script.specs.declared.ports.PortRef.{PortRef}
use Rattle.maint_registers.specs.Devices.{Registers, is_switch}
use Rattle.fabric_map.specs.declared.map.Kind.{Kind}
use Rattle.fabric_map.specs.declared.map.Kind.TheVariants.{Endpoint, Switch}
use Rattle.fabric_map.specs.declared.map.Device.{Device}
use Rattle.fabric_map.specs.Topology.{Topology}
use Rattle.fabric_map.specs.Walked.{onward, IsMet}
use Rattle.fabric_map.specs.Routes.{AllRegisters}
use Rattle.fabric_map.specs.Numbered.{paths_of}
use Rattle.host_enumerate.specs.declared.maint.Maint.{Ghosts}
use Rattle.host_enumerate.specs.declared.taking.Numbering.{Numbering}
use Rattle.host_enumerate.specs.Asking.{AreSame, Becomes}
use Rattle.host_enumerate.specs.Setting.{HasNewId, SwitchIsSetUp}
use Rattle.host_enumerate.specs.Underway.{id_after, met_as}
use Rattle.host_enumerate.specs.Carrying.{IsNumbering}

-- The host keeps its own ID. Another endpoint has the next one.
abbrev pub IsIdGiven : Topology → ℕ → ℕ → ℕ → AllRegisters → AllRegisters → List ℕ → PortRef → ℕ
    → Type 0
IsIdGiven topology host_id next next_after old new path at id =
    (path ≡ [] → (id ≡ host_id) × (next_after ≡ next) × AreSame old new)
    × (path ≢ [] → (id ≡ id_after host_id next) × (next_after ≡ id + 1)
    × HasNewId topology old new path at.node id)

-- an endpoint has an ID, and a switch is set up
abbrev pub IsKindLeft : Topology → ℕ → ℕ → ℕ → AllRegisters → AllRegisters → List ℕ → PortRef → Kind
    → Type 0
IsKindLeft topology host_id next next_after old new path at (Endpoint id) =
    (is_switch (old at.node) ≡ false)
    × IsIdGiven topology host_id next next_after old new path at id
IsKindLeft topology host_id next next_after old new path at (Switch ports entry) =
    (is_switch (old at.node) ≡ true) × (ports ≡ (old at.node).ports) × (entry ≡ at.port)
    × (next_after ≡ next)
    × ((held : Registers) × Becomes old new at.node held
    × SwitchIsSetUp host_id at.port (old at.node) held)

-- The device has the next tag, and then what its kind asks for.
abbrev pub IsTakenIn : Topology → ℕ → List Device → ℕ → ℕ → AllRegisters → AllRegisters → List ℕ
    → PortRef → Kind → Type 0
IsTakenIn topology host_id devices next next_after old new path at kind =
    (mid : AllRegisters)
    × Becomes old mid at.node (record (old at.node) { tag = length devices + 1 })
    × IsKindLeft topology host_id next next_after mid new path at kind

-- After a path was tried: the device on it was met before, or it is taken in.
abbrev pub IsTried : {S : Type 0} → Ghosts S → S → Numbering → Numbering → List ℕ → AllRegisters
    → Option Kind → Type 0
IsTried m now old new path before None =
    (new.devices.items ≡ old.devices.items) × (new.next_id ≡ old.next_id)
    × IsNumbering m now new path before × IsMet (m.topology now) (paths_of new.devices.items) path
IsTried m now old new path before (Some kind) =
    (new.devices.items ≡ old.devices.items ++ met_as old.devices.items kind path ∷ [])
    × IsNumbering m now new (onward path 0) before
