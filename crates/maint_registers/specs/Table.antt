-- Which register stands at which offset of an endpoint and of a switch. `docs/registers.md` has the
-- same table, with the
-- public source of each row and what is this project's own.
use Rattle.std.specs.Prelude.{ℕ, zero, suc, ◌+◌, ◌*◌, ◌/◌, ◌%◌, ◌^◌, ◌==◌, Bool, List, [], ◌∷◌, ◌++◌, Option, Some, None, option_map, if◌then◌else◌}
use Rattle.std.specs.Option.{option_or}
use Rattle.maint_registers.specs.declared.registers.DeviceKind.{DeviceKind}
use Rattle.maint_registers.specs.declared.registers.DeviceKind.TheVariants.{Endpoint, Switch}
use Rattle.maint_registers.specs.declared.table.Register.{Register}
use Rattle.maint_registers.specs.declared.table.Register.TheVariants.{Fixed, PortInformation, BaseId, HostLock, ComponentTag, RouteSelect, RouteEntry, DefaultPort}
use Rattle.maint_registers.specs.Devices.{Registers}

-- an offset, the register of an endpoint there, and that of a switch
abbrev pub Row : Type 0
Row = ℕ × Option Register × Option Register

abbrev pub table : List Row
table =
    (0x000000, Some (Fixed 0x0001ffff), Some (Fixed 0x0002ffff))  -- identity
    ∷ (0x00000c, Some (Fixed 0x00000100), Some (Fixed 0x00000100))  -- assembly information
    ∷ (0x000010, Some (Fixed 0x00000018), Some (Fixed 0x10000118))  -- features
    ∷ (0x000014, None, Some PortInformation)
    ∷ (0x000034, None, Some (Fixed 0x000003ff))  -- route limit
    ∷ (0x000060, Some BaseId, None)
    ∷ (0x000068, Some HostLock, Some HostLock)
    ∷ (0x00006c, Some ComponentTag, Some ComponentTag)
    ∷ (0x000070, None, Some RouteSelect)
    ∷ (0x000074, None, Some RouteEntry)
    ∷ (0x000078, None, Some DefaultPort)
    ∷ []

-- what a device shows besides if it is to show what standard hosts look for
abbrev pub standard_table : List Row
standard_table =
    (0x000018, Some (Fixed 0x0000f000), Some (Fixed 0x00000000))  -- source operations
    ∷ (0x00001c, Some (Fixed 0x0000f000), Some (Fixed 0x00000000))  -- destination operations
    ∷ (0x000100, Some (Fixed 0x00000001), Some (Fixed 0x00000003))  -- extended features block
    ∷ []

-- the rows of a device that shows them, or does not
abbrev pub rows : Bool → List Row
rows standard = table ++ (if standard then standard_table else [])

-- the column of a kind of device
abbrev pub column : DeviceKind → Row → Option Register
column Endpoint row = row.1
column Switch row = row.2

-- the register at an offset in these rows
abbrev pub in_rows : DeviceKind → List Row → ℕ → Option Register
in_rows kind [] offset = None
in_rows kind (row ∷ rows) offset =
    if row.0 == offset then column kind row else in_rows kind rows offset

-- where the error and status register of port n stands
abbrev pub status_offset : ℕ → ℕ
status_offset n = 0x158 + 0x20 * n

-- the port below a number whose error and status register stands at an offset
unfoldable pub status_port : ℕ → ℕ → Option ℕ
status_port zero offset = None
status_port (suc n) offset = if status_offset n == offset then Some n else status_port n offset

-- 2 with a link, 1 without
abbrev pub status_of : Registers → ℕ → ℕ
status_of device n = if device.linked / 2 ^ n % 2 == 1 then 2 else 1

-- the register that stands at an offset of a device, if one does
abbrev pub register_at : Registers → ℕ → Option Register
register_at device offset =
    option_or (in_rows device.kind (rows device.standard) offset)
    (option_map (λ n. Fixed (status_of device n)) (status_port device.ports offset))
