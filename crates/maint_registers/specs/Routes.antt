-- Where a switch sends a packet (RapidIO Interconnect Specification 1.3, Part 3, route tables; both
-- meanings of 255 are
-- this project's profile).
use Rattle.std.specs.Prelude.{ℕ, ◌==◌, ◌&&◌, nat_lt, Option, Some, None, slice_index_or, if◌then◌else◌}
use Rattle.maint_registers.specs.Devices.{Registers, is_switch}

-- the entry of a destination; a destination past the table has none, which is 255
abbrev pub entry_of : Registers → ℕ → ℕ
entry_of device dest = slice_index_or device.routes dest 255

-- the entry of a destination, or the default port if the entry is 255
abbrev pub port_named : Registers → ℕ → ℕ
port_named device dest =
    if entry_of device dest == 255 then device.default_port else entry_of device dest

-- the port to which a switch sends packets for a destination, if what its table names is one of its
-- ports
abbrev pub next_port : Registers → ℕ → Option ℕ
next_port device dest =
    if is_switch device && nat_lt (port_named device dest) device.ports
    then Some (port_named device dest) else None
