-- What the answer of an enumeration says of a fabric.
use Rattle.std.specs.Prelude.{Result, Ok, Err, ⊤}
use Rattle.fabric_map.specs.declared.map.Map.{Map}
use Rattle.fabric_map.specs.Topology.{Topology}
use Rattle.fabric_map.specs.Routes.{AllRegisters}
use Rattle.fabric_map.specs.Numbered.{IsNumbered}
use Rattle.host_enumerate.specs.Ends.{EndsAtLock, IsLockFree}
use Rattle.host_enumerate.specs.declared.ends.EnumEnd.{EnumEnd}
use Rattle.host_enumerate.specs.declared.ends.EnumEnd.TheVariants.{LockedBy}

-- By its devices and links, and its registers before and after: it is numbered, and no device that
-- is reached had the lock of another host; or the walk ended at the first such device. Any other
-- end says nothing of the fabric.
abbrev pub IsEnumerated : Topology → AllRegisters → AllRegisters → Result Map EnumEnd → Type 0
IsEnumerated topology before after (Ok map) =
    IsNumbered topology map.devices.items map.entries.items before after
    × IsLockFree topology before
IsEnumerated topology before after (Err (LockedBy path id)) =
    EndsAtLock topology before after path id
IsEnumerated topology before after (Err _) = ⊤
