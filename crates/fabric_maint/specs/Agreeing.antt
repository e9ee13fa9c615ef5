-- When two answers of `enumerate` for one fabric are the same.
use Rattle.std.specs.Prelude.{◌≡◌, Result, Ok, Err, ⊤}
use Rattle.fabric_map.specs.declared.map.Map.{Map}
use Rattle.host_enumerate.specs.declared.ends.EnumEnd.{EnumEnd}
use Rattle.host_enumerate.specs.declared.ends.EnumEnd.TheVariants.{LockedBy}

-- if neither is for want of something or for an event
abbrev pub Agrees : Result Map EnumEnd → Result Map EnumEnd → Type 0
Agrees (Ok one) (Ok two) =
    (one.devices.items ≡ two.devices.items) × (one.entries.items ≡ two.entries.items)
Agrees (Ok one) (Err (LockedBy path id)) = ⊥
Agrees (Err (LockedBy path id)) (Ok two) = ⊥
Agrees (Err (LockedBy path id)) (Err (LockedBy other held)) = (path ≡ other) × (id ≡ held)
Agrees _ _ = ⊤
