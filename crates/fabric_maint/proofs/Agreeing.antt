-- Two answers of `enumerate` for one fabric are the same.
use Rattle.std.proofs.Common.{ℕ, List, Result, Ok, Err, sym, subst}
use Rattle.fabric_map.specs.declared.map.Map.{Map}
use Rattle.fabric_map.specs.Topology.{Topology}
use Rattle.fabric_map.specs.Routes.{AllRegisters}
use Rattle.fabric_map.specs.Locked.{IsForeign}
use Rattle.fabric_map.proofs.Maps.{one_map}
use Rattle.fabric_map.proofs.Firsts.{one_first_locked}
use Rattle.host_enumerate.specs.Ends.{EndsAtLock, IsLockFree}
use Rattle.host_enumerate.specs.declared.ends.EnumEnd.{EnumEnd}
use Rattle.host_enumerate.specs.declared.ends.EnumEnd.TheVariants.{LockedBy, Undetected, WriteFault, NoMemory}
use Rattle.host_enumerate.specs.Enumerated.{IsEnumerated}
use Rattle.fabric_maint.specs.Agreeing.{Agrees}

-- where a device is locked by another host, not all are free of it
locked_not_free : (topology : Topology) (before after : AllRegisters) (path : List ℕ) (id : ℕ)
    → EndsAtLock topology before after path id → ¬ IsLockFree topology before
locked_not_free topology before after path id ends free =
    free ends.first.node (path, ends.first.leads)
    (subst (λ n. IsForeign (before topology.host).base_id n) (sym ends.first.lock)
    ends.first.foreign)

pub agrees : (topology : Topology) (before after other : AllRegisters)
    (one two : Result Map EnumEnd)
    → IsEnumerated topology before after one → IsEnumerated topology before other two
    → Agrees one two
agrees topology before after other (Ok one) (Ok two) first second =
    one_map topology (before topology.host).base_id one.devices.items two.devices.items
    one.entries.items two.entries.items first.0.map second.0.map
agrees topology before after other (Ok one) (Err (LockedBy path id)) first second =
    locked_not_free topology before other path id second first.1
agrees topology before after other (Ok one) (Err (Undetected port event)) first second = tt
agrees topology before after other (Ok one) (Err WriteFault) first second = tt
agrees topology before after other (Ok one) (Err NoMemory) first second = tt
agrees topology before after other (Err (LockedBy path id)) (Ok two) first second =
    locked_not_free topology before after path id first second.1
agrees topology before after other (Err (LockedBy path id)) (Err (LockedBy next held)) first
    second =
    one_first_locked topology before path next id held first.first second.first
agrees topology before after other (Err (LockedBy path id)) (Err (Undetected port event)) first
    second = tt
agrees topology before after other (Err (LockedBy path id)) (Err WriteFault) first second = tt
agrees topology before after other (Err (LockedBy path id)) (Err NoMemory) first second = tt
agrees topology before after other (Err (Undetected port event)) two first second = tt
agrees topology before after other (Err WriteFault) two first second = tt
agrees topology before after other (Err NoMemory) two first second = tt
