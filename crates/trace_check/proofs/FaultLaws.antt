-- Which faults stand where others do.
use Rattle.std.proofs.Common.{◌<◌, arith}
use Rattle.trace_check.specs.Lawful.{Fault, fault_number, NoSuchStep, NotAllowed, NotCome, NotThere, OffWire}

module _ (Stands : Fault → Type 0) where
  pub all_stand : Stands OffWire → Stands NoSuchStep → Stands NotCome → Stands NotAllowed
      → Stands NotThere → (fault : Fault) → Stands fault
  all_stand wire step come allowed there OffWire = wire
  all_stand wire step come allowed there NoSuchStep = step
  all_stand wire step come allowed there NotCome = come
  all_stand wire step come allowed there NotAllowed = allowed
  all_stand wire step come allowed there NotThere = there

  -- those below one of them

  pub below_step : Stands OffWire → (other : Fault) → fault_number other < 23 → Stands other
  below_step wire OffWire less = wire
  below_step wire _ less = absurd (omega (arith, less))

  pub below_come : Stands OffWire → Stands NoSuchStep → (other : Fault) → fault_number other < 24
      → Stands other
  below_come wire step OffWire less = wire
  below_come wire step NoSuchStep less = step
  below_come wire step _ less = absurd (omega (arith, less))

  pub below_allowed : Stands OffWire → Stands NoSuchStep → Stands NotCome → (other : Fault)
      → fault_number other < 25 → Stands other
  below_allowed wire step come OffWire less = wire
  below_allowed wire step come NoSuchStep less = step
  below_allowed wire step come NotCome less = come
  below_allowed wire step come _ less = absurd (omega (arith, less))
