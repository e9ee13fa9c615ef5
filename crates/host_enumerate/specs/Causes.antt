-- Why an access may have no answer.
use Rattle.std.specs.Prelude.{◌≡◌, ℕ}
use Rattle.rio_chars.specs.Faults.{Rose}
use Rattle.link_model.specs.declared.event.Event.{Event}
use Rattle.fabric_script.specs.declared.ports.PortRef.{PortRef}
use Rattle.host_enumerate.specs.declared.maint.MaintEnd.{MaintEnd}
use Rattle.host_enumerate.specs.declared.maint.MaintEnd.TheVariants.{Undetected, WriteFault, NoMemory}

-- A count, before a call and after it, is as it was.
abbrev pub CountStays : ℕ × ℕ → Type 0
CountStays count = count.1 ≡ count.0

-- An undetected event comes only if it was met and its count rose, and a failed write only if its
-- count rose. Want of memory may come at any time. No other count changes.
abbrev pub IsCaused : ℕ × ℕ → ℕ × ℕ → (PortRef → Event → Type 0) → MaintEnd → Type 0
IsCaused undetected faults met (Undetected port event) =
    met port event × Rose undetected.0 undetected.1 × CountStays faults
IsCaused undetected faults met WriteFault = Rose faults.0 faults.1 × CountStays undetected
IsCaused undetected faults met NoMemory = CountStays undetected × CountStays faults
