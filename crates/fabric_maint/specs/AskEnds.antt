-- What the end of an ask is for a host.
use Rattle.std.specs.Prelude.{ℕ, ◌+◌, ◌-◌, ◌^◌, min, Option, Some, None}
use Rattle.fabric_ports.specs.declared.asking.AskEnd.{AskEnd}
use Rattle.fabric_ports.specs.declared.asking.AskEnd.TheVariants as Asks
use Rattle.host_enumerate.specs.declared.maint.MaintEnd.{MaintEnd}
use Rattle.host_enumerate.specs.declared.maint.MaintEnd.TheVariants.{Undetected, WriteFault, NoMemory}

-- one undetected event more, up to the greatest count
abbrev pub count_after : ℕ → AskEnd → ℕ
count_after count Asks.Unanswered = count
count_after count (Asks.Undetected port event) = min (count + 1) (2 ^ 64 - 1)
count_after count Asks.WriteFault = count
count_after count Asks.NoMemory = count

-- why an access has no answer; the response of its request comes back
abbrev pub end_for : AskEnd → Option MaintEnd
end_for Asks.Unanswered = None
end_for (Asks.Undetected port event) = Some (Undetected port event)
end_for Asks.WriteFault = Some WriteFault
end_for Asks.NoMemory = Some NoMemory
