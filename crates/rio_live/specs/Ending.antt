-- How it ends if there is no further line.
use Rattle.std.specs.Prelude.{◌≡◌, [], codes, if◌then◌else◌}
use Rattle.rio_chars.specs.Written.{Outgoing, Writes}
use Rattle.live_lines.specs.declared.input.LineEnd.{LineEnd}
use Rattle.live_lines.specs.declared.input.LineEnd.TheVariants.{End, Fault, TooLong, NoMemory}
use Rattle.live_lines.specs.declared.status.LiveStatus.{LiveStatus}
use Rattle.live_lines.specs.declared.status.LiveStatus.TheVariants as ends_with

-- there is no further line, and the last line of the trace was written if the input ended
abbrev pub LinesStopped : LineEnd → Outgoing → Outgoing → LiveStatus → Type 0
LinesStopped End old new status = Writes old new (codes "end\n") × (new.waiting ≡ [])
    × (status ≡ (if new.failed then ends_with.WriteFault else ends_with.Done))
LinesStopped Fault old new status = (status ≡ ends_with.ReadFault) × (new ≡ old)
LinesStopped TooLong old new status = (status ≡ ends_with.TooLong) × (new ≡ old)
LinesStopped NoMemory old new status = (status ≡ ends_with.NoMemory) × (new ≡ old)
