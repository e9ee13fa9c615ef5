-- Why a line is refused.
use Rattle.std.specs.Prelude.{ℕ}
use Rattle.fabric_script.specs.Reasons.{reason_number}
use Rattle.io_script.specs.declared.reasons.IoReason.{IoReason}
use Rattle.io_script.specs.declared.reasons.IoReason.TheVariants.{OfScript, Misaligned, LateMemory}

-- the reasons of all scripts keep their numbers, and two are new
abbrev pub io_reason_number : IoReason → ℕ
io_reason_number (OfScript reason) = reason_number reason
io_reason_number Misaligned = 17
io_reason_number LateMemory = 18
