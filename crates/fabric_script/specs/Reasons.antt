-- Why a line is refused.
use Rattle.std.specs.Prelude.{ℕ}
use Rattle.fabric_script.specs.declared.reasons.Reason.{Reason}
use Rattle.fabric_script.specs.declared.reasons.Reason.TheVariants.{UnknownLine, BadNumber, BadName, NameTaken, UnknownNode, PortOutside, PortTaken, IdTaken, BadHex, BadLength, WrongKind, OutOfPlace, NotLinked, TooMuchWork}

abbrev pub reason_number : Reason → ℕ
reason_number UnknownLine = 1
reason_number BadNumber = 2
reason_number BadName = 3
reason_number NameTaken = 4
reason_number UnknownNode = 5
reason_number PortOutside = 6
reason_number PortTaken = 7
reason_number IdTaken = 8
reason_number BadHex = 9
reason_number BadLength = 10
reason_number WrongKind = 11
reason_number OutOfPlace = 12
reason_number NotLinked = 13
reason_number TooMuchWork = 14
