-- The numbers of the statuses.
use Rattle.std.specs.Prelude.{ℕ}
use Rattle.rio_cli.specs.declared.status.Status.{Status}
use Rattle.rio_cli.specs.declared.status.Status.TheVariants.{Done, Words, Script, ReadFault, WriteFault, NoMemory, Undetected, TooLong, Locked, Unlawful}

abbrev pub exit_number : Status → ℕ
exit_number Done = 0
exit_number Words = 2
exit_number Script = 3
exit_number ReadFault = 4
exit_number WriteFault = 5
exit_number NoMemory = 6
exit_number Undetected = 7
exit_number TooLong = 8
exit_number Locked = 9
exit_number Unlawful = 10
