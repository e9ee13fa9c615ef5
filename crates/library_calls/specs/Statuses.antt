-- The number of what a call answers.
use Rattle.std.specs.Prelude.{ℕ}
use Rattle.library_calls.specs.declared.status.CallStatus.{CallStatus}
use Rattle.library_calls.specs.declared.status.CallStatus.TheVariants.{Done, Closed, Argument, Open, Full, Empty, NoMemory, Undetected, Cut, Spent, Bad, Unlawful, Refused}

abbrev pub call_number : CallStatus → ℕ
call_number Done = 0
call_number Closed = 1
call_number Argument = 2
call_number Open = 3
call_number Full = 4
call_number Empty = 5
call_number NoMemory = 6
call_number Undetected = 7
call_number Cut = 8
call_number Spent = 9
call_number Bad = 10
call_number Unlawful = 11
call_number Refused = 12
