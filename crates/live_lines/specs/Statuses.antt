-- The numbers of the statuses, and what is said of each.
use Rattle.std.specs.Prelude.{ℕ, List, [], ◌++◌, Option, Some, None, codes}
use Rattle.live_lines.specs.declared.status.LiveStatus.{LiveStatus}
use Rattle.live_lines.specs.declared.status.LiveStatus.TheVariants.{Done, Words, ReadFault, WriteFault, NoMemory, Undetected, TooLong}

abbrev pub status_value : LiveStatus → ℕ
status_value Done = 0
status_value Words = 2
status_value ReadFault = 4
status_value WriteFault = 5
status_value NoMemory = 6
status_value Undetected = 7
status_value TooLong = 8

-- what is said behind the name of a program that is used so, if anything is
abbrev pub status_words : List ℕ → LiveStatus → Option (List ℕ)
status_words usage Done = None
status_words usage Words = Some usage
status_words usage ReadFault = Some (codes "standard input cannot be read\n")
status_words usage WriteFault = Some (codes "standard output cannot be written\n")
status_words usage NoMemory = Some (codes "there is not enough memory\n")
status_words usage Undetected = Some (codes "a port acted on what was not sent\n")
status_words usage TooLong = Some (codes "a line is longer than 4194304 bytes\n")

abbrev pub behind_name : List ℕ → Option (List ℕ) → List ℕ
behind_name name None = []
behind_name name (Some words) = name ++ words

-- the line that is said, or nothing
abbrev pub message_of : List ℕ → List ℕ → LiveStatus → List ℕ
message_of name usage status = behind_name name (status_words usage status)
