-- The lines that say what became of packets, each at an endpoint with a name:
--
--     read NAME ADDR HEX              write NAME ADDR HEX
--     done NAME TID STATUS HEX        - in place of HEX if there are no data
--     fail NAME FTYPE                 other NAME FTYPE
--
-- An address is eight hexadecimal digits, data are two a byte, and all else is decimal.
use Rattle.std.specs.Prelude.{ℕ, List, ◌++◌, codes, Option, Some, None}
use Rattle.std.specs.Fmt.{decimal}
use Rattle.rio_packets.specs.Words.{word_bytes}
use Rattle.rio_chars.specs.HexText.{hex_of}
use Rattle.io_memory.specs.declared.meeting.Met.{Met}
use Rattle.io_memory.specs.declared.meeting.Met.TheVariants.{Read, Written, Failed, Done, Other}

abbrev pub addr_text : ℕ → List ℕ
addr_text addr = hex_of (word_bytes addr)

abbrev pub data_text : Option (List ℕ) → List ℕ
data_text None = codes "-"
data_text (Some load) = hex_of load

-- the text of a line, without its line feed
abbrev pub met_text : List ℕ → Met → List ℕ
met_text name (Read addr load) =
    codes "read " ++ name ++ codes " " ++ addr_text addr ++ codes " " ++ hex_of load
met_text name (Written addr load) =
    codes "write " ++ name ++ codes " " ++ addr_text addr ++ codes " " ++ hex_of load
met_text name (Failed ftype) = codes "fail " ++ name ++ codes " " ++ decimal ftype
met_text name (Done tid status load) =
    codes "done " ++ name ++ codes " " ++ decimal tid ++ codes " " ++ decimal status ++ codes " "
    ++ data_text load
met_text name (Other ftype) = codes "other " ++ name ++ codes " " ++ decimal ftype
