-- What devices show and change of their registers without a packet: which of them show what
-- standard hosts look for, and what a node reads and writes of its own.
use Rattle.std.specs.Prelude.{◌≡◌, ◌≢◌, ◌⊎◌, ℕ, List, ◌++◌, length, Option, Some, None, slice_get, codes}
use Rattle.maint_registers.specs.Access.{value_at, written_at}
use Rattle.maint_registers.specs.Devices.{Registers}
use Rattle.fabric_script.specs.declared.lines.Line.TheVariants.{Collect, Move}
use Rattle.fabric_script.specs.Known.{Known}
use Rattle.fabric_script.specs.Reading.{Spells}
use Rattle.fabric_script.specs.SetUps.{IsRefused}
use Rattle.fabric_trace.specs.Known.{Seen}
use Rattle.fabric_ports.specs.OwnRegisters.{with_standard, with_standards, seen_with}
use Rattle.live_fabric.specs.declared.asks.RegisterSaid.{RegisterSaid}
use Rattle.live_fabric.specs.declared.asks.RegisterSaid.TheVariants.{Value, Written, Failed}
use Rattle.live_fabric.specs.Lines.{Taken, seen_so_far, taken_anew}

-- ---- which device

-- the line of a script that has the node collect: it names an endpoint, or is refused
abbrev pub collect_text : List ℕ → List ℕ
collect_text words = codes "collect " ++ words

-- the line of a script that has the node move a packet: it names a switch, or is refused
abbrev pub move_text : List ℕ → List ℕ
move_text words = codes "move " ++ words

-- the words name this switch or this endpoint
abbrev pub NamesDevice : Known → List ℕ → ℕ → Type 0
NamesDevice known words node =
    Spells known (move_text words) (Move node)
    ⊎ (((first : ℕ) × IsRefused known (move_text words) first)
    × Spells known (collect_text words) (Collect node))

-- they name neither, for the reason of this number
abbrev pub NamesNoDevice : Known → List ℕ → ℕ → Type 0
NamesNoDevice known words reason =
    ((first : ℕ) × IsRefused known (move_text words) first)
    × IsRefused known (collect_text words) reason

-- ---- what standard hosts look for

-- a line that asks that devices show it, by these words
abbrev pub standard_text : List ℕ → List ℕ
standard_text words = codes "standard " ++ words

abbrev pub IsNoStandardLine : List ℕ → Type 0
IsNoStandardLine line = (words : List ℕ) → line ≢ standard_text words

-- what is known if every device does
abbrev pub standard_everywhere : Seen → Seen
standard_everywhere s = with_standards (length s.network.registers) s

-- so much is known after a line with these words: all devices show it, or the one that they name
abbrev pub ShowsStandard : Known → List ℕ → Seen → Seen → Type 0
ShowsStandard known words before after =
    ((words ≡ codes "all") × (after ≡ standard_everywhere before))
    ⊎ ((words ≢ codes "all")
    × ((node : ℕ) × NamesDevice known words node × (after ≡ with_standard node before)))

-- ---- a node's own registers

-- these bytes name this endpoint
abbrev pub NamesOwn : Known → List ℕ → ℕ → Type 0
NamesOwn known name node = Spells known (collect_text name) (Collect node)

-- they name none, for the reason of this number
abbrev pub NamesNoOwn : Known → List ℕ → ℕ → Type 0
NamesNoOwn known name reason = IsRefused known (collect_text name) reason

-- what is said of a register that was read: its value, or that no register stands there
abbrev pub value_said : Option ℕ → RegisterSaid
value_said (Some value) = Value value
value_said None = Failed 7

-- what is said of one that was written: that it was, or that none stands there that can be
abbrev pub write_said : Option Registers → RegisterSaid
write_said (Some device) = Written
write_said None = Failed 7

-- A node reads one of its registers, as a request at its port does. Nothing changes.
pub record OwnRead (taken : Taken) (node offset : ℕ) (said : RegisterSaid) (end : Taken)
    : Type 0 where
  pub device : Registers
  pub is : slice_get (seen_so_far taken).network.registers node ≡ Some device
  pub says : said ≡ value_said (value_at device offset 0)
  pub then : end ≡ taken_anew taken (seen_so_far taken)

-- A node writes one of its registers.
pub record OwnWrites (taken : Taken) (node offset value : ℕ) (said : RegisterSaid) (end : Taken)
    : Type 0 where
  pub device : Registers
  pub is : slice_get (seen_so_far taken).network.registers node ≡ Some device
  pub says : said ≡ write_said (written_at device offset value)
  pub then : end ≡ taken_anew taken (seen_with node device offset value (seen_so_far taken))
