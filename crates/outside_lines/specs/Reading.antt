-- Lines of devices outside, and of the ports of the fabric beside them.
use Rattle.std.specs.Prelude.{◌≡◌, ◌≢◌, ◌≤◌, ◌⊎◌, ℕ, ◌||◌, Bool, true, false, List, [], ◌∷◌, ◌++◌, map, Option, Some, None, codes}
use Rattle.std.specs.List.{AllByRecursion}
use Rattle.std.specs.Fmt.{decimal}
use Rattle.rio_chars.specs.CharText.{char_text_of, HasByte}
use Rattle.rio_chars.specs.declared.chars.Char.{Char}
use Rattle.fabric_script.specs.declared.ports.PortRef.{PortRef}
use Rattle.fabric_script.specs.Known.{Known, is_linked, same_port}
use Rattle.fabric_script.specs.Lines.{words_of}
use Rattle.fabric_script.specs.SetUps.{IsRefused}
use Rattle.fabric_script.specs.Texts.{port_text}
use Rattle.trace_lines.specs.Words.{IsScriptPort}
use Rattle.outside_lines.specs.declared.facing.Facing.{Facing}
use Rattle.outside_lines.specs.declared.reading.OutsideLine.{OutsideLine}
use Rattle.outside_lines.specs.declared.reading.OutsideLine.TheVariants.{External, Sent, Pump, Timeout}
use Rattle.outside_lines.specs.Facing.{port_beside, faces_out, is_joined}

-- ---- words

-- the port that a word names after lines of set-up, or that it names none
abbrev pub PortOf : Known → List ℕ → Option PortRef → Type 0
PortOf known word None = (p : PortRef) → IsScriptPort known p → word ≢ port_text known.names p
PortOf known word (Some p) = IsScriptPort known p × (word ≡ port_text known.names p)

-- the line of a script that has the link of a port settle
abbrev pub settle_text : List ℕ → List ℕ
settle_text word = codes "settle " ++ word

-- a word names no port, and the line `settle` of it is refused for the reason of this number
pub record NoPort (known : Known) (word : List ℕ) (reason : ℕ) : Type 0 where
  pub none : PortOf known word None
  pub refused : IsRefused known (settle_text word) reason

-- a word names this port, which faces out
abbrev pub NamesFacing : Known → List Facing → List ℕ → PortRef → Type 0
NamesFacing known facing word port =
    PortOf known word (Some port) × (faces_out facing port ≡ true)

-- a word names none that does
abbrev pub NamesNoFacing : Known → List Facing → List ℕ → Type 0
NamesNoFacing known facing word = PortOf known word None
    ⊎ ((port : PortRef) × PortOf known word (Some port) × (faces_out facing port ≡ false))

-- words spell these characters, or none
abbrev pub AreChars : List (List ℕ) → List Char → Type 0
AreChars words chars = AllByRecursion HasByte chars × (words ≡ map char_text_of chars)

abbrev pub AreNoChars : List (List ℕ) → Type 0
AreNoChars words = (chars : List Char) → AllByRecursion HasByte chars
    → words ≢ map char_text_of chars

-- words spell this number of turns
abbrev pub IsTurnCount : List (List ℕ) → ℕ → Type 0
IsTurnCount words count = (words ≡ decimal count ∷ []) × (1 ≤ count) × (count ≤ 100000)

-- they spell none, for the reason of this number
abbrev pub NoCount : List (List ℕ) → ℕ → Type 0
NoCount (word ∷ []) reason =
    (reason ≡ 2) × ((count : ℕ) → 1 ≤ count → count ≤ 100000 → word ≢ decimal count)
NoCount words reason = reason ≡ 1

-- ---- which line

abbrev pub external_text : List ℕ → List ℕ
external_text words = codes "external " ++ words

abbrev pub sending_text : List ℕ → List ℕ
sending_text words = codes "sent " ++ words

abbrev pub pump_text : List ℕ → List ℕ
pump_text words = codes "pump " ++ words

abbrev pub timeout_text : List ℕ → List ℕ
timeout_text words = codes "timeout " ++ words

-- two ports cannot be joined: they are one, or one has a link or is joined
abbrev pub is_taken : Known → List Facing → Facing → Bool
is_taken known facing at = same_port at.device at.port
    || (is_linked known.links at.device || (is_linked known.links at.port
    || (is_joined facing at.device || is_joined facing at.port)))

-- the text is this line of a device outside, while these ports face out
abbrev pub SpellsOutside : Known → List Facing → List ℕ → OutsideLine → Type 0
SpellsOutside known facing line (External at) =
    (words_of line ≡ codes "external" ∷ port_text known.names at.device
    ∷ port_text known.names at.port ∷ [])
    × IsScriptPort known at.device × IsScriptPort known at.port
    × (is_taken known facing at ≡ false)
SpellsOutside known facing line (Sent at chars) =
    (words_of line ≡ codes "sent" ∷ port_text known.names at.device
    ∷ map char_text_of chars.items)
    × IsScriptPort known at.device × (port_beside facing at.device ≡ Some at.port)
    × (chars.items ≢ []) × AllByRecursion HasByte chars.items
SpellsOutside known facing line (Pump port count) =
    (words_of line ≡ codes "pump" ∷ port_text known.names port ∷ decimal count ∷ [])
    × IsScriptPort known port × (faces_out facing port ≡ true) × (1 ≤ count) × (count ≤ 100000)
SpellsOutside known facing line (Timeout port) =
    (words_of line ≡ codes "timeout" ∷ port_text known.names port ∷ [])
    × IsScriptPort known port × (faces_out facing port ≡ true)

-- the words after `pump` are a script's: the first names no port that faces out, or no word follows
abbrev pub IsOtherPump : Known → List Facing → List (List ℕ) → Type 0
IsOtherPump known facing (first ∷ second ∷ more) = NamesNoFacing known facing first
IsOtherPump known facing words = Unit {0}

-- the first names this port, which faces out, and these follow
abbrev pub IsPump : Known → List Facing → List (List ℕ) → PortRef → List (List ℕ) → Type 0
IsPump known facing words port rest =
    (first : List ℕ) × (words ≡ first ∷ rest) × NamesFacing known facing first port

-- the words after `timeout` are a script's
abbrev pub IsOtherTimeout : Known → List Facing → List (List ℕ) → Type 0
IsOtherTimeout known facing (first ∷ []) = NamesNoFacing known facing first
IsOtherTimeout known facing words = Unit {0}

-- the text is none of these lines
pub record IsNoOutsideLine (known : Known) (facing : List Facing) (line : List ℕ) : Type 0 where
  pub no_external : (words : List ℕ) → line ≢ external_text words
  pub no_sent : (words : List ℕ) → line ≢ sending_text words
  pub no_pump : (words : List ℕ) → line ≡ pump_text words
      → IsOtherPump known facing (words_of words)
  pub no_timeout : (words : List ℕ) → line ≡ timeout_text words
      → IsOtherTimeout known facing (words_of words)

-- ---- refusals

-- the words after `external` are refused for the reason of this number
abbrev pub NoJoin : Known → List Facing → List (List ℕ) → ℕ → Type 0
NoJoin known facing (first ∷ second ∷ []) reason = NoPort known first reason
    ⊎ ((device : PortRef) × PortOf known first (Some device) × (NoPort known second reason
    ⊎ ((port : PortRef) × PortOf known second (Some port)
    × (is_taken known facing (record { device = device; port = port }) ≡ true)
    × (reason ≡ 7))))
NoJoin known facing words reason = reason ≡ 1

-- so are a first word after `sent`, and those that follow it
abbrev pub NoChars : Known → List Facing → List ℕ → List (List ℕ) → ℕ → Type 0
NoChars known facing first rest reason = NoPort known first reason
    ⊎ ((device : PortRef) × PortOf known first (Some device)
    × ((AreNoChars rest × (reason ≡ 9))
    ⊎ ((chars : List Char) × AreChars rest chars × (port_beside facing device ≡ None)
    × (reason ≡ 13))))

-- so are the words after `sent`
abbrev pub NoSending : Known → List Facing → List (List ℕ) → ℕ → Type 0
NoSending known facing (first ∷ second ∷ more) reason =
    NoChars known facing first (second ∷ more) reason
NoSending known facing words reason = reason ≡ 1

-- and those after `pump`, of a port that faces out
abbrev pub NoTurns : Known → List Facing → List (List ℕ) → ℕ → Type 0
NoTurns known facing (first ∷ second ∷ more) reason =
    ((port : PortRef) × NamesFacing known facing first port) × NoCount (second ∷ more) reason
NoTurns known facing words reason = ⊥

-- the text is a line of a device outside that is refused for the reason of this number
abbrev pub NoOutside : Known → List Facing → List ℕ → ℕ → Type 0
NoOutside known facing line reason =
    ((words : List ℕ) × (line ≡ external_text words)
    × NoJoin known facing (words_of words) reason)
    ⊎ (((words : List ℕ) × (line ≡ sending_text words)
    × NoSending known facing (words_of words) reason)
    ⊎ ((words : List ℕ) × (line ≡ pump_text words)
    × NoTurns known facing (words_of words) reason))
