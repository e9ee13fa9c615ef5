-- The words of a line, taken one by one, and the least reason that has hit one so far.
use Rattle.std.specs.Prelude.{◌≡◌, ◌≢◌, ℕ, ◌+◌, ◌≤◌, ◌⊎◌, nat_le, nat_lt, Bool, true, false, ◌&&◌, List, [], ◌∷◌, map, length, Option, Some, None, Result, Ok, Err, if◌then◌else◌}
use Rattle.std.specs.List.{flat_map, sum_by}
use Rattle.fabric_script.specs.declared.known.Node.{Node}
use Rattle.fabric_script.specs.declared.lines.Line.{Line}
use Rattle.fabric_script.specs.declared.lines.Line.TheVariants.{Endpoint, Switch, Link}
use Rattle.fabric_script.specs.declared.lines.Numbered.{Numbered}
use Rattle.fabric_script.specs.declared.reasons.Reason.TheVariants.{TooMuchWork, UnknownLine}
use Rattle.fabric_script.specs.Known.{IsOrderly, Known, node_is_switch}
use Rattle.fabric_script.specs.declared.values.Value.{Value}
use Rattle.fabric_script.specs.Texts.{value_text}
use Rattle.io_script.specs.declared.forms.IoForm.{IoForm}
use Rattle.io_script.specs.declared.forms.IoForm.TheVariants as F
use Rattle.io_script.specs.declared.lines.IoLine.{IoLine}
use Rattle.io_script.specs.declared.reasons.IoReason.{IoReason}
use Rattle.io_script.specs.declared.reasons.IoReason.TheVariants.{OfScript, LateMemory}
use Rattle.io_script.specs.IoForms.{IoField, Data, StreamData, io_fields_of}
use Rattle.io_script.specs.IoLines.{io_form_of, io_values_of}
use Rattle.io_script.specs.IoReading.{Earlier, gives_memory, io_cost_of}
use Rattle.io_script.specs.IoReasons.{io_reason_number}
use Rattle.io_script.specs.IoWords.{FitsIo, HitsIoWord}

-- ---- what is kept of a fabric

-- whether each node is a switch
abbrev pub switches_among : List Node → List Bool
switches_among nodes = map (λ node. node_is_switch (Some node)) nodes

-- the names of the nodes, whether each is a switch, and the number of links are these
pub record IsFabric (known : Known) (names : List (List ℕ)) (switches : List Bool) (links : ℕ) :
    Type 0 where
  pub orderly : IsOrderly known
  pub named : names ≡ known.names
  pub switched : switches ≡ switches_among known.nodes
  pub linked : links ≡ length known.links
  pub few_names : length names ≤ 64
  pub few_links : links ≤ 16777217

-- ---- one word after another

-- the lesser of the reason so far and one more
abbrev pub with_io_reason : Option IoReason → IoReason → Option IoReason
with_io_reason None reason = Some reason
with_io_reason (Some before) reason =
    if nat_le (io_reason_number before) (io_reason_number reason) then Some before else Some reason

abbrev pub io_noted_by : {T : Type 0} → Option IoReason → Result T IoReason → Option IoReason
io_noted_by hit (Ok value) = hit
io_noted_by hit (Err reason) = with_io_reason hit reason

abbrev pub io_ok_of : {T : Type 0} → Result T IoReason → Option T
io_ok_of (Ok value) = Some value
io_ok_of (Err reason) = None

-- A word is taken as this value of its kind, or the reason that hits it is noted.
abbrev pub TakesIo : Known → IoField → Value → List ℕ → Option IoReason → Option IoReason → Type 0
TakesIo known field value word hit hit_after =
    (FitsIo known field value × (word ≡ value_text known.names value) × (hit_after ≡ hit))
    ⊎ ((reason : IoReason) × HitsIoWord known reason field word
    × (hit_after ≡ with_io_reason hit reason))

-- words are taken, one after another, as values of these kinds
pub data TakesAllIo (known : Known) : List IoField → List Value → List (List ℕ) → Option IoReason
    → Option IoReason → Type 0 where
  NoMoreIo : {hit : Option IoReason} → TakesAllIo known [] [] [] hit hit
  MoreIo : {field : IoField} {fields : List IoField} {value : Value} {values : List Value}
      {word : List ℕ} {words : List (List ℕ)} {hit next last : Option IoReason}
      → TakesIo known field value word hit next → TakesAllIo known fields values words next last
      → TakesAllIo known (field ∷ fields) (value ∷ values) (word ∷ words) hit last

-- the kind of the data of a write, which may be a streaming one
abbrev pub data_field : Bool → IoField
data_field false = Data
data_field true = StreamData

-- ---- a whole line

-- the reason that hits a line for where it stands, whatever its words say
abbrev pub standing_hit : ℕ → Earlier → IoForm → Option IoReason
standing_hit links earlier form =
    if nat_lt 100000 (earlier.cost + io_cost_of links form) then Some (OfScript TooMuchWork)
    else (if gives_memory form && earlier.begun then Some LateMemory else None)

-- what a line is read as, if this is the least reason that has hit it
abbrev pub read_end : Option IoReason → IoLine → Result IoLine IoReason
read_end None line = Ok line
read_end (Some reason) line = Err reason

-- The words behind a keyword were read as a line of this form: they are not as many as it wants, or
-- they were taken one by one, after a reason that hits the line anyhow.
abbrev pub ReadsBehind : Known → IoForm → List (List ℕ) → Option IoReason
    → Result IoLine IoReason → Type 0
ReadsBehind known form words hit read =
    ((length words ≢ length (io_fields_of form)) × (read ≡ Err (OfScript UnknownLine)))
    ⊎ ((line : IoLine) × (last : Option IoReason) × (io_form_of line ≡ form)
    × TakesAllIo known (io_fields_of form) (io_values_of line) words hit last
    × (read ≡ read_end last line))

-- whether a line of this form asks to write
abbrev pub asks_to_write : IoForm → Bool
asks_to_write F.NWrite = true
asks_to_write F.NWriteR = true
asks_to_write F.SWrite = true
asks_to_write _ = false

abbrev pub is_streaming : IoForm → Bool
is_streaming F.SWrite = true
is_streaming _ = false

-- ---- what set-up lines say of the nodes and links

abbrev pub switch_of : Line → List Bool
switch_of (Endpoint name id) = false ∷ []
switch_of (Switch name ports) = true ∷ []
switch_of _ = []

-- whether each node is a switch, in the order of their lines
abbrev pub switches_of : List Numbered → List Bool
switches_of lines = flat_map (λ line. switch_of line.line) lines

abbrev pub link_count : Line → ℕ
link_count (Link a b) = 1
link_count _ = 0

abbrev pub links_among : List Numbered → ℕ
links_among lines = sum_by (λ line. link_count line.line) lines
