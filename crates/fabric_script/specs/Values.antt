-- What the words of a line say, by their places: what stands in for one of another kind is 0.
use Rattle.std.specs.Prelude.{ℕ, suc, ◌≤◌, List, [], ◌∷◌, Option, Some, slice_get}
use Rattle.rio_chars.specs.declared.chars.Char.{Char}
use Rattle.rio_chars.specs.declared.chars.Char.TheVariants.{Invalid}
use Rattle.fabric_script.specs.declared.ports.PortRef.{PortRef}
use Rattle.fabric_script.specs.Ports.{port_at}
use Rattle.fabric_script.specs.Forms.{Field, Number}
use Rattle.fabric_script.specs.Texts.{Value, NodeValue, PortValue, Counted, Bytes, InDigits, Code}

abbrev pub node_in : Option Value → ℕ
node_in (Some (NodeValue n)) = n
node_in _ = 0

abbrev pub port_in : Option Value → PortRef
port_in (Some (PortValue p)) = p
port_in _ = port_at 0 0

abbrev pub number_in : Option Value → ℕ
number_in (Some (Counted n)) = n
number_in (Some (InDigits count n)) = n
number_in _ = 0

abbrev pub bytes_in : Option Value → List ℕ
bytes_in (Some (Bytes bytes)) = bytes
bytes_in _ = []

abbrev pub char_in : Option Value → Char
char_in (Some (Code c)) = c
char_in _ = Invalid

abbrev pub node_said : List Value → ℕ → ℕ
node_said values place = node_in (slice_get values place)

abbrev pub port_said : List Value → ℕ → PortRef
port_said values place = port_in (slice_get values place)

abbrev pub number_said : List Value → ℕ → ℕ
number_said values place = number_in (slice_get values place)

abbrev pub bytes_said : List Value → ℕ → List ℕ
bytes_said values place = bytes_in (slice_get values place)

abbrev pub char_said : List Value → ℕ → Char
char_said values place = char_in (slice_get values place)

-- the numbers that these places say are not above those of their kinds
abbrev pub AreWithin : List Field → (ℕ → Option Value) → Type 0
AreWithin [] said = Unit {0}
AreWithin (Number least most ∷ fields) said =
    (number_in (said 0) ≤ most) × AreWithin fields (λ place. said (suc place))
AreWithin (field ∷ fields) said = AreWithin fields (λ place. said (suc place))
