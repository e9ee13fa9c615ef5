-- What the values of a form say, by their places.
use Rattle.std.proofs.Common.{◌≡◌, ℕ, suc, List, [], ◌∷◌, Option, Some, slice_get, length, refl, sym, ap, ap₂, arith}
use Rattle.fabric_script.specs.declared.forms.Form.{Form}
use Rattle.fabric_script.specs.declared.forms.Form.TheVariants as F
use Rattle.fabric_script.specs.Forms.{Field, NewName, Node, Port, Number, Hex, Digits, Character, fields_of}
use Rattle.fabric_script.specs.Texts.{Value, Named, NodeValue, PortValue, Counted, Bytes, InDigits, Code}
use Rattle.fabric_script.specs.Values.{node_in, port_in, number_in, bytes_in, char_in, AreWithin}
use Rattle.fabric_script.specs.Lines.{form_of, values_of}
use Rattle.fabric_script.specs.LineWords.{NodeIsNext, line_saying}
use Rattle.fabric_script.specs.Known.{Known}
use Rattle.fabric_script.specs.Hits.{FitsField, FitAll}

-- the numbers that fit their kinds are within their ranges
pub within : (known : Known) (fields : List Field) (values : List Value)
    → FitAll known fields values → AreWithin fields (slice_get values)
within known [] [] f = tt
within known (Number least most ∷ fields) (Counted n ∷ values) f =
    (f.0.1, within known fields values f.1)
within known (NewName ∷ fields) (value ∷ values) f = within known fields values f.1
within known (Node ∷ fields) (value ∷ values) f = within known fields values f.1
within known (Port ∷ fields) (value ∷ values) f = within known fields values f.1
within known (Hex ∷ fields) (value ∷ values) f = within known fields values f.1
within known (Digits count ∷ fields) (value ∷ values) f = within known fields values f.1
within known (Character ∷ fields) (value ∷ values) f = within known fields values f.1
within known _ _ f = grind arith

-- ---- values that fit are made again of what they say

abbrev pub name_in : Option Value → List ℕ
name_in (Some (Named name)) = name
name_in _ = []

abbrev again : Field → Option Value → Value
again NewName value = Named (name_in value)
again Node value = NodeValue (node_in value)
again Port value = PortValue (port_in value)
again (Number least most) value = Counted (number_in value)
again Hex value = Bytes (bytes_in value)
again (Digits count) value = InDigits count (number_in value)
again Character value = Code (char_in value)

abbrev all_again : List Field → (ℕ → Option Value) → List Value
all_again [] said = []
all_again (field ∷ fields) said =
    again field (said 0) ∷ all_again fields (λ place. said (suc place))

again-same : (known : Known) (field : Field) (value : Value) → FitsField known field value
    → again field (Some value) ≡ value
again-same known NewName (Named name) f = refl
again-same known Node (NodeValue n) f = refl
again-same known Port (PortValue p) f = refl
again-same known (Number least most) (Counted n) f = refl
again-same known Hex (Bytes bytes) f = refl
again-same known (Digits count) (InDigits shown n) f = ap (λ k. InDigits k n) (sym f.0)
again-same known Character (Code c) f = refl
again-same known _ _ f = grind arith

all_again-same : (known : Known) (fields : List Field) (values : List Value)
    → FitAll known fields values → all_again fields (slice_get values) ≡ values
all_again-same known [] [] f = refl
all_again-same known (field ∷ fields) (value ∷ values) f =
    ap₂ ◌∷◌ (again-same known field value f.0) (all_again-same known fields values f.1)
all_again-same known _ _ f = grind arith

-- ---- the line that a form and its values make says these values

pub form_of-line_saying : (form : Form) (n : ℕ) (values : List Value)
    → form_of (line_saying form n values) ≡ form
form_of-line_saying F.Run n values = refl
form_of-line_saying _ n values = refl

pub values_of-line_saying : (known : Known) (form : Form) (n : ℕ) (values : List Value)
    → FitAll known (fields_of form) values
    → values_of (name_in (slice_get values 0)) (line_saying form n values) ≡ values
values_of-line_saying known F.Run n values f = all_again-same known (fields_of F.Run) values f
values_of-line_saying known form n values f = all_again-same known (fields_of form) values f

pub line_saying-next : (known : Known) (form : Form) (values : List Value)
    → NodeIsNext known (line_saying form (length known.names) values)
line_saying-next known F.Endpoint values = refl
line_saying-next known F.Switch values = refl
line_saying-next known _ values = tt
