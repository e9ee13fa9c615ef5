-- Edits that a noise makes of wires.
use Rattle.std.specs.Prelude.{◌≡◌, ◌==◌, ◌&&◌, ◌++◌, not, Bool, false, List, [], ◌∷◌, Option, Some, None, if◌then◌else◌}
use Rattle.rio_chars.specs.declared.chars.Char.{Char}
use Rattle.link_wires.specs.Wires.{fits}
use Rattle.rio_chars.specs.declared.edit.Edit.{Edit}
use Rattle.rio_chars.specs.declared.edit.Edit.TheVariants as Edits
use Rattle.link_machine.specs.Calls.{has_none}
use Rattle.fabric_script.specs.declared.ports.PortRef.{PortRef}
use Rattle.fabric_script.specs.Operations.{line_editing}
use Rattle.fabric_trace.specs.Blocks.{pumps, IsSettle}
use Rattle.fabric_trace.specs.Fold.{seen}
use Rattle.fabric_trace.specs.Known.{Seen}
use Rattle.trace_lines.specs.Lines.{TraceLine, Begun}

-- no character is erased
abbrev pub is_idle : Edit → Bool
is_idle (Edits.Alter place ch) = false
is_idle (Edits.Erase place n) = n == 0
is_idle (Edits.Insert place ch) = false

-- an edit does something: then its line is written
abbrev pub edit_lines : PortRef → Edit → List Char → List TraceLine
edit_lines p edit chars =
    if fits edit chars && not (is_idle edit) then Begun (line_editing p edit) ∷ [] else []

-- the next of some edits is given, or there is none
abbrev pub Gives : List Edit → Option Edit → List Edit → Type 0
Gives noise None left = (noise ≡ []) × (left ≡ [])
Gives noise (Some edit) left = noise ≡ edit ∷ left

-- The next edit is made of a wire that has characters: its lines, and the edits that are left.
abbrev pub stirred : List Edit → PortRef → List Char → List TraceLine × List Edit
stirred [] p chars = ([], [])
stirred (edit ∷ noise) p chars =
    if has_none chars then ([], edit ∷ noise) else (edit_lines p edit chars, noise)

-- Both ports of a link take a turn, each wire that has characters gets the next edit, and the link
-- settles. `left` are the edits that are left then.
pub record IsCarry (noise left : List Edit) (s : Seen) (a b : PortRef) (lines : List TraceLine)
    : Type 0 where
  pub one : List TraceLine
  pub two : List TraceLine
  pub first : List TraceLine × List Edit
  pub second : List TraceLine × List Edit
  pub block : List TraceLine
  pub one_is : one ≡ pumps s a 1 b
  pub two_is : two ≡ pumps (seen s one) b 1 a
  pub first_is : first ≡ stirred noise a ((seen (seen s one) two).wires a).chars
  pub second_is : second ≡ stirred first.1 b ((seen (seen (seen s one) two) first.0).wires b).chars
  pub settles : IsSettle (seen (seen (seen (seen s one) two) first.0) second.0) a b block
  pub whole : lines ≡ one ++ two ++ first.0 ++ second.0 ++ block
  pub left_is : left ≡ second.1
