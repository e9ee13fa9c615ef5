-- What a line looks at behind it: whether the next one says that a wire was too short.
use Rattle.std.proofs.Common.{◌≡◌, ℕ, ◌++◌, nat_eq, List, [], ◌∷◌, codes, refl, sym, ap, ◌∙◌, append_assoc}
use Rattle.std.specs.Cmp.Lexicographic.{pointwise}
use Rattle.fabric_script.specs.declared.ports.PortRef.{PortRef}
use Rattle.fabric_script.specs.Known.{Known, IsOrderly}
use Rattle.fabric_model.specs.Network.{Network}
use Rattle.trace_lines.specs.Lines.{TraceLine}
use Rattle.fabric_trace.specs.Wires.{WireChars}
use Rattle.trace_check.specs.Checks.{LinePasses}
use Rattle.trace_check.specs.Lawful.{as_behind, OffWire}
use Rattle.trace_check.specs.Wires.{are_short, told_wires, wires_after}
use Rattle.trace_lines.specs.Words.{SpellsLine}
use Rattle.trace_check.proofs.Exclusive.{short_text, stands}

-- one more line
pub wires_on : (links : List (PortRef × PortRef)) (before : List TraceLine) (wires : WireChars)
    (line : TraceLine) (behind : List TraceLine)
    → told_wires links (wires_after links wires before (line ∷ behind)) line (are_short behind)
    ≡ wires_after links wires (before ++ line ∷ []) behind
wires_on links [] wires line behind = refl
wires_on links (x ∷ before) wires line behind =
    wires_on links before (told_wires links wires x (are_short (before ++ line ∷ behind))) line
    behind
    ∙ ap (λ (l : List TraceLine).
    wires_after links (told_wires links wires x (are_short l)) (before ++ line ∷ []) behind)
    (sym (append_assoc before (line ∷ []) behind))

pub passes_alike : {net : Network} {before : List TraceLine} {line : TraceLine}
    {one other : List TraceLine} → are_short one ≡ are_short other → LinePasses net before line one
    → LinePasses net before line other
passes_alike {other = other} same passes = record {
  wires = stands other OffWire same passes;
  step = passes.step;
  came = passes.came;
  allowed = passes.allowed;
  sends = passes.sends;
}

-- a text that spells a line says the same as the line
pub text_short : {known : Known} {text : List ℕ} {line : TraceLine} (texts : List (List ℕ))
    (behind : List TraceLine) → IsOrderly known → SpellsLine known text line
    → are_short (as_behind (text ∷ texts)) ≡ are_short (line ∷ behind)
text_short {text = text} texts behind orderly spelled =
    sym (short_text behind (pointwise nat_eq text (codes "short")) orderly refl spelled)
