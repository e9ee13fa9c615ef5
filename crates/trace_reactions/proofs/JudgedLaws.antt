-- Texts that a judge has taken, with one more behind them.
use Rattle.std.proofs.Common.{◌≡◌, ℕ, List, [], ◌∷◌, ◌++◌, refl, sym, ap, ◌∙◌, subst}
use Rattle.fabric_script.specs.Known.{Known}
use Rattle.fabric_script.specs.SetUps.{SetUpLines}
use Rattle.trace_lines.specs.Lines.{TraceLine}
use Rattle.trace_lines.specs.Words.{SpellsLine}
use Rattle.trace_reactions.specs.Judged.{AreAnswered, TextsSpell}
use Rattle.trace_reactions.specs.Judging.{after_line, after_lines, LineReacts, LinesReact, reactions_before, ReactionsKept}

spelled_more : (known : Known) (texts : List (List ℕ)) (lines : List TraceLine) (text : List ℕ)
    (line : TraceLine) → TextsSpell known texts lines → SpellsLine known text line
    → TextsSpell known (texts ++ text ∷ []) (lines ++ line ∷ [])
spelled_more known [] [] text line are is = (is, tt)
spelled_more known [] (x ∷ lines) text line are is = absurd are
spelled_more known (t ∷ texts) [] text line are is = absurd are
spelled_more known (t ∷ texts) (x ∷ lines) text line are is =
    (are.0, spelled_more known texts lines text line are.1 is)

after_more : (kept : ReactionsKept) (lines : List TraceLine) (line : TraceLine)
    → after_lines kept (lines ++ line ∷ []) ≡ after_line (after_lines kept lines) line
after_more kept [] line = refl
after_more kept (x ∷ lines) line = after_more (after_line kept x) lines line

react_more : (kept : ReactionsKept) (lines : List TraceLine) (line : TraceLine)
    → LinesReact kept lines → LineReacts (after_lines kept lines) line
    → LinesReact kept (lines ++ line ∷ [])
react_more kept [] line react one = (one, tt)
react_more kept (x ∷ lines) line react one =
    (react.0, react_more (after_line kept x) lines line react.1 one)

-- one more text spells a line that passes
pub answered_more : {set_up : SetUpLines} {texts : List (List ℕ)} {kept : ReactionsKept}
    (text : List ℕ) (line : TraceLine) → AreAnswered set_up texts kept
    → SpellsLine set_up.known text line → LineReacts kept line
    → AreAnswered set_up (texts ++ text ∷ []) (after_line kept line)
answered_more {set_up} {texts} {kept} text line are spells reacts = record {
  lines = are.lines ++ line ∷ [];
  spelled = spelled_more set_up.known texts are.lines text line are.spelled spells;
  react = react_more (reactions_before set_up.lines) are.lines line are.react
      (subst (λ k. LineReacts k line) are.kept_is reacts);
  kept_is = ap (λ k. after_line k line) are.kept_is
      ∙ sym (after_more (reactions_before set_up.lines) are.lines line);
}

-- no text is taken
pub answered_none : (set_up : SetUpLines) → AreAnswered set_up [] (reactions_before set_up.lines)
answered_none set_up = record { lines = []; spelled = tt; react = tt; kept_is = refl }
