-- Lines that none of the reasons hits, and one more.
use Rattle.std.proofs.Common.{◌≡◌, ℕ, ◌++◌, List, [], ◌∷◌, ◌⊎◌, inl, inr, refl, sym, ap, ◌∙◌, subst, append_assoc}
use Rattle.fabric_script.specs.Known.{Known, IsOrderly}
use Rattle.fabric_model.specs.Network.{Network}
use Rattle.trace_lines.specs.Lines.{TraceLine}
use Rattle.trace_check.specs.Checks.{LinePasses}
use Rattle.trace_check.specs.Lawful.{as_behind, PassFront}
use Rattle.trace_check.specs.Wires.{are_short}
use Rattle.trace_lines.specs.Words.{SpellsLine}
use Rattle.trace_check.proofs.Behind.{passes_alike, text_short}
use Rattle.trace_check.proofs.Exclusive.{short_alike}

-- of lines and one more, a line is one of those or the last
record IsAmong (lines : List TraceLine) (before : List TraceLine) (line : TraceLine)
    (behind : List TraceLine) (last : TraceLine) : Type 0 where
  rest : List TraceLine
  is : lines ≡ before ++ line ∷ rest
  behind_is : behind ≡ rest ++ last ∷ []

record IsLastOf (lines : List TraceLine) (before : List TraceLine) (line : TraceLine)
    (behind : List TraceLine) (last : TraceLine) : Type 0 where
  is : lines ≡ before
  line_is : last ≡ line
  none : behind ≡ []

abbrev IsPlaced : List TraceLine → List TraceLine → TraceLine → List TraceLine → TraceLine → Type 0
IsPlaced lines before line behind last =
    IsAmong lines before line behind last ⊎ IsLastOf lines before line behind last

among : (lines before : List TraceLine) (line : TraceLine) (behind : List TraceLine)
    (last : TraceLine) → lines ++ last ∷ [] ≡ before ++ line ∷ behind
    → IsPlaced lines before line behind last
among [] [] line behind last is = inr (record { is = refl; line_is = cc; none = cc })
among [] (x ∷ []) line behind last is = absurd cc
among [] (x ∷ y ∷ before) line behind last is = absurd cc
among (x ∷ lines) [] line behind last is =
    inl (record { rest = lines; is = cc; behind_is = cc })
among (x ∷ lines) (y ∷ before) line behind last is =
    further (among lines before line behind last cc)
  where
    same : x ≡ y
    same = cc

    further : IsPlaced lines before line behind last
        → IsPlaced (x ∷ lines) (y ∷ before) line behind last
    further (inl a) = inl (record {
      rest = a.rest;
      is = λ i. same i ∷ a.is i;
      behind_is = a.behind_is;
    })
    further (inr b) = inr (record { is = λ i. same i ∷ b.is i; line_is = b.line_is; none = b.none })

-- what stands behind a line of those before
short_on : {known : Known} {text : List ℕ} {last : TraceLine} (texts : List (List ℕ))
    (rest : List TraceLine) → IsOrderly known → SpellsLine known text last
    → are_short (rest ++ as_behind (text ∷ texts))
    ≡ are_short ((rest ++ last ∷ []) ++ as_behind texts)
short_on {text = text} {last} texts rest orderly spelled =
    short_alike rest (as_behind (text ∷ texts)) (last ∷ as_behind texts)
    (text_short texts (as_behind texts) orderly spelled)
    ∙ ap are_short (sym (append_assoc rest (last ∷ []) (as_behind texts)))

pub pass_more : {known : Known} {net : Network} {lines : List TraceLine} {text : List ℕ}
    {last : TraceLine} (texts : List (List ℕ)) → IsOrderly known → SpellsLine known text last
    → PassFront net lines (text ∷ texts) → LinePasses net lines last (as_behind texts)
    → PassFront net (lines ++ last ∷ []) texts
pass_more {net = net} {lines} {last = last} texts orderly spelled pass passes before line behind
    is =
    by_place (among lines before line behind last is)
  where
    by_place : IsPlaced lines before line behind last
        → LinePasses net before line (behind ++ as_behind texts)
    by_place (inl a) =
        subst (λ (l : List TraceLine). LinePasses net before line (l ++ as_behind texts))
        (sym a.behind_is)
        (passes_alike (short_on texts a.rest orderly spelled) (pass before line a.rest a.is))
    by_place (inr b) =
        subst (λ (l : List TraceLine). LinePasses net before line (l ++ as_behind texts))
        (sym b.none)
        (subst (λ (l : TraceLine). LinePasses net before l (as_behind texts)) b.line_is
        (subst (λ (l : List TraceLine). LinePasses net l last (as_behind texts)) b.is passes))
