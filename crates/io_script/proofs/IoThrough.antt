-- A loop over the lines behind the set-up lines: what is left of them decides what all are.
use Rattle.std.proofs.Common.{◌≡◌, ℕ, ◌+◌, true, false, List, [], ◌∷◌, ◌++◌, length, refl, sym, ap, ◌∙◌, subst, append_assoc, append-nil, inl, inr}
use Rattle.fabric_script.specs.Known.{Known}
use Rattle.fabric_script.specs.Scripts.{is_skipped}
use Rattle.io_script.specs.declared.forms.IoForm.{IoForm}
use Rattle.io_script.specs.declared.lines.IoLine.{IoLine}
use Rattle.io_script.specs.declared.lines.NumberedIo.{NumberedIo}
use Rattle.io_script.specs.declared.reasons.IoReason.{IoReason}
use Rattle.io_script.specs.IoLines.{io_form_of}
use Rattle.io_script.specs.IoReading.{Earlier, earlier_with, LeastIoHit, nothing_earlier, SpellsIo}
use Rattle.io_script.specs.IoReasons.{io_reason_number}
use Rattle.io_script.specs.IoScripts.{AreHitFrom, SpellIoFrom}

-- These lines were read of the texts, up to a line of this number. Whatever the texts that are left
-- spell stands behind them, and where one of those is hit all texts are.
pub record IsThrough (known : Known) (first : ℕ) (texts : List (List ℕ)) (lines : List NumberedIo)
    (number : ℕ) (earlier : Earlier) (left : List (List ℕ)) : Type 0 where
  pub spells : (rest : List NumberedIo) → SpellIoFrom number known earlier left rest
      → SpellIoFrom first known nothing_earlier texts (lines ++ rest)
  pub hits : (line reason : ℕ) → AreHitFrom number known earlier left line reason
      → AreHitFrom first known nothing_earlier texts line reason

pub begin_through : (known : Known) (first : ℕ) (texts : List (List ℕ))
    → IsThrough known first texts [] first nothing_earlier texts
begin_through known first texts =
    record { spells = λ rest h. h; hits = λ line reason h. h }

module _ (known : Known) (first : ℕ) (all : List (List ℕ)) (lines : List NumberedIo) (number : ℕ)
    (earlier : Earlier) (text : List ℕ) (texts : List (List ℕ))
    (is : IsThrough known first all lines number earlier (text ∷ texts)) where
  -- a text is skipped
  pub skip_through : is_skipped text ≡ true
      → IsThrough known first all lines (number + 1) earlier texts
  skip_through skipped = record {
    spells = λ rest h. is.spells rest (rw skipped h);
    hits = λ line reason h. is.hits line reason (rw skipped h);
  }

  -- a text is a line
  pub keep_through : (io : IoLine) → is_skipped text ≡ false → SpellsIo known earlier text io
      → IsThrough known first all (lines ++ record { line = number; io = io } ∷ []) (number + 1)
      (earlier_with (length known.links) earlier (io_form_of io)) texts
  keep_through io kept says = record {
    spells = λ rest h.
        subst (SpellIoFrom first known nothing_earlier all)
        (sym (append_assoc lines (record { line = number; io = io } ∷ []) rest))
        (is.spells (record { line = number; io = io } ∷ rest)
        (rw kept (io, rest, refl, says, h)));
    hits = λ line reason h. is.hits line reason (rw kept (inr (io, says, h)));
  }

  -- the same, as the code keeps it
  pub keep_on : (io : IoLine) (links : ℕ) (form : IoForm) (next : Earlier) (more : List NumberedIo)
      → links ≡ length known.links → form ≡ io_form_of io → next ≡ earlier_with links earlier form
      → more ≡ lines ++ record { line = number; io = io } ∷ [] → is_skipped text ≡ false
      → SpellsIo known earlier text io → IsThrough known first all more (number + 1) next texts
  keep_on io links form next more linked formed nexted mored kept says =
      let next_is : next ≡ earlier_with (length known.links) earlier (io_form_of io)
      = nexted ∙ ap (λ n. earlier_with n earlier form) linked
      ∙ ap (earlier_with (length known.links) earlier) formed in
      rw (next_is, mored) (keep_through io kept says)

  -- a text is hit
  pub hit_through : (reason : IoReason) → is_skipped text ≡ false
      → LeastIoHit known earlier text reason
      → AreHitFrom first known nothing_earlier all number (io_reason_number reason)
  hit_through reason kept least =
      is.hits number (io_reason_number reason) (rw kept (inl (refl, (reason, least, refl))))

-- nothing is left
pub end_through : (known : Known) (first : ℕ) (all : List (List ℕ)) (lines : List NumberedIo)
    (number : ℕ) (earlier : Earlier) → IsThrough known first all lines number earlier []
    → SpellIoFrom first known nothing_earlier all lines
end_through known first all lines number earlier is =
    subst (SpellIoFrom first known nothing_earlier all) (append-nil lines) (is.spells [] refl)
