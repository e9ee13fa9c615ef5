-- Where a character leads, by the text and by what has come of a symbol.
use Rattle.std.proofs.Common.{◌≡◌, ℕ, List, refl, sym, ap, ◌∙◌}
use Rattle.link_model.specs.Prelude.{Char, Place, step}
use Rattle.link_model.specs.Reading.{Text}
use Rattle.link_model.specs.ReadingKinds.{kind}
use Rattle.link_model.specs.Places.{outside, finished, step_by}
use Rattle.rio_symbols.specs.declared.characters.Delimiter.{Delimiter}
use Rattle.rio_symbols.specs.Spelling.{spelled}
use Rattle.link_model.specs.declared.reading_kinds.CharKind.{CharKind}
use Rattle.link_model.specs.declared.reading_kinds.CharKind.TheVariants.{Byte}
use Rattle.link_model.specs.declared.reading_kinds.Pending.{Pending}
use Rattle.link_model.specs.declared.reading_kinds.Pending.TheVariants as Pend
use Rattle.link_entries.specs.declared.reading.TextKind.TheVariants as text
use Rattle.link_entries.specs.Readers.{text_kind}

-- a text within a packet has bytes
pub within_bytes : (of : Text) → text.Within ≡ text_kind of
    → (bytes : List ℕ) × (of ≡ Text.Within bytes)
within_bytes Text.Plain is = absurd cc
within_bytes Text.Skipped is = absurd cc
within_bytes (Text.Within bytes) is = (bytes, refl)

-- a character while no symbol is in progress
pub step-outside : (from : Place) (c : Char) (k : CharKind) → Pend.Nothing ≡ from.pending
    → k ≡ kind c → step from c ≡ outside from.text k
step-outside from c k none is =
    ap (λ (p : Pending). step_by from.text p (kind c)) (sym none)
    ∙ ap (λ (one : CharKind). outside from.text one) (sym is)

-- the third byte of a symbol
pub step-finished : (from : Place) (c : Char) (d : Delimiter) (x y z : ℕ)
    → Pend.Two d x y ≡ from.pending → Byte z ≡ kind c
    → step from c ≡ finished from.text d (spelled x y z)
step-finished from c d x y z two is =
    ap (λ (p : Pending). step_by from.text p (kind c)) (sym two)
    ∙ ap (λ (one : CharKind). step_by from.text (Pend.Two d x y) one) (sym is)
