-- Characters that were heard of characters that were sent, where some were heard wrong.
use Rattle.std.specs.Prelude.{◌≡◌, ◌≢◌, ℕ, ◌⊎◌, Bool, true, false, List, [], ◌∷◌}
use Rattle.rio_chars.specs.CharText.{IsData}
use Rattle.rio_chars.specs.declared.chars.Char.{Char}
use Rattle.rio_chars.specs.declared.chars.Char.TheVariants.{Data, Invalid}
use Rattle.code_groups.specs.Changes.{is_delimiter, DifferInOneBlock}

-- A character that is heard for another one: it is no delimiter, and data that is heard for data
-- differs within one sub-block.
pub record IsMistakenFor (sent heard : Char) : Type 0 where
  pub differs : heard ≢ sent
  pub no_delimiter : is_delimiter heard ≡ false
  pub in_one_block : (byte found : ℕ) → sent ≡ Data byte → heard ≡ Data found
      → DifferInOneBlock byte found

-- What was heard, character by character: as it was sent, or invalid, or mistaken. After a mistake
-- the receiver is astray: all that it hears is data and as it was sent, up to a character that is
-- invalid. From there on it is not astray.
abbrev pub HeardWithMistakes : Bool → List Char → List Char → Type 0
HeardWithMistakes astray [] heard = heard ≡ []
HeardWithMistakes astray (c ∷ sent) [] = ⊥
HeardWithMistakes false (c ∷ sent) (h ∷ heard) =
    ((h ≡ c) × HeardWithMistakes false sent heard)
    ⊎ (((h ≡ Invalid) × HeardWithMistakes false sent heard)
    ⊎ (IsMistakenFor c h × HeardWithMistakes true sent heard))
HeardWithMistakes true (c ∷ sent) (h ∷ heard) =
    ((h ≡ Invalid) × HeardWithMistakes false sent heard)
    ⊎ ((h ≡ c) × IsData c × HeardWithMistakes true sent heard)
