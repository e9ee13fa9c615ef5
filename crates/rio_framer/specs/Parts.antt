-- A part of the characters of a run, which a framer takes at once.
use Rattle.std.specs.Prelude.{◌≡◌, ℕ, ◌+◌, ◌<◌, ◌≤◌, List, ◌∷◌, ◌++◌, length, drop}
use Rattle.link_model.specs.Prelude.{Char, telling_front, Place, Text, Plain, Skipped, Within, Delimiter, Data, data_chars}
use Rattle.link_model.specs.Fronts.{Front}
use Rattle.link_model.specs.declared.reading_kinds.Pending.{Pending}
use Rattle.link_model.specs.declared.reading_kinds.Pending.TheVariants.{Nothing, Opened, One, Two}
use Rattle.link_model.specs.declared.reading_kinds.CharKind.TheVariants.{Opens}
use Rattle.link_model.specs.ReadingKinds.{kind}
use Rattle.rio_framer.specs.Framing.{Framing, framing_at, framing_after}
use Rattle.rio_framer.specs.Giving.{told_of_events}
use Rattle.rio_framer.specs.declared.events.Told.{Told}
use Rattle.rio_framer.specs.declared.events.Told.TheVariants as told

-- a front behind this many characters that tell nothing
abbrev pub later : ℕ → Front → Front
later n front = record { count = n + front.count; step = front.step }

-- so many characters were taken: all of the front that tells, or some that tell nothing
pub record IsPart (from : Place) (chars : List Char) (count : ℕ) (outcome : Told) (to : Framing) :
    Type 0 where
  pub some : 0 < count
  pub within : count ≤ length chars
  pub quiet : outcome ≡ told.Nothing
      → (to ≡ framing_at to.place)
      × (telling_front from chars ≡ later count (telling_front to.place (drop count chars)))
  pub tells : (outcome ≡ told.Nothing → ⊥) → (count ≡ (telling_front from chars).count)
      × (outcome ≡ told_of_events (telling_front from chars).step.gives)
      × (to ≡ framing_after (telling_front from chars).step)

-- so many bytes fit into the packet in progress, and no symbol is in progress
abbrev pub TakesBytes : Text → Pending → ℕ → Type 0
TakesBytes (Within bytes) Nothing n = length bytes + n ≤ 276
TakesBytes (Within bytes) (Opened d) n = ⊥
TakesBytes (Within bytes) (One d x) n = ⊥
TakesBytes (Within bytes) (Two d x y) n = ⊥
TakesBytes Plain pending n = ⊥
TakesBytes Skipped pending n = ⊥

-- the text with bytes more of the packet in progress
abbrev pub with_bytes : Text → List ℕ → Text
with_bytes Plain more = Plain
with_bytes Skipped more = Skipped
with_bytes (Within bytes) more = Within (bytes ++ more)

-- so many data characters come first
pub record StartsWithData (n : ℕ) (chars : List Char) : Type 0 where
  pub bytes : List ℕ
  pub many : length bytes ≡ n
  pub is : chars ≡ data_chars bytes ++ drop n chars

-- a delimiter and three data characters with these bytes come first
pub record StartsWithSymbol (d : Delimiter) (x y z : ℕ) (chars : List Char) : Type 0 where
  pub first : Char
  pub opens : kind first ≡ Opens d
  pub is : chars ≡ first ∷ Data x ∷ Data y ∷ Data z ∷ drop 4 chars
