-- The front of a list of characters up to and with the first character that tells an event.
use Rattle.std.specs.Prelude.{ℕ, suc, List, [], ◌∷◌}
use Rattle.rio_chars.specs.declared.chars.Char.{Char}
use Rattle.link_model.specs.declared.event.Event.{Event}
use Rattle.link_model.specs.Places.{Place, ReaderStep, step}

-- so many characters, and where the last of them leaves the reader and what it gives
pub record Front : Type 0 where
  pub count : ℕ
  pub step : ReaderStep

-- no character
abbrev pub no_front : Place → Front
no_front from = record { count = 0; step = record { place = from; gives = [] } }

-- one character, by what it gives: where it gives nothing, a front of the characters behind it
-- follows
abbrev pub front_by : List Event → ReaderStep → Front → Front
front_by [] first behind = record { count = suc behind.count; step = behind.step }
front_by (e ∷ es) first behind = record { count = 1; step = first }

-- the characters up to and with the first that tells an event, or all where none does
unfoldable pub telling_front : Place → List Char → Front
telling_front from [] = no_front from
telling_front from (c ∷ cs) =
    front_by (step from c).gives (step from c) (telling_front (step from c).place cs)
