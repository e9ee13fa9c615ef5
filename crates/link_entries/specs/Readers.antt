-- Where a reader stands, without the bytes of a packet in progress.
use Rattle.std.specs.Prelude.{◌≡◌}
use Rattle.link_model.specs.Prelude.{Place}
use Rattle.link_model.specs.Reading.{Text}
use Rattle.link_entries.specs.declared.reading.TextKind.{TextKind}
use Rattle.link_entries.specs.declared.reading.TextKind.TheVariants as text
use Rattle.link_entries.specs.declared.reading.Reader.{Reader}

-- what a text is
abbrev pub text_kind : Text → TextKind
text_kind Text.Plain = text.Plain
text_kind Text.Skipped = text.Skipped
text_kind (Text.Within bytes) = text.Within

-- a reader stands at a place
pub record IsAt (reader : Reader) (at : Place) : Type 0 where
  pub text : reader.text ≡ text_kind at.text
  pub pending : reader.pending ≡ at.pending
