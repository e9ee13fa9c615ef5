use Rattle.std.proofs.Common.{[], sym, refl, ◌∙◌, append-nil}
use Rattle.rio_chars.proofs.WrittenLaws.{Writes-wrote}
use Rattle.rio_chars.proofs.outbox.Outbox.flush.Goals as goal

pub returns-clause-written : goal.returns-clause-written
returns-clause-written g c =
    rw (← c.self.view_is)
    (Writes-wrote _ _ [] c.as_slice.result.now refl c.clear.ensures
    (append-nil c.self.inside.buffer.now ∙ sym c.as_slice.ensures)
    c.write_unless-self-inside.ensures)
