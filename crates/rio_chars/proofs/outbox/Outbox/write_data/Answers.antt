use Rattle.std.proofs.Common.{[]}
use Rattle.rio_chars.proofs.WrittenLaws.{Writes-then}
use Rattle.rio_chars.proofs.outbox.Outbox.write_data.Goals as goal

pub returns-clause-text : goal.returns-clause-text
returns-clause-text g c =
    Writes-then [] _ c.make_room.ensures.written c.append_data.ensures.text
