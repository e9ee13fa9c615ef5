use Rattle.std.proofs.Common.{[]}
use Rattle.rio_chars.proofs.WrittenLaws.{Writes-then, Writes-kept}
use Rattle.rio_chars.proofs.outbox.Outbox.write_long.Goals as goal

pub returns-then-bytes-le-ROOM : goal.returns-then-bytes-le-ROOM
returns-then-bytes-le-ROOM g c =
    let bytes = c.args.bytes.now in
    Writes-then [] bytes c.flush.ensures.written
    (rw (← c.self.view_is) (Writes-kept _ _ bytes c.append.ensures))
