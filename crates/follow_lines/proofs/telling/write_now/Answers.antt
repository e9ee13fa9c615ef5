use Rattle.std.proofs.Common.{[], ℕ, List, subst, append-nil}
use Rattle.rio_chars.specs.Written.{Writes}
use Rattle.rio_chars.proofs.WrittenLaws.{Writes-then}
use Rattle.follow_lines.proofs.telling.write_now.Goals as goal

pub returns-clause-told : goal.returns-clause-told
returns-clause-told g c =
    let Told : List ℕ → Type 0 = λ text. Writes c.args.outbox.now c.flush.new.self text in
    subst Told (append-nil c.args.bytes.now)
    (Writes-then c.args.bytes.now [] c.write.ensures c.flush.ensures.written)
