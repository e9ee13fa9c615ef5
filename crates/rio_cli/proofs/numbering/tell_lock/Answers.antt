use Rattle.std.proofs.Common.{[], rules}
use Rattle.rio_chars.proofs.WrittenLaws.{Writes-then}
use Rattle.host_enumerate.specs.MapTexts.{locked_text}
use Rattle.rio_cli.specs.declared.status.Status.TheVariants.{Locked}
use Rattle.rio_cli.proofs.NumberingLaws.{answered_by}
use Rattle.rio_cli.proofs.numbering.tell_lock.Goals as goal

pub returns-clause-answers : goal.returns-clause-answers
returns-clause-answers g c =
    let text = locked_text c.args.path.now c.args.id in
    answered_by c.flush.new.self c.status_of-status.result Locked text c.new-outbox.ensures
    (Writes-then text [] c.write_locked.ensures c.flush.ensures.written) c.flush.ensures.empty
    c.status_of-status.ensures.fine c.status_of-status.ensures.failed (search rules) (search rules)
