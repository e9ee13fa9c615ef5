use Rattle.std.proofs.Common.{◌++◌, [], codes, rules}
use Rattle.rio_chars.proofs.WrittenLaws.{Writes-then}
use Rattle.host_enumerate.specs.MapTexts.{map_text}
use Rattle.rio_cli.specs.declared.status.Status.TheVariants.{Done}
use Rattle.rio_cli.proofs.NumberingLaws.{answered_by}
use Rattle.rio_cli.proofs.numbering.tell_map.Goals as goal

pub returns-clause-answers : goal.returns-clause-answers
returns-clause-answers g c =
    let map = c.args.map.now in
    let text = map_text map.devices.items map.entries.items in
    answered_by c.flush.new.self c.status_of-status.result Done (text ++ codes "end\n")
    c.new-outbox.ensures
    (Writes-then (text ++ codes "end\n") []
    (Writes-then text (codes "end\n") c.write_map.ensures c.write.ensures)
    c.flush.ensures.written)
    c.flush.ensures.empty c.status_of-status.ensures.fine c.status_of-status.ensures.failed
    (search rules) (search rules)
