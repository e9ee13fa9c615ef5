use Rattle.std.proofs.Common.{[], rules}
use Rattle.rio_chars.proofs.WrittenLaws.{Writes-then}
use Rattle.fabric_contest.specs.Contests.{both_of}
use Rattle.fabric_contest.specs.ContestTexts.{contest_text}
use Rattle.fabric_contest.proofs.Telling.{told_by}
use Rattle.fabric_contest.proofs.lines.tell_contest.Goals as goal

pub returns : goal.returns
returns g c =
    let text =
    contest_text c.args.names.now c.args.first c.args.second (both_of c.args.contest.now) in
    told_by c.flush.new.self text c.new-outbox.ensures
    (Writes-then text []
    (Writes-then _ _
    (Writes-then _ _
    (Writes-then _ _
    (Writes-then _ _ c.tell_host.ensures c.tell_host-2.ensures)
    c.tell_map.ensures)
    c.tell_map-2.ensures)
    c.write.ensures)
    c.flush.ensures.written)
    c.flush.ensures.empty c.failed-failed.ensures (search rules) (search rules)
