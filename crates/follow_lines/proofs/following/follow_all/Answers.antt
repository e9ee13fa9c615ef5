use Rattle.std.proofs.Common.{◌∙◌}
use Rattle.follow_lines.specs.Following.{expected_by}
use Rattle.follow_lines.proofs.TellingLaws.{follows_told}
use Rattle.follow_lines.proofs.following.follow_all.Goals as goal

pub returns-clause-follows : goal.returns-clause-follows
returns-clause-follows g c =
    let told = c.tell_verdict.ensures in
    follows_told c.args.tell c.follow_input-verdict.result c.tell_verdict.result
    (expected_by c.follow_input-verdict.new.journal.checker)
    (g.S.Source.left c.args.source.now) (g.S.Source.left c.follow_input-verdict.new.source)
    (g.S.Source.faults c.args.source.now) (g.S.Source.faults c.follow_input-verdict.new.source)
    c.args.outbox.now c.follow_input-verdict.new.outbox c.tell_verdict.new.outbox told.0
    c.requires.fine c.requires.empty c.follow_input-verdict.ensures.follows told.1 told.2 told.3

pub returns-clause-same : goal.returns-clause-same
returns-clause-same g c =
    c.tell_verdict.ensures.2.same ∙ c.follow_input-verdict.ensures.same
