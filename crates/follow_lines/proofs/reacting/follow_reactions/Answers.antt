use Rattle.follow_lines.proofs.ReactingLaws.{judges_told}
use Rattle.follow_lines.proofs.reacting.follow_reactions.Goals as goal

pub returns-clause-judges : goal.returns-clause-judges
returns-clause-judges g c =
    let told = c.tell_answered.ensures in
    judges_told c.judge_input-verdict.result c.tell_answered.result
    (g.S.Source.left c.args.source.now) (g.S.Source.left c.judge_input-verdict.new.source)
    (g.S.Source.faults c.args.source.now) (g.S.Source.faults c.judge_input-verdict.new.source)
    c.args.outbox.now c.tell_answered.new.outbox told.0 c.requires.fine c.requires.empty
    c.judge_input-verdict.ensures told.1 told.2 told.3

pub returns-clause-same : goal.returns-clause-same
returns-clause-same g c = c.tell_answered.ensures.2.same
