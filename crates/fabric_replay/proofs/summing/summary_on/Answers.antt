use Rattle.std.proofs.Common.{Err, ap, rules}
use Rattle.fabric_replay.proofs.SummingLaws.{fits, summed, summed_undetected, no_fault, replay_undetected}
use Rattle.fabric_replay.proofs.summing.summary_on.Goals as goal

pub counts_of-requires : goal.counts_of-requires
counts_of-requires c =
    let names = c.args.script.now.names.items in
    let script = c.args.script.now.lines.items in
    fits names script c.requires.passes c.new-2.ensures c.in-Ok.ensures.done

pub returns-in-Ok-clause-done : goal.returns-in-Ok-clause-done
returns-in-Ok-clause-done c =
    let names = c.args.script.now.names.items in
    let script = c.args.script.now.lines.items in
    summed names script c.requires.passes c.new-2.ensures c.counts_of.result c.in-Ok.ensures.done
    c.counts_of.ensures

pub end_of-requires : goal.end_of-requires
end_of-requires c = λ is. no_fault (c.in-Err.ensures.write_fault (ap Err is)) (search rules)

pub returns-clause-undetected : goal.returns-clause-undetected
returns-clause-undetected c = λ line port event is.
    let undetected = replay_undetected c.in-Err.end c.end_of.result line port event c.end_of.ensures
    is in
    summed_undetected c.args.script.now.names.items c.args.script.now.lines.items
    c.requires.passes line port event
    (c.in-Err.ensures.undetected line port event (ap Err undetected))
