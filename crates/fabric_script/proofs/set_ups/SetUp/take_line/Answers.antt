use Rattle.std.proofs.Common.{subst, rules}
use Rattle.fabric_script.specs.Known.{IsOrderly}
use Rattle.fabric_script.specs.Reading.{LeastHit}
use Rattle.fabric_script.specs.Scripts.{KeepsLine}
use Rattle.fabric_script.specs.SetUps.{SetUpLines, for_set_up}
use Rattle.fabric_script.proofs.ReadLaws.{spelled_no_hit}
use Rattle.fabric_script.proofs.SetUpLaws.{orderly_in}
use Rattle.fabric_script.proofs.set_ups.SetUp.take_line.Goals as goal

pub returns-in-Err-clause-only : goal.returns-in-Err-clause-only
returns-in-Err-clause-only c = λ event spells.
    let known = for_set_up c.args.self.now.known in
    let ready = subst (λ (s : SetUpLines). IsOrderly s.known) c.self.view_is
    c.self.invariant.orderly in
    let least : LeastHit known c.args.line.now c.in-Err.reason = search rules in
    absurd (spelled_no_hit known c.args.line.now event c.in-Err.reason (orderly_in ready) spells
    least.hits)

pub returns-clause-refusal_only : goal.returns-clause-refusal_only
returns-clause-refusal_only c = λ reason refused.
    let known = for_set_up c.args.self.now.known in
    let ready = subst (λ (s : SetUpLines). IsOrderly s.known) c.self.view_is
    c.self.invariant.orderly in
    let keeps : KeepsLine known c.args.self.now.lines c.args.number c.args.line.now
    c.keep_line-kept.new.known c.keep_line-kept.new.lines.items = search rules in
    absurd (spelled_no_hit known c.args.line.now keeps.line refused.reason (orderly_in ready)
    keeps.spells refused.least.hits)
