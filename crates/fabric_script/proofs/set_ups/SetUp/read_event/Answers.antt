use Rattle.std.proofs.Common.{Ok, Err, ap, subst, rules}
use Rattle.fabric_script.specs.declared.set_ups.EventEnd.TheVariants.{Refused}
use Rattle.fabric_script.specs.Known.{IsOrderly}
use Rattle.fabric_script.specs.SetUps.{SetUpLines}
use Rattle.fabric_script.proofs.SetUpLaws.{only_event, only_event_refusal}
use Rattle.fabric_script.proofs.set_ups.SetUp.read_event.Goals as goal

pub returns-in-Ok-clause-only : goal.returns-in-Ok-clause-only
returns-in-Ok-clause-only c =
    let orderly = subst IsOrderly (ap (λ (s : SetUpLines). s.known) c.self.view_is)
    c.self.invariant.orderly in
    only_event c.args.self.now.known c.args.line.now (Ok c.in-Ok.event) orderly (search rules)
    (search rules)

pub returns-in-Ok-clause-refusal_only : goal.returns-in-Ok-clause-refusal_only
returns-in-Ok-clause-refusal_only c =
    let orderly = subst IsOrderly (ap (λ (s : SetUpLines). s.known) c.self.view_is)
    c.self.invariant.orderly in
    only_event_refusal c.args.self.now.known c.args.line.now (Ok c.in-Ok.event) orderly
    (search rules) (search rules)

pub returns-in-Err-clause-only : goal.returns-in-Err-clause-only
returns-in-Err-clause-only c =
    let orderly = subst IsOrderly (ap (λ (s : SetUpLines). s.known) c.self.view_is)
    c.self.invariant.orderly in
    only_event c.args.self.now.known c.args.line.now (Err (Refused c.number.result)) orderly
    (search rules) (search rules)
