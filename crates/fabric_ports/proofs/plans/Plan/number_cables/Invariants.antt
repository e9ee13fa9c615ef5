use Rattle.fabric_ports.proofs.NumberLaws.{LeadFirst}
use Rattle.fabric_ports.proofs.plans.Plan.number_cables.Given as goal

abbrev pub invariant-loop-number : goal.invariant-loop-number
invariant-loop-number l = LeadFirst l.self l.numbers.items l.number
