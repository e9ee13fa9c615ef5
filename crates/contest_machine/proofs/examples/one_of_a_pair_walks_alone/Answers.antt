use Rattle.std.proofs.Common.{refl, arith, []}
use Rattle.fabric_map.proofs.Lists.{Contains-first}
use Rattle.contest_machine.proofs.Walking.PairAlone.{five_begins}
use Rattle.contest_machine.proofs.examples.one_of_a_pair_walks_alone.Goals as goal

pub returns-clause-begins : goal.returns-clause-begins
returns-clause-begins c = five_begins

pub returns-clause-done : goal.returns-clause-done
returns-clause-done c = (refl, refl)

pub returns-clause-not_before : goal.returns-clause-not_before
returns-clause-not_before c done = let none = done.1 in absurd (cc)

pub returns-clause-map : goal.returns-clause-map
returns-clause-map c = refl

pub returns-clause-meets : goal.returns-clause-meets
returns-clause-meets c =
    (Contains-first 9 [], ((λ free. omega (arith, free)), (λ own. omega (arith, own))))

pub returns-clause-free : goal.returns-clause-free
returns-clause-free c meets = meets.1.0 refl
