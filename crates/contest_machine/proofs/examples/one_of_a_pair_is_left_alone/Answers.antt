use Rattle.std.proofs.Common.{◌≡◌, refl, arith}
use Rattle.contest_machine.proofs.Turns.Pair.{pair_begun, left_alone}
use Rattle.contest_machine.proofs.examples.one_of_a_pair_is_left_alone.Goals as goal

pub returns-clause-begun : goal.returns-clause-begun
returns-clause-begun c = pair_begun

pub returns-clause-turns : goal.returns-clause-turns
returns-clause-turns c = refl

pub returns-clause-alone : goal.returns-clause-alone
returns-clause-alone c = left_alone

pub returns-clause-not_yet : goal.returns-clause-not_yet
returns-clause-not_yet c alone = let lost = alone.lost in absurd (cc)

pub returns-clause-locked : goal.returns-clause-locked
returns-clause-locked c free = let none : 3 ≡ 0xffff = free 0 in omega (arith, none)
