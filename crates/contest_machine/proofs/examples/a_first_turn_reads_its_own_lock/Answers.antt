use Rattle.std.proofs.Common.{refl}
use Rattle.contest_machine.proofs.examples.a_first_turn_reads_its_own_lock.Goals as goal

pub returns-clause-free : goal.returns-clause-free
returns-clause-free c = refl

pub returns-clause-twice : goal.returns-clause-twice
returns-clause-twice c = refl

pub returns-clause-lesser : goal.returns-clause-lesser
returns-clause-lesser c = refl

pub returns-clause-once : goal.returns-clause-once
returns-clause-once c = refl

pub returns-clause-greater : goal.returns-clause-greater
returns-clause-greater c = refl

pub returns-clause-also : goal.returns-clause-also
returns-clause-also c = refl

pub returns-clause-other : goal.returns-clause-other
returns-clause-other c = refl
