use Rattle.std.proofs.Common.{refl}
use Rattle.link_sound.proofs.Steps.{begins, exchanged}
use Rattle.link_sound.proofs.laws.links_begin_sound.Goals as goal

pub returns-clause-new : goal.returns-clause-new
returns-clause-new c tells_a tells_b m n = record {
  a_to_b = begins _ _ _ refl refl;
  b_to_a = begins _ _ _ refl refl;
}

pub returns-clause-exchanged : goal.returns-clause-exchanged
returns-clause-exchanged c = exchanged
