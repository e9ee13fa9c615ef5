-- One of two hosts that are linked to each other walks alone.
use Rattle.contest_machine.proofs.Prelude.{ℕ, zero, suc, ◌≡◌, ◌<◌, arith, refl}
use Rattle.contest_machine.specs.AloneWalks.{BeginsAlone}
use Rattle.contest_machine.specs.Examples.{host_five_alone}
use Rattle.contest_machine.proofs.Turns.Pair.{pair_proper, pair_shown}

untagged : (node : ℕ) → node < 2 → ((host_five_alone 0xffff).registers node).tag ≡ 0
untagged zero inside = refl
untagged (suc zero) inside = refl
untagged (suc (suc node)) inside = absurd (omega (arith, inside))

pub five_begins : BeginsAlone (host_five_alone 0xffff)
five_begins = record {
  new = record { devices = refl; tried = refl; todo = refl; path = refl; stage = refl };
  begun = refl;
  next = refl;
  id = refl;
  small = omega arith;
  proper = pair_proper 0 (omega arith);
  shown = pair_shown 0 (omega arith);
  untagged = untagged;
}
