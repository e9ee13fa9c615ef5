use Rattle.std.proofs.Common.{◌≡◌, ◌≤◌, ◌+◌, ◌*◌, ◌%◌, ◌++◌, length}
use Rattle.fabric_script.specs.Soak.{soak_names, soak_set_up, last_rounds, numbered_from}
use Rattle.fabric_script.proofs.SoakLaws.{steps_behind}
use Rattle.fabric_script.proofs.soak.soak_script.Given as goal

abbrev pub invariant-loop : goal.invariant-loop
invariant-loop l = record {
  names : l.names.items ≡ soak_names;
  numbered : l.lines.items ≡ numbered_from 1
      ((soak_set_up ++ steps_behind 1 2000 (l.seed % 2147483648)) ++ last_rounds l.counter);
  count : length l.lines.items ≤ 50000 + 33 * l.counter;
}
