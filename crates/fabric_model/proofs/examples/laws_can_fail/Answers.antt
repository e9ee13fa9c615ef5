use Rattle.fabric_model.proofs.Worked.{kept_too_breaks, left_twice_breaks, left_both_breaks, left_as_other_breaks, freed_too_early_breaks, overtaking_legal, overtaking_breaks}
use Rattle.fabric_model.proofs.Around.{elsewhere_breaks, elsewhere_overtakes, dropped_breaks}
use Rattle.fabric_model.proofs.examples.laws_can_fail.Goals as goal

pub returns : goal.returns
returns c = record {
  holding_exactly = kept_too_breaks;
  once = left_twice_breaks;
  never_twice = left_both_breaks;
  unchanged = left_as_other_breaks;
  freed_after_held = freed_too_early_breaks;
  fork_is_legal = overtaking_legal;
  in_order = overtaking_breaks;
  moved = elsewhere_breaks;
  overtakes = elsewhere_overtakes;
  dropped = dropped_breaks;
}
