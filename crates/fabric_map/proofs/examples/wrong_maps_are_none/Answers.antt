use Rattle.fabric_map.proofs.Worked.{numbered_twice_is_none, from_highest_is_none, left_out_is_none, skipped_is_none}
use Rattle.fabric_map.proofs.examples.wrong_maps_are_none.Goals as goal

pub returns : goal.returns
returns c = record {
  numbered_twice = numbered_twice_is_none;
  from_highest = from_highest_is_none;
  left_out = left_out_is_none;
  skipped = skipped_is_none;
}
