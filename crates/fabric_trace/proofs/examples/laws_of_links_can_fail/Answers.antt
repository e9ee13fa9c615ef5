use Rattle.fabric_trace.proofs.Worked.WorkedRuns.{acted_breaks, undetected_breaks, moving_breaks, round_breaks, settle_at_rest, round_at_rest, rest_breaks, rest_before_breaks, found_breaks, named_breaks, named_other_breaks, second_breaks, failed_breaks, failed_within_breaks}
use Rattle.fabric_trace.proofs.examples.laws_of_links_can_fail.Goals as goal

pub returns : goal.returns
returns c = record {
  acted = acted_breaks;
  undetected = undetected_breaks;
  moving = moving_breaks;
  round = round_breaks;
  settle = settle_at_rest;
  rounds = round_at_rest;
  resting = rest_breaks;
  resting_before = rest_before_breaks;
  found_before = found_breaks;
  named = named_breaks;
  named_other = named_other_breaks;
  second = second_breaks;
  failed = failed_breaks;
  failed_within = failed_within_breaks;
}
