use Rattle.std.proofs.Common.{[], ◌-◌, ◌^◌, refl}
use Rattle.live_lines.proofs.ServingLaws.{served_none}
use Rattle.rio_lane.specs.LaneAnswers.{lane_says}
use Rattle.rio_lane.specs.Tasks.{new_ends}
use Rattle.rio_lane.proofs.serving.serve.Goals as goal

pub returns-in_default : goal.returns-in_default
returns-in_default g c = record {
  lines = [];
  answer = lane_says (new_ends c.args.commas) [];
  answers = refl;
  serves = served_none (2 ^ 32 - 1) _ _ _ _;
}

pub returns-in_default-new : goal.returns-in_default-new
returns-in_default-new g c = record {
  lines = [];
  answer = lane_says (new_ends c.args.commas) [];
  answers = refl;
  serves = served_none (2 ^ 32 - 1) _ _ _ _;
}

pub returns-in_default-new-2 : goal.returns-in_default-new-2
returns-in_default-new-2 g c = record {
  lines = [];
  answer = lane_says (new_ends c.args.commas) [];
  answers = refl;
  serves = served_none (2 ^ 32 - 1) _ _ _ _;
}
