use Rattle.fabric_model.proofs.Around.{sizes_legal, sizes_gone, sizes_course, sizes_flow}
use Rattle.fabric_model.proofs.examples.sizes_part_flows.Goals as goal

pub returns : goal.returns
returns c = record {
  legal = sizes_legal;
  left = sizes_gone;
  course = sizes_course;
  flow = sizes_flow;
}
