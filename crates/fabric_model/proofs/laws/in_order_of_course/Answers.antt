use Rattle.fabric_model.proofs.Flows.{in_order_of_course}
use Rattle.fabric_model.proofs.laws.in_order_of_course.Goals as goal

pub returns : goal.returns
returns c = in_order_of_course
