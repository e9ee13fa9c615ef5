use Rattle.fabric_model.proofs.Around.{circle_legal, circle_stands}
use Rattle.fabric_model.proofs.examples.circles_are_legal.Goals as goal

pub returns : goal.returns
returns c = record { legal = circle_legal; stand = circle_stands }
