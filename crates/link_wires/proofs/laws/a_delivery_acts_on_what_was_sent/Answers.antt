use Rattle.link_wires.proofs.Exact.{delivered_exact}
use Rattle.link_wires.proofs.laws.a_delivery_acts_on_what_was_sent.Goals as goal

pub returns : goal.returns
returns c = delivered_exact
