use Rattle.link_machine.proofs.Settling.Calming.{new_calm, quiet_calm, layer_calm, acts_still_calm}
use Rattle.link_machine.proofs.rest_laws.nothing_undetected_without_an_edit.Goals as goal

pub returns : goal.returns
returns c = record {
  begins = new_calm;
  quiet = quiet_calm;
  layer = layer_calm;
  acts = acts_still_calm;
}
