use Rattle.link_wires.specs.Deliveries.{Through, WentUndetected, delivered}
use Rattle.link_wires.proofs.DeliveryLaws.{flows-append}
use Rattle.link_wires.proofs.ActedLaws.{delivered_found, found_at}
use Rattle.link_wires.proofs.laws.deliveries_go_by_pieces.Goals as goal

pub returns : goal.returns
returns c = record {
  pieces = flows-append;
  kept =
      λ port kept chars flow is. found_at kept (delivered port kept chars) (Through flow) is
      (delivered_found port kept chars);
  undetected =
      λ port kept chars told e is. found_at kept (delivered port kept chars)
      (WentUndetected told e) is
      (delivered_found port kept chars);
}
