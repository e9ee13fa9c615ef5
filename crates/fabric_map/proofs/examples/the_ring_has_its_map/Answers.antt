use Rattle.fabric_map.proofs.Ring.{ring_has_its_map}
use Rattle.fabric_map.proofs.examples.the_ring_has_its_map.Goals as goal

pub returns : goal.returns
returns c = ring_has_its_map
