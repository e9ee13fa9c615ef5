use Rattle.fabric_map.proofs.Numberings.{ring_tag, ring_lock, ring_id, ring_table, ring_entries_stay, ring_links, ring_routed, led_elsewhere, ring_outside}
use Rattle.fabric_map.proofs.examples.the_ring_has_its_registers.Goals as goal

pub returns : goal.returns
returns c = record {
  tag = ring_tag;
  lock = ring_lock;
  id = ring_id;
  table = ring_table;
  entries = ring_entries_stay;
  links = ring_links;
  routed = ring_routed;
  elsewhere = led_elsewhere;
  outside = ring_outside;
}
