-- A table of the ports that have a link.
use Rattle.std.specs.Prelude.{◌≡◌, ◌+◌, ◌*◌, ◌<◌, ◌≤◌, Bool, false, List, length, slice_index_or}
use Rattle.fabric_script.specs.declared.ports.PortRef.{PortRef}
use Rattle.fabric_script.specs.Known.{is_linked}

-- The table says of each of 16 ports of 64 nodes whether it has one of these links. No other port
-- has one.
pub record AreMarked (links : List (PortRef × PortRef)) (linked : List Bool) : Type 0 where
  pub all : length linked ≡ 1024
  pub marked : (p : PortRef) → p.node < 64 → p.port < 16
      → slice_index_or linked (16 * p.node + p.port) false ≡ is_linked links p
  pub no_node : (p : PortRef) → 64 ≤ p.node → is_linked links p ≡ false
  pub no_port : (p : PortRef) → 16 ≤ p.port → is_linked links p ≡ false
