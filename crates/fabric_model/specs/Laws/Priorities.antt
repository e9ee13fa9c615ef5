-- Each list of a network is of one priority.
use Rattle.std.specs.Prelude.{◌≡◌, ℕ}
use Rattle.std.specs.List.{AllByRecursion}
use Rattle.rio_packets.specs.Fields.{prio_of}
use Rattle.fabric_script.specs.declared.ports.PortRef.{PortRef}
use Rattle.fabric_model.specs.Network.{Network}

-- The lists of a priority hold packets of that priority alone, so that a step finds its packet by
-- the packet's own.
pub record ByPriority (net : Network) : Type 0 where
  pub received : (p : PortRef) (r : ℕ)
      → AllByRecursion (λ item. prio_of item.now ≡ r) (net.received p r)
  pub waiting : (p : PortRef) (r : ℕ)
      → AllByRecursion (λ item. prio_of item.now ≡ r) (net.waiting p r)
