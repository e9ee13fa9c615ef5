-- A port, by its node and its number.
use Rattle.std.specs.Prelude.{ℕ}
use Rattle.fabric_script.specs.declared.ports.PortRef.{PortRef}

abbrev pub port_at : ℕ → ℕ → PortRef
port_at node port = record { node = node; port = port }
