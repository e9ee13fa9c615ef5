-- What the lines of set-up make of a network.
use Rattle.std.specs.Prelude.{ℕ, Bool, false, ◌||◌, List, [], ◌∷◌, ◌++◌, if◌then◌else◌}
use Rattle.maint_registers.specs.Devices.{Registers, new_endpoint, new_switch}
pub use Rattle.maint_registers.specs.Changes.{linked_at, routed, defaulted, held_by, large_set}
use Rattle.fabric_script.specs.declared.ports.PortRef.{PortRef}
use Rattle.fabric_script.specs.declared.lines.Line.{Line}
use Rattle.fabric_script.specs.declared.lines.Line.TheVariants.{Endpoint, Switch, Link, Buffers, Route, Default, Lock, Large, Credits}
use Rattle.fabric_script.specs.declared.lines.Numbered.{Numbered}
use Rattle.fabric_model.specs.Network.{Network, same_port, with_device}

-- so many receive buffers at a port
abbrev pub with_buffers : (PortRef → ℕ) → PortRef → ℕ → PortRef → ℕ
with_buffers buffers p n q = if same_port q p then n else buffers q

-- a port tells how many of its receive buffers are free
abbrev pub with_tells : (PortRef → Bool) → PortRef → PortRef → Bool
with_tells tells p q = same_port q p || tells q

-- one more device
abbrev pub with_node : Network → Registers → Network
with_node net device = record net { registers = net.registers ++ device ∷ [] }

-- the registers of one node are changed
abbrev pub with_change : Network → ℕ → (Registers → Registers) → Network
with_change net node change = record net { registers = with_device net.registers node change }

-- the device of a port knows that the port has a link
abbrev pub with_end : Network → PortRef → Network
with_end net p = with_change net p.node (linked_at p.port)

-- The network with one more line. An event sets nothing up.
abbrev pub set_up : Network → Line → Network
set_up net (Endpoint name id) = with_node net (new_endpoint id false)
set_up net (Switch name ports) = with_node net (new_switch ports 0)
set_up net (Link a b) = record (with_end (with_end net a) b) { links = net.links ++ (a, b) ∷ [] }
set_up net (Buffers port n) = record net { buffers = with_buffers net.buffers port n }
set_up net (Route node id p) = with_change net node (routed id p)
set_up net (Default node p) = with_change net node (defaulted p)
set_up net (Lock node id) = with_change net node (held_by id)
set_up net (Large node id) = with_change net node (large_set id)
set_up net (Credits port) = record net { tells = with_tells net.tells port }
set_up net _ = net

abbrev pub set_up_all : Network → List Numbered → Network
set_up_all net [] = net
set_up_all net (line ∷ lines) = set_up_all (set_up net line.line) lines
