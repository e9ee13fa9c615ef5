-- What is kept of each port, in the order of their places.
use Rattle.std.specs.Prelude.{◌≡◌, ℕ, ◌+◌, ◌*◌, ◌<◌, List, length, Some, slice_get}
use Rattle.fabric_script.specs.declared.ports.PortRef.{PortRef}

-- a port of one of so many nodes
pub record IsIn (nodes : ℕ) (p : PortRef) : Type 0 where
  pub node : p.node < nodes
  pub port : p.port < 16

-- the place of a port: each node has 16
abbrev pub table_place : PortRef → ℕ
table_place p = 16 * p.node + p.port

-- the list has what it is to have of each port, at its place
pub record IsTable {A : Type 0} (nodes : ℕ) (Has : PortRef → A → Type 0) (list : List A) : Type 0
  where
    pub size : length list ≡ 16 * nodes
    pub at : (p : PortRef) (x : A) → IsIn nodes p → slice_get list (table_place p) ≡ Some x
        → Has p x
