-- How a host asks the device on a path: its request goes down the path by the entries of 255, and
-- the answer comes home by the entries of the host's ID.
use Rattle.std.specs.Prelude.{◌≡◌, ◌≢◌, ℕ, ◌≤◌, List, ◌∷◌, ◌++◌, length, Some}
use Rattle.fabric_script.specs.declared.ports.PortRef.{PortRef}
use Rattle.fabric_script.specs.Ports.{port_at}
use Rattle.maint_registers.specs.Routes.{next_port}
use Rattle.fabric_map.specs.Topology.{Topology, IsTopology, entered}
use Rattle.fabric_map.specs.Routes.{AllRegisters, walk}

-- Each switch that a path passes sends packets for 255 by the next port of the path, and packets
-- for the host's ID by the port by which the path enters it. The path does not come back to the
-- host.
pub record IsOpened (topology : Topology) (registers : AllRegisters) (host_id : ℕ)
    (path : List ℕ) : Type 0 where
  pub onwards : (first : ℕ) (front rest : List ℕ) (port : ℕ) (at : PortRef)
      → path ≡ first ∷ front ++ port ∷ rest → entered topology (first ∷ front) ≡ Some at
      → next_port (registers at.node) 255 ≡ Some port
  pub home : (first : ℕ) (front rest : List ℕ) (port : ℕ) (at : PortRef)
      → path ≡ first ∷ front ++ port ∷ rest → entered topology (first ∷ front) ≡ Some at
      → next_port (registers at.node) host_id ≡ Some at.port
  pub not_host : (first : ℕ) (front rest : List ℕ) (port : ℕ) (at : PortRef)
      → path ≡ first ∷ front ++ port ∷ rest → entered topology (first ∷ front) ≡ Some at
      → at.node ≢ topology.host

-- A request for 255, with as many hops as switches are passed, ends at the device on the path.
abbrev pub RequestEnds : Type 0
RequestEnds = (topology : Topology) (registers : AllRegisters) (host_id first : ℕ) (rest : List ℕ)
    (at : PortRef)
    → IsTopology topology → IsOpened topology registers host_id (first ∷ rest)
    → entered topology (first ∷ rest) ≡ Some at
    → walk topology registers 255 (length rest) (port_at topology.host 0) ≡ Some at

-- Its answer, with at least as many hops, ends at the host.
abbrev pub AnswerReturns : Type 0
AnswerReturns = (topology : Topology) (registers : AllRegisters) (host_id first : ℕ) (rest : List ℕ)
    (at : PortRef) (hops : ℕ)
    → IsTopology topology → IsOpened topology registers host_id (first ∷ rest)
    → entered topology (first ∷ rest) ≡ Some at → length rest ≤ hops
    → walk topology registers host_id hops at ≡ Some (port_at topology.host 0)
