-- What lines of a trace reach, as the lines themselves say it.
use Rattle.std.specs.Prelude.{◌≡◌, ℕ, ◌%◌, List, [], length, Some}
use Rattle.link_model.specs.declared.event.Event.{Event}
use Rattle.link_model.specs.Places.{place_after, place_start}
use Rattle.fabric_script.specs.declared.ports.PortRef.{PortRef}
use Rattle.fabric_model.specs.Network.{Network}
use Rattle.fabric_trace.specs.Allowance.{allowance}
use Rattle.fabric_trace.specs.Holds.{got, holds}
use Rattle.trace_lines.specs.Lines.{TraceLine}
use Rattle.trace_check.specs.Checks.{freed, net_after, unheld}
use Rattle.trace_check.specs.Running.{packets_come, PortRun}
use Rattle.trace_check.specs.States.{ReachedState}
use Rattle.trace_check.specs.Wires.{wires_after}

-- A port after these lines: where the reading of what it got stands; the ackID of the next to be
-- held; how many it freed, and may free; and the packets that came behind the last one held.
pub record IsPortRun (p : PortRef) (before : List TraceLine) (run : PortRun) : Type 0 where
  pub place : run.place ≡ place_after place_start (got p before)
  pub next : run.next ≡ length (holds p before) % 32
  pub freed_is : run.freed ≡ freed p before
  pub allowed : run.allowed ≡ allowance (got p before)
  pub left : List Event
  pub found : unheld p before ≡ Some left
  pub packets : run.unheld ≡ packets_come left

-- So much is reached behind these lines, with others behind them.
pub record Reaches (nodes : ℕ) (net : Network) (before behind : List TraceLine) (r : ReachedState) :
    Type 0 where
  pub nodes_are : r.nodes ≡ nodes
  pub net_is : r.net ≡ net_after net before
  pub links_are : r.net.links ≡ net.links
  pub wires_are : r.wires ≡ wires_after net.links (λ p. []) before behind
  pub runs_are : (p : PortRef) → IsPortRun p before (r.runs p)
