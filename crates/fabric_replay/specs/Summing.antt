-- What the counts of a summary say of the one trace of a script.
use Rattle.std.specs.Prelude.{◌≡◌, ℕ, ◌+◌, List, Some, None}
use Rattle.link_model.specs.declared.event.Event.{Event}
use Rattle.fabric_script.specs.declared.ports.PortRef.{PortRef}
use Rattle.fabric_script.specs.declared.lines.Numbered.{Numbered}
use Rattle.fabric_model.specs.Laws.Nodes.{StandAtNodes, all_ports}
use Rattle.fabric_model.specs.Laws.Stock.{stock, takes_by, leaves_by, drops_by, steps_in}
use Rattle.fabric_model.specs.Network.{Network}
use Rattle.fabric_trace.specs.Fold.{seen}
use Rattle.trace_lines.specs.Lines.{TraceLine, Ended, Undetected, steps_of}
use Rattle.fabric_trace.specs.Runs.{start, Runs}
use Rattle.fabric_trace.specs.Shown.{Shown}
use Rattle.fabric_replay.specs.Replaying.{EndsWith}
use Rattle.fabric_replay.specs.declared.replaying.ReplayEnd.{ReplayEnd}
use Rattle.fabric_replay.specs.declared.replaying.ReplayEnd.TheVariants as Replays
use Rattle.fabric_replay.specs.declared.summing.Counts.{Counts}
use Rattle.fabric_replay.specs.declared.summing.SummaryEnd.{SummaryEnd}
use Rattle.fabric_replay.specs.declared.summing.SummaryEnd.TheVariants as Ends

-- These counts are those of the lines `take`, `leave` and `drop`, and of the packets that stand
-- in this network: what is received and what waits at the ports of its nodes. What is lent to the
-- next hop stands there. What was taken has left, was dropped or stands.
pub record CountsLines (lines : List TraceLine) (net : Network) (counts : Counts) : Type 0 where
  pub taken : counts.taken ≡ steps_in takes_by (steps_of lines)
  pub left : counts.left ≡ steps_in leaves_by (steps_of lines)
  pub dropped : counts.dropped ≡ steps_in drops_by (steps_of lines)
  pub held : counts.held ≡ stock net (all_ports net.registers)
  pub sum : counts.taken ≡ counts.left + counts.dropped + counts.held

-- The script has one trace, of which all laws hold. Every event that was acted on was sent, and the
-- counts are those of its lines and of the network behind them. Packets stand at ports of nodes
-- alone, so none is missed.
pub record Summed (script : List Numbered) (counts : Counts) : Type 0 where
  pub lines : List TraceLine
  pub runs : Runs script lines
  pub only : (other : List TraceLine) → Runs script other → other ≡ lines
  pub ends : EndsWith script lines Ended None
  pub counted : CountsLines lines (seen (start script) lines).network counts
  pub stand : StandAtNodes (seen (start script) lines).network
  pub shown : Shown script lines

-- The script has one trace, which ends with this event: the port acted on it, in the event of this
-- line of the script, and it was not sent.
pub record SummedUndetected (script : List Numbered) (line : ℕ) (port : PortRef) (event : Event)
    : Type 0 where
  pub lines : List TraceLine
  pub runs : Runs script lines
  pub only : (other : List TraceLine) → Runs script other → other ≡ lines
  pub ends : EndsWith script lines (Undetected line port event)
      (Some (record { port = port; event = event }))
  pub shown : Shown script lines

-- a summary ends for the reason that a replay does; a write of it never fails
abbrev pub EndsLike : ReplayEnd → SummaryEnd → Type 0
EndsLike (Replays.Undetected line port event) result = result ≡ Ends.Undetected line port event
EndsLike Replays.NoMemory result = result ≡ Ends.NoMemory
EndsLike Replays.WriteFault result = ⊥
