-- The counts of the writer of a trace are those of a summary.
use Rattle.std.proofs.Common.{◌≡◌, ◌≢◌, ◌⊎◌, ℕ, ◌+◌, ◌-◌, ◌≤◌, true, List, None, Some, inl, inr, Err, IsErrOf, sym, ap, ◌∙◌, subst, arith}
use Rattle.rio_chars.specs.Faults.{Rose}
use Rattle.link_model.specs.declared.event.Event.{Event}
use Rattle.fabric_script.specs.Scripts.{ScriptPasses}
use Rattle.fabric_script.specs.declared.ports.PortRef.{PortRef}
use Rattle.fabric_script.specs.declared.lines.Numbered.{Numbered}
use Rattle.fabric_model.specs.Laws.Nodes.{all_ports}
use Rattle.fabric_model.specs.Laws.Stock.{stock, takes_by, leaves_by, drops_by, steps_in}
use Rattle.fabric_trace.specs.Fold.{seen}
use Rattle.fabric_trace.specs.Runs.{start, Runs}
use Rattle.fabric_trace.proofs.SetUps.Balancing.{runs_stand, runs_balance}
use Rattle.fabric_trace.proofs.SetUps.Happening.{may_set_up}
use Rattle.fabric_trace.proofs.Shown.Shows.{runs_shown}
use Rattle.fabric_trace.proofs.Traces.Unique.{runs_one}
use Rattle.trace_lines.specs.Counts.{nothing_counted, with_lines_counted}
use Rattle.trace_lines.specs.Lines.{TraceLine, Ended, Undetected, steps_of}
use Rattle.trace_lines.specs.declared.counts.PacketCounts.{PacketCounts}
use Rattle.trace_lines.specs.declared.writer.TraceWriter.{TraceWriter}
use Rattle.fabric_replay.specs.Going.{ToldUntil, ToldWhole}
use Rattle.fabric_replay.specs.Summing.{CountsLines, Summed, SummedUndetected, EndsLike}
use Rattle.fabric_replay.specs.declared.replaying.ReplayEnd.{ReplayEnd}
use Rattle.fabric_replay.specs.declared.replaying.ReplayEnd.TheVariants as Replays
use Rattle.fabric_replay.specs.declared.summing.Counts.{Counts}
use Rattle.fabric_replay.specs.declared.summing.SummaryEnd.{SummaryEnd}
use Rattle.fabric_replay.specs.declared.summing.SummaryEnd.TheVariants as Ends
use Rattle.fabric_replay.proofs.CountLaws.{taken_counted, left_counted, dropped_counted}
use Rattle.fabric_replay.proofs.FewTakes.{few_takes}

-- what the counts of a whole trace say
record CountsTrace (script : List Numbered) (lines : List TraceLine) (counts : PacketCounts)
    : Type 0 where
  taken : counts.taken ≡ steps_in takes_by (steps_of lines)
  left : counts.left ≡ steps_in leaves_by (steps_of lines)
  dropped : counts.dropped ≡ steps_in drops_by (steps_of lines)
  sum : counts.taken ≡ counts.left + counts.dropped + stock (seen (start script) lines).network
      (all_ports (seen (start script) lines).network.registers)

module _ (names : List (List ℕ)) (script : List Numbered) (passes : ScriptPasses names script) where
  trace_counted : (lines : List TraceLine) → Runs script lines
      → CountsTrace script lines (with_lines_counted nothing_counted lines)
  trace_counted lines runs =
      let few = few_takes names script lines passes runs in
      let balance = runs_balance names script lines passes runs in
      let all = with_lines_counted nothing_counted lines in
      let taken : all.taken ≡ steps_in takes_by (steps_of lines) =
      omega (arith, taken_counted nothing_counted lines (omega arith)) in
      let left : all.left ≡ steps_in leaves_by (steps_of lines) =
      omega (arith, left_counted nothing_counted lines (omega (arith, few, balance))) in
      let dropped : all.dropped ≡ steps_in drops_by (steps_of lines) =
      omega (arith, dropped_counted nothing_counted lines (omega (arith, few, balance))) in
      record {
        taken = taken;
        left = left;
        dropped = dropped;
        sum = omega (arith, taken, left, dropped, balance);
      }

  module _ {K : Type 0} {begun out : TraceWriter K} (none : begun.counts ≡ nothing_counted) where
    counted : (whole : ToldWhole begun out script Ended None)
        → CountsTrace script whole.lines out.counts
    counted whole = subst (CountsTrace script whole.lines)
        (sym (whole.adds.counts ∙ ap (λ counts. with_lines_counted counts whole.lines) none))
        (trace_counted whole.lines whole.runs)

    -- what has left and what was dropped was taken
    pub fits : ToldWhole begun out script Ended None
        → out.counts.left + out.counts.dropped ≤ out.counts.taken
    fits whole = let sum = (counted whole).sum in omega arith

    pub summed : (counts : Counts) → ToldWhole begun out script Ended None
        → counts ≡ record {
          taken = out.counts.taken;
          left = out.counts.left;
          dropped = out.counts.dropped;
          held = out.counts.taken - out.counts.left - out.counts.dropped;
        }
        → Summed script counts
    summed counts whole same =
        let is = counted whole in
        let sum = is.sum in
        record {
          lines = whole.lines;
          runs = whole.runs;
          only = λ other runs. runs_one script other whole.lines runs whole.runs;
          ends = whole.ends;
          counted = subst (CountsLines whole.lines (seen (start script) whole.lines).network)
              (sym same) (record {
                taken = is.taken;
                left = is.left;
                dropped = is.dropped;
                held = omega arith;
                sum = omega arith;
              });
          stand = runs_stand names script whole.lines passes whole.runs;
          shown = runs_shown script whole.lines (may_set_up names script passes) whole.runs;
        }

  pub summed_undetected : {K : Type 0} {begun out : TraceWriter K} (line : ℕ) (port : PortRef)
      (event : Event)
      → ToldWhole begun out script (Undetected line port event)
      (Some (record { port = port; event = event }))
      → SummedUndetected script line port event
  summed_undetected line port event whole = record {
    lines = whole.lines;
    runs = whole.runs;
    only = λ other runs. runs_one script other whole.lines runs whole.runs;
    ends = whole.ends;
    shown = runs_shown script whole.lines (may_set_up names script passes) whole.runs;
  }

-- ---- how it ends

-- no write fails, if the count of faults is 0 in the end
pub no_fault : {K : Type 0} {begun out : TraceWriter K} {script : List Numbered}
    → ToldUntil begun out script → out.outbox.now.faults ≢ 0
no_fault {out = out} until none = never (until.adds.writes.cause until.failed)
  where
    never : ¬ ((until.mid.outbox.now.failed ≡ true)
        ⊎ Rose until.mid.outbox.now.faults out.outbox.now.faults)
    never (inl was) = cc (until.fine, was)
    never (inr (inl less)) = omega arith
    never (inr (inr most)) = omega arith

pub replay_undetected : (end : ReplayEnd) (result : SummaryEnd) (line : ℕ) (port : PortRef)
    (event : Event) → EndsLike end result → IsErrOf {T = Counts} (Err result) (Ends.Undetected line
    port event) → end ≡ Replays.Undetected line port event
replay_undetected (Replays.Undetected l p e) result line port event own is =
    same l line p port e event
    result own is
  where
    same : (l line : ℕ) (p port : PortRef) (e event : Event) (r : SummaryEnd)
        → r ≡ Ends.Undetected l p e → IsErrOf {T = Counts} (Err r) (Ends.Undetected line port event)
        → Replays.Undetected l p e ≡ Replays.Undetected line port event
    same l line p port e event r own is = cc
replay_undetected Replays.NoMemory result line port event own is = absurd cc
replay_undetected Replays.WriteFault result line port event own is = absurd own
