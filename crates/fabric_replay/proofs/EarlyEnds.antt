-- How a replay ends early.
use Rattle.std.proofs.Common.{◌≡◌, ℕ, ◌<◌, true, List, ◌∷◌, ◌++◌, length, Some, Err, IsErrOf, sym, ◌∙◌, subst}
use Rattle.link_model.specs.declared.event.Event.{Event}
use Rattle.fabric_script.specs.Lines.{is_event}
use Rattle.fabric_script.specs.Scripts.{ScriptPasses}
use Rattle.fabric_script.specs.declared.ports.PortRef.{PortRef}
use Rattle.fabric_script.specs.declared.lines.Line.{Line}
use Rattle.fabric_script.specs.declared.lines.Numbered.{Numbered}
use Rattle.trace_lines.specs.Lines.{TraceLine, Begun, Undetected}
use Rattle.fabric_trace.specs.Runs.{start}
use Rattle.trace_lines.specs.declared.writer.TraceWriter.{TraceWriter}
use Rattle.fabric_ports.specs.Events.{IsOwnBlock, Evented}
use Rattle.fabric_ports.specs.Standing.{Stands}
use Rattle.fabric_ports.specs.declared.answers.FabricEnd.{FabricEnd}
use Rattle.fabric_ports.specs.declared.answers.FabricEnd.TheVariants as Early
use Rattle.fabric_ports.specs.declared.fabric.Fabric.{Fabric}
use Rattle.fabric_replay.specs.Ending.{EndIsNamed, EndsBy}
use Rattle.fabric_replay.specs.declared.replaying.ReplayEnd.{ReplayEnd}
use Rattle.fabric_replay.specs.declared.replaying.ReplayEnd.TheVariants as Ends
use Rattle.fabric_replay.specs.Going.{Going, ToldUntil, ToldFront, ToldWhole}
use Rattle.fabric_replay.proofs.Naming.{found_named}
use Rattle.fabric_replay.proofs.Telling.{IsItem, Going-broken, Going-short, Going-undetected, until_front, whole_front}

pub end_named : (names : List (List ℕ)) (script : List Numbered) {K : Type 0}
    (out out2 : TraceWriter K) (lines : List TraceLine) (line : Line) (fabric : Fabric)
    (end : FabricEnd) → ScriptPasses names script → out.names.now ≡ names
    → Stands (start script) lines fabric
    → Evented line (IsOwnBlock line) out out2 (start script) lines (Err end)
    → EndIsNamed out2.names.now end
end_named names script out out2 lines line fabric (Early.Undetected port event) passes named stands
    ends =
    subst (λ n. port.node < length n) (sym (ends.ends.0.names ∙ named))
    (found_named names script lines (lines ++ Begun line ∷ ends.block) fabric
    (record { port = port; event = event }) passes stands ends.ends.1)
end_named names script out out2 lines line fabric Early.Failed passes named stands ends = tt
end_named names script out out2 lines line fabric Early.NoMemory passes named stands ends = tt

module _ {K : Type 0} (begun : TraceWriter K) (script : List Numbered) where
  -- what was told where a replay ended early
  abbrev pub IsEnded : TraceWriter K → ReplayEnd → Type 0
  IsEnded out Ends.WriteFault = ToldUntil begun out script
  IsEnded out (Ends.Undetected line port event) =
      ToldWhole begun out script (Undetected line port event)
      (Some (record { port = port; event = event }))
  IsEnded out Ends.NoMemory = ToldFront begun out script

  ended_by : (out : TraceWriter K) (result end : ReplayEnd) → result ≡ end → IsEnded out end
      → IsEnded out result
  ended_by out result end is ended = subst (IsEnded out) (sym is) ended

  pub Going-ended : (i : ℕ) (item : Numbered) (out out2 out3 : TraceWriter K) (fabric : Fabric)
      (end : FabricEnd) (result : ReplayEnd) → IsItem script i item → is_event item.line ≡ true
      → (h : Going begun out script i fabric)
      → Evented item.line (IsOwnBlock item.line) out out2 (start script) h.lines (Err end)
      → EndsBy end item.number out2 out3 result → IsEnded out3 result
  Going-ended i item out out2 out3 fabric (Early.Undetected port event) result is has h ends told =
      ended_by out3 result (Ends.Undetected item.number port event) told.0
      (Going-undetected begun script i item out out2 out3 fabric port event is has h ends told.1)
  Going-ended i item out out2 out3 fabric Early.Failed result is has h ends told =
      ended_by out3 result Ends.WriteFault told.0
      (subst (λ o. ToldUntil begun o script) (sym told.1)
      (Going-broken begun script i item out out2 fabric is has h ends))
  Going-ended i item out out2 out3 fabric Early.NoMemory result is has h ends told =
      ended_by out3 result Ends.NoMemory told.0
      (subst (λ o. ToldFront begun o script) (sym told.1)
      (Going-short begun script i item out out2 fabric is has h ends))

  pub ended_front : (out : TraceWriter K) (result : ReplayEnd) → IsEnded out result
      → ToldFront begun out script
  ended_front out Ends.WriteFault ended =
      until_front begun script out ended
  ended_front out (Ends.Undetected line port event) ended =
      whole_front begun script out _ _ ended
  ended_front out Ends.NoMemory ended = ended

  pub ended_until : {T : Type 0} (out : TraceWriter K) (result : ReplayEnd) → IsEnded out result
      → IsErrOf {T = T} (Err result) Ends.WriteFault
      → ToldUntil begun out script
  ended_until out result ended is =
      let same : result ≡ Ends.WriteFault = cc
      in
      subst (IsEnded out) same ended

  pub ended_whole : {T : Type 0} (out : TraceWriter K) (result : ReplayEnd) → IsEnded out result
      → (line : ℕ) (port : PortRef) (event : Event)
      → IsErrOf {T = T} (Err result) (Ends.Undetected line port event)
      → ToldWhole begun out script (Undetected line port event)
      (Some (record { port = port; event = event }))
  ended_whole out result ended line port event is =
      let same : result ≡ Ends.Undetected line port event = cc
      in
      subst (IsEnded out) same ended
