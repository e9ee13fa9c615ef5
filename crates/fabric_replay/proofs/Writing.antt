-- What was written of what a replay told.
use Rattle.std.proofs.Common.{◌≡◌, ◌⊎◌, inl, inr, ℕ, true, false, List, [], ◌++◌, Option, Some, None, Result, Ok, Err, OnOk, refl, ap, ◌∙◌, subst, append-nil, append_assoc}
use Rattle.std.specs.Io.KnownBytes.{Appends}
use Rattle.rio_chars.specs.Faults.{Rose}
use Rattle.rio_chars.specs.Written.{Outgoing, Writes}
use Rattle.rio_chars.proofs.WrittenLaws.{Writes-then, Writes-whole, Writes-front, Writes-rose}
use Rattle.link_model.specs.declared.event.Event.{Event}
use Rattle.fabric_script.specs.Scripts.{ScriptPasses}
use Rattle.fabric_script.specs.declared.ports.PortRef.{PortRef}
use Rattle.fabric_script.specs.declared.lines.Numbered.{Numbered}
use Rattle.fabric_model.specs.Laws.Freeing.{IsFront}
use Rattle.fabric_trace.specs.Known.{UndetectedAt}
use Rattle.trace_lines.specs.Lines.{TraceLine, Ended, Undetected}
use Rattle.fabric_trace.specs.Runs.{bare, Runs, Begins}
use Rattle.fabric_trace.specs.SetUps.{MaySetUpAll}
use Rattle.fabric_trace.specs.Shown.{Shown}
use Rattle.trace_lines.specs.Text.{trace_text}
use Rattle.trace_lines.specs.Writing.{Adds}
use Rattle.trace_lines.specs.declared.writer.TraceWriter.{TraceWriter}
use Rattle.fabric_trace.proofs.SetUps.Happening.{may_set_up}
use Rattle.fabric_trace.proofs.Shown.Shows.{runs_shown, fronts_shown, blocks_shown}
use Rattle.fabric_trace.proofs.Traces.Unique.{runs_one, first_blocks_front}
use Rattle.fabric_replay.specs.Going.{ToldFront, ToldWhole}
use Rattle.fabric_replay.specs.Replaying.{Replayed, ReplayedWhole, ReplayedUndetected, ReplayedFront}
use Rattle.fabric_replay.proofs.Cutting.{cut_text, part_more}

module _ (names : List (List ℕ)) (script : List Numbered) where
  -- the text of lines that were added, with nothing told behind it
  told_text : {K : Type 0} {begun out : TraceWriter K} (last : Outgoing) (lines : List TraceLine)
      → Adds begun out lines → begun.names.now ≡ names → Writes out.outbox.now last []
      → Writes begun.outbox.now last (trace_text names lines)
  told_text {begun} last lines adds named flushed =
      subst (Writes begun.outbox.now last)
      (append-nil (trace_text begun.names.now lines) ∙ ap (λ n. trace_text n lines) named)
      (Writes-then (trace_text begun.names.now lines) [] adds.writes flushed)

  -- of a whole trace, all
  written_whole : {K : Type 0} {begun out : TraceWriter K} (last : Outgoing) (line : TraceLine)
      (found : Option UndetectedAt) (h : ToldWhole begun out script line found)
      → begun.names.now ≡ names → ScriptPasses names script → begun.outbox.now.waiting ≡ []
      → Writes out.outbox.now last [] → last.failed ≡ false → last.waiting ≡ []
      → Replayed names script begun.outbox.now.written last.written
  written_whole last line found h named passes empty flushed fine none = record {
    lines = h.lines;
    told = Writes-whole _ last (trace_text names h.lines) empty
        (told_text last h.lines h.adds named flushed) fine none;
    runs = h.runs;
    only = λ other runs. runs_one script other h.lines runs h.runs;
    shown = runs_shown script h.lines (may_set_up names script passes) h.runs;
  }

  pub written_done : {K : Type 0} {begun out : TraceWriter K} (last : Outgoing)
      → ToldWhole begun out script Ended None → begun.names.now ≡ names
      → ScriptPasses names script → begun.outbox.now.waiting ≡ []
      → Writes out.outbox.now last [] → last.failed ≡ false → last.waiting ≡ []
      → ReplayedWhole names script begun.outbox.now.written last.written
  unfolding written_whole
  written_done last h named passes empty flushed fine none = record {
    replayed = written_whole last Ended None h named passes empty flushed fine none;
    ends = h.ends;
  }

  pub written_undetected : {K : Type 0} {begun out : TraceWriter K} (last : Outgoing) (line : ℕ)
      (port : PortRef) (event : Event)
      → ToldWhole begun out script (Undetected line port event)
      (Some (record { port = port; event = event }))
      → begun.names.now ≡ names → ScriptPasses names script → begun.outbox.now.waiting ≡ []
      → Writes out.outbox.now last [] → last.failed ≡ false → last.waiting ≡ []
      → ReplayedUndetected names script line port event begun.outbox.now.written last.written
  unfolding written_whole
  written_undetected last line port event h named passes empty flushed fine none = record {
    replayed =
        written_whole last (Undetected line port event) _ h named passes empty flushed fine none;
    ends = h.ends;
  }

  -- lines of which it is said how they begin a trace, cut once more
  begins_again : (lines behind whole rest : List TraceLine) → lines ≡ whole ++ rest
      → Begins script (lines ++ behind) ⊎ Runs script (lines ++ behind)
      → Begins script (whole ++ (rest ++ behind)) ⊎ Runs script (whole ++ (rest ++ behind))
  begins_again lines behind whole rest is begins =
      subst (λ l. Begins script l ⊎ Runs script l)
      (ap (λ l. l ++ behind) is ∙ append_assoc whole rest behind) begins

  shown_front : (lines behind : List TraceLine) → MaySetUpAll bare script
      → Begins script (lines ++ behind) ⊎ Runs script (lines ++ behind) → Shown script lines
  shown_front lines behind may (inl begins) = blocks_shown script lines behind may begins
  shown_front lines behind may (inr runs) = fronts_shown script lines behind may runs

  front_of_all : (lines behind : List TraceLine) → Begins script (lines ++ behind)
      ⊎ Runs script (lines ++ behind) → (all : List TraceLine) → Runs script all → IsFront lines all
  front_of_all lines behind (inl begins) all runs =
      let front = first_blocks_front script (lines ++ behind) all begins runs in
      (behind ++ front.0, front.1 ∙ append_assoc lines behind front.0)
  front_of_all lines behind (inr whole) all runs =
      (behind, runs_one script all (lines ++ behind) runs whole)

  -- whatever was told, a front of it
  pub written_front : {K : Type 0} {begun out : TraceWriter K} (last : Outgoing)
      → ToldFront begun out script → begun.names.now ≡ names → ScriptPasses names script
      → begun.outbox.now.waiting ≡ [] → Writes out.outbox.now last []
      → ReplayedFront names script begun.outbox.now.written last.written
  written_front {begun} last h named passes empty flushed =
      let front =
      Writes-front begun.outbox.now last (trace_text names h.lines) empty
      (told_text last h.lines h.adds named flushed) in
      let cut = cut_text names h.lines front.front front.rest front.whole in
      let begins = begins_again h.lines h.behind cut.lines cut.behind cut.whole h.begins in
      record {
        lines = cut.lines;
        behind = cut.behind ++ h.behind;
        part = cut.part;
        told = subst (Appends begun.outbox.now.written last.written) cut.text front.told;
        cut = part_more names cut.behind h.behind cut.part cut.cut;
        begins = begins;
        front = front_of_all cut.lines (cut.behind ++ h.behind) begins;
        shown = shown_front cut.lines (cut.behind ++ h.behind) (may_set_up names script passes)
            begins;
      }

  -- and where a write failed, the count of faults rose
  pub written_fault : {K : Type 0} {begun out : TraceWriter K} (last : Outgoing)
      → ToldFront begun out script → begun.names.now ≡ names → begun.outbox.now.failed ≡ false
      → Writes out.outbox.now last [] → last.failed ≡ true
      → Rose begun.outbox.now.faults last.faults
  written_fault last h named fine flushed failed =
      Writes-rose _ last (trace_text names h.lines) fine
      (told_text last h.lines h.adds named flushed) failed

-- nothing was written, and so a front of nothing
pub nothing_front : (names : List (List ℕ)) (script : List Numbered)
    (written written_after : Option (List ℕ)) → ScriptPasses names script
    → Appends written written_after [] → ReplayedFront names script written written_after
nothing_front names script written written_after passes told =
    let none : Begins script [] = record {
      done = [];
      rest = script;
      whole = refl;
      blocks = refl;
    } in
    record {
      lines = [];
      behind = [];
      part = [];
      told = told;
      cut = refl;
      begins = inl none;
      front = λ all runs. (all, refl);
      shown = blocks_shown script [] [] (may_set_up names script passes) none;
    }

-- what is said of an answer, by what is said of it
pub on_ok : {T E : Type 0} {P Q : Type 0} (result : Result T E) → (P → Q) → OnOk result P
    → OnOk result Q
on_ok (Ok x) f p = f p
on_ok (Err e) f p = tt
