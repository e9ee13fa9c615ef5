-- Whole runs of a link, by its calls and by the layer above.
use Rattle.std.specs.Prelude.{◌≡◌, ℕ, ◌++◌, List, [], None}
use Rattle.link_port.specs.Ports.{PortState, IsPort}
use Rattle.link_watch.specs.declared.note.Note.{Note}
use Rattle.link_watch.specs.declared.side.Side.{Side}
use Rattle.link_wires.specs.Deliveries.{undetected}
use Rattle.rio_chars.specs.declared.edit.Edit.{Edit}
use Rattle.link_machine.specs.States.{LinkState, from_end}
use Rattle.link_machine.specs.Calls.{pumped, pump_notes, told_from, tell_notes, delivery_from, delivered_from, delivery_notes, edited_from, timed_out_at, time_out_notes}
use Rattle.link_machine.specs.Layer.{IsServed, with_port}

-- From a link on, with the notes of the calls in order. Nothing follows a delivery with an event
-- that was not sent.
pub data IsRun : LinkState → List Note → LinkState → Type 0 where
  RunRests : {s : LinkState} → IsRun s [] s
  RunPumps : {s end : LinkState} {notes : List Note} (from : Side) (turns : ℕ)
      → IsRun (pumped from turns s) notes end → IsRun s (pump_notes from turns s ++ notes) end
  RunTells : {s end : LinkState} {notes : List Note} (from : Side)
      → IsRun (told_from from s) notes end → IsRun s (tell_notes from s ++ notes) end
  RunDelivers : {s end : LinkState} {notes : List Note} (from : Side) (count : ℕ)
      → undetected (delivery_from from count s) ≡ None
      → IsRun (delivered_from from count s) notes end
      → IsRun s (delivery_notes from count s ++ notes) end
  RunEdits : {s end : LinkState} {notes : List Note} (from : Side) (edit : Edit)
      → IsRun (edited_from from edit s) notes end → IsRun s notes end
  RunTimesOut : {s end : LinkState} {notes : List Note} (side : Side)
      → IsRun (timed_out_at side s) notes end → IsRun s (time_out_notes side s ++ notes) end
  RunServes : {s end : LinkState} {notes : List Note} (side : Side) (next : PortState) → IsPort next
      → IsServed (from_end side s).a next
      → IsRun (with_port side next s) notes end → IsRun s notes end
