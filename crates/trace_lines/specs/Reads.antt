-- What the code reads, as lines of a trace.
use Rattle.fabric_model.specs.Steps.{Hold, Free, Take, Leave, Move, Drop, Answer, Step, Linked, AtNode, ByDevice}
use Rattle.trace_lines.specs.Lines.{Lack, Full, Empty, Short, Early, NoStep, Sent, Got, Fired, TraceLine, Begun, Stepped, Signed, Lacked, Ended, Undetected}
use Rattle.trace_lines.specs.declared.lines.NetworkStep.{NetworkStep as ReadStep}
use Rattle.trace_lines.specs.declared.lines.NetworkStep.TheVariants as S
use Rattle.trace_lines.specs.declared.lines.Lack.{Lack as ReadLack}
use Rattle.trace_lines.specs.declared.lines.Lack.TheVariants as L
use Rattle.trace_lines.specs.declared.lines.TraceLine.{TraceLine as ReadLine}
use Rattle.trace_lines.specs.declared.lines.TraceLine.TheVariants as R

abbrev pub step_read : ReadStep → Step
step_read (S.Hold port packet) = Linked (Hold port packet)
step_read (S.Free port packet) = Linked (Free port packet)
step_read (S.Take node packet) = AtNode (Take node packet)
step_read (S.Leave node packet) = AtNode (Leave node packet)
step_read (S.Move from to packet) = ByDevice (Move from to packet)
step_read (S.Drop port packet) = ByDevice (Drop port packet)
step_read (S.Answer port packet response) = ByDevice (Answer port packet response)

abbrev pub lack_of : ReadLack → Lack
lack_of L.Full = Full
lack_of L.Empty = Empty
lack_of L.Short = Short
lack_of L.Early = Early
lack_of L.NoStep = NoStep

abbrev pub line_read : ReadLine → TraceLine
line_read (R.Begun line) = Begun line
line_read (R.Stepped step) = Stepped (step_read step)
line_read (R.Sent port chars) = Signed (Sent port chars.items)
line_read (R.Got port chars) = Signed (Got port chars.items)
line_read (R.Fired port) = Signed (Fired port)
line_read (R.Lacked lack) = Lacked (lack_of lack)
line_read R.Ended = Ended
line_read (R.Undetected number port event) = Undetected number port event
