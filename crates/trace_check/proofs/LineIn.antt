-- The ports and nodes of a line that fits are ports and nodes of the script.
use Rattle.std.proofs.Common.{ℕ, List, length}
use Rattle.fabric_script.specs.declared.lines.Line.{Line}
use Rattle.fabric_script.specs.declared.lines.Line.TheVariants.{Alter, Erase, Insert}
use Rattle.fabric_script.specs.declared.ports.PortRef.{PortRef}
use Rattle.fabric_script.specs.Known.{Known}
use Rattle.fabric_script.specs.Reading.{MayBe}
use Rattle.fabric_model.specs.Steps.{Answer, AtNode, ByDevice, Drop, Free, Hold, Leave, Linked, Move, Step, Take}
use Rattle.fabric_trace.specs.Fold.{edit_of}
use Rattle.trace_lines.specs.Lines.{Begun, Fired, Got, Sent, Signed, Stepped, TraceLine}
use Rattle.trace_check.specs.Networks.{IsStepOf}
use Rattle.trace_check.specs.States.{IsEditIn, IsLineIn}
use Rattle.trace_check.specs.Tables.{IsIn}
use Rattle.trace_lines.specs.Words.{IsScriptPort, LineFits, StepFits}

port_in : (known : Known) (p : PortRef) → IsScriptPort known p → IsIn (length known.names) p
port_in known p is = record { node = is.0; port = is.1 }

edit_in : (known : Known) (new : List ℕ) (line : Line) → MayBe known new line
    → IsEditIn (length known.names) (edit_of line)
edit_in known new (Alter port place ch) may = record { node = may.fit.0.0; port = may.fit.0.1 }
edit_in known new (Erase port place n) may = record { node = may.fit.0.0; port = may.fit.0.1 }
edit_in known new (Insert port place ch) may = record { node = may.fit.0.0; port = may.fit.0.1 }
edit_in known new _ may = tt

step_in : (known : Known) (step : Step) → StepFits known step → IsStepOf (length known.names) step
step_in known (Linked (Hold q packet)) fits = port_in known q fits.0.0
step_in known (Linked (Free p packet)) fits = port_in known p fits.0.0
step_in known (AtNode (Take n packet)) fits = fits
step_in known (AtNode (Leave n packet)) fits = fits.0
step_in known (ByDevice (Move p q packet)) fits = (port_in known p fits.0, port_in known q fits.1)
step_in known (ByDevice (Drop p packet)) fits = port_in known p fits.0
step_in known (ByDevice (Answer p packet response)) fits = port_in known p fits.0

pub line_in : (known : Known) (line : TraceLine) → LineFits known line
    → IsLineIn (length known.names) line
line_in known (Begun line) fits = edit_in known _ line fits.0
line_in known (Stepped step) fits = step_in known step fits
line_in known (Signed (Sent p chars)) fits = port_in known p fits.0.0
line_in known (Signed (Got q chars)) fits = port_in known q fits.0.0
line_in known (Signed (Fired p)) fits = port_in known p fits.0
line_in known _ fits = tt
