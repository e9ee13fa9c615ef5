-- What the lines of a trace do at a link is a run of that link.
use Rattle.std.specs.Prelude.{◌≡◌, List, ◌++◌, Some, None}
use Rattle.link_watch.specs.declared.note.Note.{Note}
use Rattle.link_machine.specs.Runs.{IsRun}
use Rattle.fabric_script.specs.declared.ports.PortRef.{PortRef}
use Rattle.fabric_model.specs.Network.{Network}
use Rattle.trace_lines.specs.Lines.{TraceLine}
use Rattle.fabric_trace.specs.Known.{Seen, peer_of, link_at}
use Rattle.fabric_trace.specs.Fold.{seen}
use Rattle.fabric_trace.specs.Parts.{Made}
use Rattle.fabric_trace.specs.Runs.{begins}
use Rattle.fabric_trace.specs.SetUps.{IsSetUp}

-- what is known before some lines and after them, of the link of two ports
abbrev pub RunsBetween : Seen → Seen → PortRef → PortRef → Type 0
RunsBetween s t a b = (notes : List Note) × IsRun (link_at s a b) notes (link_at t a b)

-- After any lines, and more behind them by which every event that was acted on was sent.
abbrev pub LinksOfTracesRun : Type 0
LinksOfTracesRun = (net : Network) (front rest : List TraceLine) (a b : PortRef) → IsSetUp net
    → Made (begins net) front → Made (seen (begins net) front) rest
    → peer_of (begins net) a ≡ Some b
    → (seen (begins net) (front ++ rest)).undetected ≡ None
    → RunsBetween (seen (begins net) front) (seen (begins net) (front ++ rest)) a b
