-- What the lines of a trace show, each law by the lines alone.
use Rattle.std.specs.Prelude.{false, List, [], None}
use Rattle.fabric_script.specs.declared.ports.PortRef.{PortRef}
use Rattle.fabric_script.specs.declared.lines.Numbered.{Numbered}
use Rattle.fabric_model.specs.Laws.Lawful.{Lawful}
use Rattle.trace_lines.specs.Lines.{TraceLine, steps_of}
use Rattle.fabric_trace.specs.Fold.{seen}
use Rattle.fabric_trace.specs.Runs.{start}
use Rattle.fabric_trace.specs.AtRest.{GoesAtRest}
use Rattle.fabric_trace.specs.Wires.{WireFold}
use Rattle.fabric_trace.specs.Holds.{HoldsCame}
use Rattle.fabric_trace.specs.Frees.{nothing_got, FreesSaid}
use Rattle.fabric_trace.specs.Noted.{FreesNoted}
use Rattle.fabric_trace.specs.Allowance.{FreesAllowed}
use Rattle.fabric_trace.specs.Owned.{AreOwned}
use Rattle.fabric_trace.specs.Faithful.{Faithful}
use Rattle.fabric_trace.specs.Firsts.{FindsFirst}
use Rattle.fabric_trace.specs.Settled.{Settled}
use Rattle.fabric_trace.specs.Working.{NeverFail}
use Rattle.fabric_trace.specs.OnTheWay.{NeverFailWithin}

-- All laws of a trace of a script, and of a front of one.
pub record Shown (script : List Numbered) (lines : List TraceLine) : Type 0 where
  -- The steps are a legal run of plain queues, from the network that the set-up lines make.
  pub steps : Lawful (start script).network (steps_of lines) (seen (start script) lines).network
  -- What a port got stood on its peer's wire, as the script edited it. What it sent it had to send,
  -- and a time-out fired where nothing was on the way.
  pub wires : WireFold (start script).network.links (λ p. []) lines
  pub owned : AreOwned (start script) lines
  -- Each packet held came, in order. Each one freed was acknowledged, in the delivery where it is
  -- freed, and none too many.
  pub holds : (q : PortRef) → HoldsCame q lines
  pub frees : (p : PortRef) → FreesSaid p nothing_got 0 lines
  pub noted : (p : PortRef) → FreesNoted p false lines
  pub allowed : (p : PortRef) → FreesAllowed p [] 0 lines
  -- What was acted on since the last silence was sent, but for the one event that is named.
  pub faithful : Faithful (start script) lines
  pub finds_first : FindsFirst (start script) lines
  -- An event is over when the next begins. Settling leaves a link at rest, in a run too.
  pub settled : Settled (start script) None lines
  pub rests : GoesAtRest script lines
  -- No sender fails, nor within a delivery.
  pub never_fail : NeverFail (start script) lines
  pub never_fail_within : NeverFailWithin (start script) lines
