-- How far a replay has come.
use Rattle.std.specs.Prelude.{◌≡◌, ◌⊎◌, ℕ, ◌+◌, true, false, List, ◌++◌, Option, take}
use Rattle.fabric_script.specs.declared.lines.Numbered.{Numbered}
use Rattle.fabric_trace.specs.Known.{UndetectedAt}
use Rattle.trace_lines.specs.Lines.{TraceLine}
use Rattle.fabric_trace.specs.Runs.{start, Runs, BlocksFrom, Begins}
use Rattle.trace_lines.specs.Writing.{Adds}
use Rattle.trace_lines.specs.declared.writer.TraceWriter.{TraceWriter}
use Rattle.fabric_ports.specs.Standing.{Stands}
use Rattle.fabric_ports.specs.declared.fabric.Fabric.{Fabric}
use Rattle.fabric_replay.specs.Replaying.{EndsWith}

-- The blocks of the first events were told, and the fabric stands for them.
pub record Going {K : Type 0} (begun out : TraceWriter K) (script : List Numbered) (count : ℕ)
    (fabric : Fabric) : Type 0 where
  pub lines : List TraceLine
  pub adds : Adds begun out lines
  pub fine : out.outbox.now.failed ≡ false
  pub blocks : BlocksFrom (start script) (take count script) lines
  pub stands : Stands (start script) lines fabric

-- A write failed in one of the events, and in none before. The blocks before it were told, a front
-- of its own, and nothing of an event behind it.
pub record ToldUntil {K : Type 0} (begun out : TraceWriter K) (script : List Numbered)
    : Type 0 where
  pub count : ℕ
  pub before : List TraceLine
  pub front : List TraceLine
  pub rest : List TraceLine
  pub mid : TraceWriter K
  pub adds_before : Adds begun mid before
  pub blocks_before : BlocksFrom (start script) (take count script) before
  pub fine : mid.outbox.now.failed ≡ false
  pub adds : Adds mid out front
  pub blocks : BlocksFrom (start script) (take (count + 1) script) (before ++ (front ++ rest))
  pub failed : out.outbox.now.failed ≡ true

-- Lines were told that begin a trace, or the blocks of its first events.
pub record ToldFront {K : Type 0} (begun out : TraceWriter K) (script : List Numbered)
    : Type 0 where
  pub lines : List TraceLine
  pub behind : List TraceLine
  pub adds : Adds begun out lines
  pub begins : Begins script (lines ++ behind) ⊎ Runs script (lines ++ behind)

-- A whole trace was told, which ends so.
pub record ToldWhole {K : Type 0} (begun out : TraceWriter K) (script : List Numbered)
    (last : TraceLine) (found : Option UndetectedAt) : Type 0 where
  pub lines : List TraceLine
  pub adds : Adds begun out lines
  pub runs : Runs script lines
  pub ends : EndsWith script lines last found
