-- Links are at rest when they have settled, in a `settle` and in each round of a `run`.
use Rattle.std.specs.Prelude.{◌⊎◌, List, ◌++◌}
use Rattle.fabric_script.specs.declared.lines.Line.TheVariants.{Settle, Run}
use Rattle.fabric_script.specs.declared.lines.Numbered.{Numbered}
use Rattle.fabric_model.specs.Network.{link_in}
use Rattle.fabric_trace.specs.Blocks.{IsSettle, WithLink, IsBlock}
use Rattle.trace_lines.specs.Lines.{TraceLine}
use Rattle.fabric_trace.specs.Rounds.{Rounds, SettlesTo}
use Rattle.fabric_trace.specs.Runs.{OfEvent, start, RunsBy, BeginsBy}

-- the lines of an event, in which each link that settles is at rest when it has settled
abbrev pub IsBlockAtRest : OfEvent
IsBlockAtRest s (Settle port) block =
    WithLink (link_in s.network.links port) (SettlesTo IsSettle s) block
IsBlockAtRest s (Run n) block = Rounds (SettlesTo IsSettle) n s block
IsBlockAtRest s line block = IsBlock s line block

-- With some lines behind them, these are a run of such events, or the lines of the first of them.
pub record GoesAtRest (script : List Numbered) (lines : List TraceLine) : Type 0 where
  pub behind : List TraceLine
  pub rests : RunsBy IsBlockAtRest (start script) script (lines ++ behind)
      ⊎ BeginsBy IsBlockAtRest script (lines ++ behind)
