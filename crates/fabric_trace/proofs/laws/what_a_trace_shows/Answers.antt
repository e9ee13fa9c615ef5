use Rattle.fabric_trace.proofs.Shown.Shows.{runs_shown, fronts_shown, blocks_shown}
use Rattle.fabric_trace.proofs.laws.what_a_trace_shows.Goals as goal

pub returns : goal.returns
returns c = record { all = runs_shown; front = fronts_shown; blocks = blocks_shown }
