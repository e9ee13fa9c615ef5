use Rattle.conform_lines.proofs.OnceLaws.{stimulus_once, stimulus_read}
use Rattle.conform_lines.proofs.laws.stimuli_are_read_once.Goals as goal

pub returns-clause-same : goal.returns-clause-same
returns-clause-same c = stimulus_once

pub returns-clause-none : goal.returns-clause-none
returns-clause-none c = stimulus_read
