use Rattle.conform_lines.proofs.StimulusLaws.{stimulus_asks, stimulus_no_feed, stimulus_reads_once}
use Rattle.conform_lines.proofs.laws.a_stimulus_is_read_as_its_request.Goals as goal

pub returns-clause-reads : goal.returns-clause-reads
returns-clause-reads c = stimulus_asks

pub returns-clause-once : goal.returns-clause-once
returns-clause-once c = stimulus_reads_once

pub returns-clause-no_feed : goal.returns-clause-no_feed
returns-clause-no_feed c = stimulus_no_feed
