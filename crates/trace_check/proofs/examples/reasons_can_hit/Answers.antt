use Rattle.fabric_trace.specs.Examples.{packet_script, packet_trace}
use Rattle.fabric_trace.proofs.Worked.WorkedPacket.{packet_runs}
use Rattle.trace_check.proofs.Lawful.{runs_pass}
use Rattle.trace_check.proofs.Worked.{may_set_up, got_hits, fired_hits, altered_hits, altered_spares, short_spares, leaves_hits, early_hits, another_hits, twice_hits, freed_hits, freed_again_hits, sent_hits}
use Rattle.trace_check.proofs.examples.reasons_can_hit.Goals as goal

pub returns : goal.returns
returns c = record {
  passes = runs_pass packet_script packet_trace may_set_up packet_runs;
  got = got_hits;
  fired = fired_hits;
  altered = altered_hits;
  altered_last = altered_spares;
  short = short_spares;
  left = leaves_hits;
  early = early_hits;
  another = another_hits;
  twice = twice_hits;
  freed = freed_hits;
  freed_again = freed_again_hits;
  sent = sent_hits;
}
