use Rattle.std.proofs.Common.{ap, ◌∙◌}
use Rattle.link_wires.specs.Kept.{behind, behind_some}
use Rattle.link_wires.proofs.KeptLaws.{all_then, all-more, is_in, finds_all}
use Rattle.link_wires.proofs.laws.acted_events_are_sent_ones.Goals as goal

pub returns : goal.returns
returns c = record {
  exact = λ acted sent. (is_in acted sent, λ h. finds_all h);
  acted = λ acted sent kept e h. all_then acted sent e ∙ ap (behind_some (behind e)) h;
  sent = all-more;
}
