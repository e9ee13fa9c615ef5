use Rattle.link_model.specs.EventsEqual.{found_same, same_back}
use Rattle.link_model.proofs.EventLaws.{event-carried, event-too_short, event-no_packet, event-checked}
use Rattle.link_model.proofs.reading_laws.event_laws.Goals as goal

pub returns : goal.returns
returns c = record {
  same = found_same;
  back = same_back;
  carried = event-carried;
  too_short = event-too_short;
  no_packet = event-no_packet;
  checked = event-checked;
}
