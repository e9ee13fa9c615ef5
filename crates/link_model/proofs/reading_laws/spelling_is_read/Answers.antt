use Rattle.link_model.proofs.ReadingSpeltLaws.{run-symbol, place_after-symbol, run-packet, place_after-packet}
use Rattle.link_model.proofs.reading_laws.spelling_is_read.Goals as goal

pub returns : goal.returns
returns c = record {
  symbol = run-symbol;
  after_symbol = place_after-symbol;
  packet = run-packet;
  after_packet = place_after-packet;
}
