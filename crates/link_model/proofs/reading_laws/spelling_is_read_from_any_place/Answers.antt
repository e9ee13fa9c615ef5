use Rattle.link_model.proofs.ReadingSpeltLaws.{run-symbol_anywhere, place_after-symbol_anywhere, run-packet_anywhere, place_after-packet_anywhere}
use Rattle.link_model.proofs.reading_laws.spelling_is_read_from_any_place.Goals as goal

pub returns : goal.returns
returns c = record {
  symbol = run-symbol_anywhere;
  after_symbol = place_after-symbol_anywhere;
  packet = run-packet_anywhere;
  after_packet = place_after-packet_anywhere;
}
