use Rattle.link_model.proofs.PlacesLaws.{run-append, run-moved, place_after-append, reading_front}
use Rattle.link_model.proofs.reading_laws.reading_in_pieces.Goals as goal

pub returns : goal.returns
returns c = record {
  events = run-append;
  moved = run-moved;
  place = place_after-append;
  front = reading_front;
}
