-- What a delivery told, as the parts of its notes.
use Rattle.std.specs.Prelude.{◌≡◌, List, Option, take}
use Rattle.rio_chars.specs.declared.chars.Char.{Char}
use Rattle.link_model.specs.declared.event.Event.{Event}
use Rattle.link_wires.specs.Prelude.{Delivered, told_of, undetected, answers as answered_by}
use Rattle.link_wires.specs.declared.moves.Move.{Move}

-- The characters that a port got of those that were to be taken, its moves, the characters of its
-- answers, and the event that was not sent are those of a delivery.
pub record AreOfDelivery (d : Delivered) (chars got : List Char) (moves : List Move)
    (answers : List Char) (found : Option Event) : Type 0 where
  pub got_is : got ≡ take (told_of d).count chars
  pub moves_are : moves ≡ (told_of d).moves
  pub answers_are : answers ≡ (answered_by (told_of d).replies).chars
  pub found_is : found ≡ undetected d
