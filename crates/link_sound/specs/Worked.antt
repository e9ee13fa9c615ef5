-- What became of the packets in the histories that are worked through.
use Rattle.std.specs.Prelude.{ℕ, List, [], ◌∷◌, replicate}
use Rattle.link_sound.specs.Histories.{Journeys}

-- a packet of priority 0
abbrev pub worked_packet : List ℕ
worked_packet = 0x00 ∷ 0x0f ∷ 0x02 ∷ 0x01 ∷ 0xde ∷ 0xb2 ∷ 0x00 ∷ 0x00 ∷ []

-- it was put, held and freed
abbrev pub one_arrived : Journeys
one_arrived =
    record { put = worked_packet ∷ []; held = worked_packet ∷ []; freed = worked_packet ∷ [] }

-- such packets were put, held and freed
abbrev pub arrivals : ℕ → Journeys
arrivals n =
    record {
      put = replicate n worked_packet;
      held = replicate n worked_packet;
      freed = replicate n
          worked_packet;
    }
