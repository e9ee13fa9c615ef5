-- A link whose second port tells its free buffers, and whose first was told of them in time.
use Rattle.std.specs.Prelude.{◌≢◌, List, All}
use Rattle.link_model.specs.Prelude.{Fields, PACKET_RETRY}
use Rattle.link_sound.specs.Credits.{FindsRoom, HasTold}
use Rattle.link_sound.specs.Histories.{Link, no_journeys}
use Rattle.link_machine.specs.States.{LinkState}

-- the two ports, and what each has sent and the other has not acted on
abbrev pub ends_of_link : LinkState → Link
ends_of_link s = record {
  a = s.a;
  b = s.b;
  kept_a = s.wire_a.kept;
  kept_b = s.wire_b.kept;
  of_a = no_journeys;
  of_b = no_journeys;
}

-- What the second port told is true, and the packets of the first on their way find room there.
abbrev pub RoomAhead : LinkState → Type 0
RoomAhead s = FindsRoom s.a s.b s.wire_a.kept s.wire_b.kept

-- what the second port told is true
abbrev pub TellsTruly : LinkState → Type 0
TellsTruly s = HasTold s.a s.b s.wire_b.kept

-- none of the symbols asks for a packet again
abbrev pub NoRetries : List Fields → Type 0
NoRetries symbols = All (λ (symbol : Fields). symbol.s0 ≢ PACKET_RETRY) symbols
