-- What a port becomes of events, of characters and of symbols, by the tables alone, and what it
-- answers.
use Rattle.std.specs.Prelude.{List, [], ◌∷◌, map}
use Rattle.std.specs.List.{flat_map}
use Rattle.link_model.specs.Prelude.{Char, Fields, place_after, symbol_chars_of, said}
use Rattle.link_port.specs.Prelude.{Event, Ctl, PortState, acts, replies}
pub use Rattle.link_port.specs.Answers.{IsAnswer}

-- events, one after another
unfoldable pub led : PortState → List Event → PortState
led port [] = port
led port (e ∷ es) = led (acts port e).port es

-- the port after characters, and the symbols with which it answers them
unfoldable pub port_fed : PortState → List Char → PortState
port_fed port chars =
    record (led port (said port.place chars)) { place = place_after port.place chars }

unfoldable pub port_answers : PortState → List Char → List Fields
port_answers port chars = replies port (said port.place chars)

-- symbols as characters and as events
unfoldable pub chars_of : List Fields → List Char
chars_of symbols = flat_map symbol_chars_of symbols

unfoldable pub controls : List Fields → List Event
controls symbols = map (λ symbol. Ctl symbol) symbols

-- symbols that answer: they say nothing to a receiver
unfoldable pub AreAnswers : List Fields → Type 0
AreAnswers [] = Unit {0}
AreAnswers (symbol ∷ symbols) = IsAnswer symbol × AreAnswers symbols
