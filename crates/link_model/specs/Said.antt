-- What characters say, without the places of the events.
use Rattle.std.specs.Prelude.{List, map}
use Rattle.rio_chars.specs.declared.chars.Char.{Char}
use Rattle.link_model.specs.declared.event.Event.{Event}
use Rattle.link_model.specs.Places.{Place, run}

-- the events of characters that a reader takes from where it stands
abbrev pub said : Place → List Char → List Event
said from chars = map (λ event. event.1) (run from 0 chars)
