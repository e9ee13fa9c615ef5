-- What characters do in a port, one after another, and what events do.
use Rattle.std.specs.Prelude.{ℕ, option_to_list, List, [], ◌∷◌, ◌++◌}
use Rattle.link_model.specs.Prelude.{Char, Fields}
use Rattle.link_model.specs.declared.event.Event.{Event}
use Rattle.link_port.specs.Ports.{PortState}
use Rattle.link_port.specs.Steps.{Acted, acts, takes}

-- the port after them, the symbols that answer, the packets that were put into the store, and those
-- that were acknowledged
pub record Streamed : Type 0 where
  pub port : PortState
  pub replies : List Fields
  pub held : List (List ℕ)
  pub freed : List (List ℕ)

-- nothing came
abbrev pub unmoved : PortState → Streamed
unmoved port = record { port = port; replies = []; held = []; freed = [] }

-- one thing came, and then more
abbrev pub followed : Acted → Streamed → Streamed
followed first behind = record {
  port = behind.port;
  replies = option_to_list first.reply ++ behind.replies;
  held = option_to_list first.held ++ behind.held;
  freed = first.freed ++ behind.freed;
}

-- characters, one after another
unfoldable pub takes_each : PortState → List Char → Streamed
takes_each port [] = unmoved port
takes_each port (c ∷ cs) = followed (takes port c) (takes_each (takes port c).port cs)

-- events, one after another
unfoldable pub acts_each : PortState → List Event → Streamed
acts_each port [] = unmoved port
acts_each port (e ∷ es) = followed (acts port e) (acts_each (acts port e).port es)
