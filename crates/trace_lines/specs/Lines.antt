-- The lines of a trace over ports, and the steps that they say.
use Rattle.std.specs.Prelude.{ℕ, List, [], ◌∷◌}
use Rattle.rio_chars.specs.declared.chars.Char.{Char}
use Rattle.link_model.specs.declared.event.Event.{Event}
use Rattle.fabric_script.specs.declared.ports.PortRef.{PortRef}
use Rattle.fabric_script.specs.declared.lines.Line.{Line}
use Rattle.fabric_model.specs.Steps.{Step}

-- Why nothing could be done: no room for a packet to be sent; nothing is held; a wire has too few
-- characters; a wire of the link is not empty; no packet of a switch can go.
pub data Lack : Type 0 where
  Full : Lack
  Empty : Lack
  Short : Lack
  Early : Lack
  NoStep : Lack

-- What a port does with its link: it put characters on its wire; it took characters from its peer's
-- wire; its time-out fired.
pub data Sign : Type 0 where
  Sent : PortRef → List Char → Sign
  Got : PortRef → List Char → Sign
  Fired : PortRef → Sign

-- An event of the script begins; a step of the network; what a port did; an event that found
-- nothing to do; the trace ends; it ends with the script's line, the port and the event that the
-- port acted on and that was not sent.
pub data TraceLine : Type 0 where
  Begun : Line → TraceLine
  Stepped : Step → TraceLine
  Signed : Sign → TraceLine
  Lacked : Lack → TraceLine
  Ended : TraceLine
  Undetected : ℕ → PortRef → Event → TraceLine

-- the steps of the network that the lines say
abbrev pub steps_of : List TraceLine → List Step
steps_of [] = []
steps_of (Begun line ∷ lines) = steps_of lines
steps_of (Stepped step ∷ lines) = step ∷ steps_of lines
steps_of (Signed sign ∷ lines) = steps_of lines
steps_of (Lacked lack ∷ lines) = steps_of lines
steps_of (Ended ∷ lines) = steps_of lines
steps_of (Undetected number q e ∷ lines) = steps_of lines
