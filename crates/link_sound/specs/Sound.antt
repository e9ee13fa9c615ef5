-- What is true of two ports at the ends of a link, and of what each has sent that the other has not
-- acted on.
use Rattle.std.specs.Prelude.{Option, Some, None, List, [], ◌∷◌, map}
use Rattle.rio_symbols.specs.Fields.{Fields}
use Rattle.link_port.specs.Prelude.{Event, Ctl, PortState}
use Rattle.link_sound.specs.Meanings.{forward, backward}
use Rattle.link_sound.specs.Between.{IsBetween}

-- Each direction is as it should be. `kept_a` and `kept_b` are the events that a port has sent and
-- the other has not acted on, in the order in which they were sent; they may be lost before they
-- arrive.
pub record IsSound (a b : PortState) (kept_a kept_b : List Event) : Type 0 where
  pub a_to_b : IsBetween a.output b.input a.queued (map forward kept_a) (map backward kept_b)
  pub b_to_a : IsBetween b.output a.input b.queued (map forward kept_b) (map backward kept_a)

-- a reply as an event that is sent
abbrev pub reply_sent : Option Fields → List Event
reply_sent None = []
reply_sent (Some symbol) = Ctl symbol ∷ []
