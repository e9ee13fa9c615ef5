-- What a character completes is what its reading gives.
use Rattle.std.proofs.Common.{◌≡◌, ℕ, Bool, true, false, Option, is_some, List, [], ◌∷◌, refl, sym, ap, ◌∙◌}
use Rattle.link_model.specs.Prelude.{Char, Fields, step, telling_front}
use Rattle.link_model.specs.Places.{ReaderStep}
use Rattle.link_model.specs.Fronts.{front_by, no_front}
use Rattle.link_model.specs.declared.event.Event.{Event}
use Rattle.link_model.specs.declared.event.Event.TheVariants.{Ctl}
use Rattle.link_port.specs.declared.completed.Completed.{Completed}
use Rattle.link_port.specs.Ports.{PortState}
use Rattle.link_port.specs.Steps.{idle, acts, acts_all, acts_symbol, joined, takes}
use Rattle.link_port.specs.Runs.{front_of, after_front, completed_events}
use Rattle.link_port.proofs.ActLaws.{joined-idle}
use Rattle.port_lines.specs.Taking.{held_if}

front_by_one : (gives : List Event) (first : ReaderStep) → first.gives ≡ gives
    → (front_by gives first (no_front first.place)).step ≡ first
front_by_one [] first is =
    ap (λ (given : List Event). record { place = first.place; gives = given }) (sym is)
front_by_one (e ∷ es) first is = refl

-- the front of one character is that character
front_of_one : (port : PortState) (c : Char)
    → (front_of port (c ∷ [])).step ≡ step port.place c
unfolding telling_front
front_of_one port c = front_by_one (step port.place c).gives (step port.place c) refl

-- a character that was read, and what it completed, are what it does
pub takes_by_reading : (port mid : PortState) (c : Char) (completed : Completed) (packet : List ℕ)
    → mid ≡ after_front port (c ∷ [])
    → completed_events completed packet ≡ (front_of port (c ∷ [])).step.gives
    → acts_all mid (completed_events completed packet) ≡ takes port c
takes_by_reading port mid c completed packet at events =
    ap (λ (p : PortState). acts_all p (completed_events completed packet)) at
    ∙ ap (acts_all (after_front port (c ∷ []))) events
    ∙ ap (λ (s : ReaderStep). acts_all (record port { place = s.place }) s.gives)
    (front_of_one port c)

-- a packet is held if there is one
pub held_is_some : (held : Bool) (packet : List ℕ) (some : Option (List ℕ))
    → held_if held packet ≡ some → held ≡ is_some some
held_is_some true packet some is = ap is_some is
held_is_some false packet some is = ap is_some is

-- no event
pub acts_none : (port : PortState) → acts_all port [] ≡ idle port
unfolding acts_all
acts_none port = refl

-- one event
pub acts_one : (port : PortState) (e : Event) → acts_all port (e ∷ []) ≡ acts port e
unfolding acts_all
acts_one port e = joined-idle (acts port e)

-- an event, and the symbol behind it
pub acts_two : (port next : PortState) (e : Event) (symbol : Fields) → next ≡ (acts port e).port
    → acts_all port (e ∷ Ctl symbol ∷ []) ≡ joined (acts port e) (acts_symbol next symbol)
unfolding acts_all
acts_two port next e symbol is =
    ap (joined (acts port e)) (joined-idle (acts_symbol (acts port e).port symbol))
    ∙ ap (λ (p : PortState). joined (acts port e) (acts_symbol p symbol)) (sym is)
