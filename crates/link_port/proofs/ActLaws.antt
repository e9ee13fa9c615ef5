-- The events of one character, done one after another.
use Rattle.std.proofs.Common.{◌≡◌, ℕ, Option, Some, None, List, [], IfSome, refl, sym, ap, ◌∙◌, subst, if◌then◌else◌, nat_lt, length}
use Rattle.std.specs.Option.{option_or}
use Rattle.std.proofs.lemmas.List.{append-nil}
use Rattle.link_model.specs.Prelude.{Fields, carried, Cause, BadPacket, General}
use Rattle.link_model.specs.declared.event.Event.{Event}
use Rattle.link_model.specs.Events.{packet_event, packet_or_cause}
use Rattle.rio_framer.specs.Giving.{listed, IsPaired}
use Rattle.link_port.specs.Ports.{PortState}
use Rattle.link_port.specs.Steps.{Acted, idle, acts, acts_all, acts_symbol, joined, first_acted}
use Rattle.link_port.specs.Acts.{acts_first, acts_second, is_first_acted}

option_or-none : {A : Type 0} (o : Option A) → option_or o None ≡ o
option_or-none None = refl
option_or-none (Some x) = refl

pub joined-idle : (a : Acted) → joined a (idle a.port) ≡ a
joined-idle a = λ i. record {
  port = a.port;
  reply = option_or-none a.reply i;
  held = option_or-none a.held i;
  freed = append-nil a.freed i;
}

-- a first event, and a second where there is one
pub all_is :
    (port next : PortState) (first : Option Event) (second : Option Fields) → IsPaired first second
    → next ≡ (acts_first port first).port
    → joined (acts_first port first) (acts_second next second) ≡ acts_all port (listed first second)
unfolding acts_all
all_is port next first second paired is =
    ap (λ p. joined (acts_first port first) (acts_second p second)) is ∙ in_turn first second paired
  where
    in_turn : (e : Option Event) (s : Option Fields) → IsPaired e s
        → joined (acts_first port e) (acts_second (acts_first port e).port s)
        ≡ acts_all port (listed e s)
    in_turn None None pair = refl
    in_turn None (Some s) pair = absurd pair
    in_turn (Some e) None pair = refl
    in_turn (Some e) (Some s) pair =
        sym (ap (joined (acts port e)) (joined-idle (acts_symbol (acts port e).port s)))

-- the second event is no packet
pub second_holds_none : (next : PortState) (second : Option Fields) (held : Option (List ℕ))
    → option_or held (acts_second next second).held ≡ held
second_holds_none next None held = option_or-none held
second_holds_none next (Some s) held = option_or-none held

found_frees_none : (port : PortState) (found : Option (ℕ × List ℕ)) (cause : Cause)
    → (acts port (packet_or_cause found cause)).freed ≡ []
found_frees_none port (Some found) cause = refl
found_frees_none port None cause = refl

packet_frees_none : (port : PortState) (bytes : List ℕ)
    → (acts port (packet_event bytes)).freed ≡ []
unfolding packet_event
packet_frees_none port bytes =
    found_frees_none port (carried bytes) (if nat_lt (length bytes) 8 then General else BadPacket)

-- where there is a second event, the first has acknowledged no packet
pub first_frees_none :
    (port : PortState) (first : Option Event) (second : Option Fields) (freed : List (List ℕ))
    → IsPaired first second
    → freed ≡ (acts_first port first).freed → IfSome second (λ _. freed ≡ [])
first_frees_none port first None freed paired is = tt
first_frees_none port None (Some s) freed paired is = absurd paired
first_frees_none port (Some e) (Some s) freed paired is =
    is
    ∙ subst (λ (x : Event). (acts port x).freed ≡ []) (sym paired.0.1)
    (packet_frees_none port paired.0.0)

pub first_acted_is : (port : PortState) (first : Option Event) (second : Option Fields)
    → IsPaired first second → is_first_acted port first ≡ first_acted port (listed first second)
first_acted_is port None None paired = refl
first_acted_is port None (Some s) paired = absurd paired
first_acted_is port (Some e) None paired = refl
first_acted_is port (Some e) (Some s) paired = refl
