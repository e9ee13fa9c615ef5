-- What calls of an outbox tell, one after the other.
use Rattle.std.proofs.Common.{◌≡◌, ℕ, List, [], ◌∷◌, ◌++◌, Option, None, Some, IsSome, refl, sym, ap, subst, append-nil, append_assoc}
use Rattle.std.specs.Prelude.{codes}
use Rattle.std.specs.List.{flat_map}
use Rattle.rio_chars.specs.Written.{Outgoing, Writes}
use Rattle.rio_chars.proofs.WrittenLaws.{Writes-then}
use Rattle.rio_symbols.specs.Fields.{Fields}
use Rattle.link_model.specs.declared.event.Event.{Event}
use Rattle.link_model.specs.declared.event.Event.TheVariants.{Ctl, Pkt, Bad}
use Rattle.link_model.specs.Reading.{placed}
use Rattle.rio_framer.specs.Framing.{ended_of}
use Rattle.rio_framer.specs.Giving.{listed, told_of_events}
use Rattle.rio_framer.specs.declared.events.Told.TheVariants as told
use Rattle.rio_cli.specs.Decoding.{placed_text}

regrouped : (a b c d e : List ℕ)
    → a ++ (32 ∷ b) ++ ((32 ∷ c) ++ (32 ∷ d) ++ (32 ∷ e) ++ (10 ∷ []))
    ≡ a ++ (32 ∷ []) ++ b ++ (32 ∷ []) ++ c ++ (32 ∷ []) ++ d ++ (32 ∷ []) ++ e ++ (10 ∷ [])
regrouped a b c d e = simp append_assoc

-- the fields of a symbol, as they are told and as they stand in a trace
pub fields-regrouped : (a b c d e : List ℕ)
    → codes " symbol" ++ (codes " " ++ a ++ (codes " " ++ b))
    ++ (codes " " ++ c ++ (codes " " ++ d) ++ (codes " " ++ e) ++ codes "\n")
    ≡ codes " " ++ (codes "symbol " ++ a ++ codes " " ++ b ++ codes " " ++ c ++ codes " " ++ d
    ++ codes " " ++ e) ++ codes "\n"
fields-regrouped a b c d e = ap (λ l. codes " symbol " ++ l) (regrouped a b c d e)

-- the lines of the first event and of the second
pub listed-parts : (n : ℕ) (first : Option Event) (second : Option Fields)
    → flat_map placed_text (placed n (listed first None))
    ++ flat_map placed_text (placed n (listed None second))
    ≡ flat_map placed_text (placed n (listed first second))
listed-parts n None None = refl
listed-parts n None (Some s) = refl
listed-parts n (Some e) None = append-nil (placed_text (n, e) ++ [])
listed-parts n (Some e) (Some s) =
    ap (λ text. text ++ (placed_text (n, Ctl s) ++ [])) (append-nil (placed_text (n, e)))

pub Writes-both : {a b c : Outgoing}
    (n : ℕ) (first : Option Event) (second : Option Fields)
    → Writes a b (flat_map placed_text (placed n (listed first None)))
    → Writes b c (flat_map placed_text (placed n (listed None second)))
    → Writes a c (flat_map placed_text (placed n (listed first second)))
Writes-both {a} {b} {c} n first second h k =
    subst (Writes a c) (listed-parts n first second) (Writes-then
    (flat_map placed_text (placed n (listed first None)))
    (flat_map placed_text (placed n (listed None second))) h k)

-- the line of one event
pub Writes-event : {a b : Outgoing}
    (n : ℕ) (event : Event)
    → Writes a b (placed_text (n, event))
    → Writes a b (flat_map placed_text (placed n (event ∷ [])))
Writes-event {a} {b} n event h =
    subst (Writes a b) (sym (append-nil (placed_text (n, event)))) h

-- that of the one that ended
pub Writes-ended : {a b : Outgoing}
    (n : ℕ) (ended : Option Event) (event : Event) → ended ≡ Some event
    → Writes a b (placed_text (n, event))
    → Writes a b (flat_map placed_text (placed n (listed ended None)))
Writes-ended {a} {b} n ended event is h = rw is (Writes-event n event h)

-- where a symbol is told that ended a packet, the packet is there
pub ended-there : (es : List Event) (symbol : Fields) → told_of_events es ≡ told.Ends symbol
    → IsSome (ended_of es)
ended-there [] symbol e = cc
ended-there (Ctl s ∷ []) symbol e = cc
ended-there (Pkt ack packet ∷ []) symbol e = cc
ended-there (Bad cause ∷ []) symbol e = cc
ended-there (x ∷ y ∷ es) symbol e = refl
