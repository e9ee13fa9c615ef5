-- In an ask without edits no event is undetected.
use Rattle.fabric_ask.proofs.Prelude.{◌≡◌, ℕ, Bool, true, false, List, [], ◌∷◌, Option, Some, None, refl, sym, ap, ◌∙◌, subst, if◌then◌else◌, PortRef, same_port, port_of, peer_in, room_out, port_is, seen, UndetectedAt, Seen, link_at, Full, TraceLine, Stepped, Lacked, Made, PartSteps, PartLacks, Take, AtNode, few_prio, Follows, NamesNothing, seen-append, IsGood, made_keeps, made_by, one_part, IsQuiet, prio_of, Passes-from_form, request_body, Request, AreQuiet, AskRounds, most_rounds, IsAsk, quiet_calm}
use Rattle.link_machine.specs.States.{LinkState, turned_round}
use Rattle.fabric_ask.proofs.Calming.{AllCalm, rounds_still}

-- ---- links at rest are calm

quiet_round : {link : LinkState} → IsQuiet link → IsQuiet (turned_round link)
quiet_round quiet = record {
  wire_a = quiet.wire_b;
  wire_b = quiet.wire_a;
  a_to_b = quiet.b_to_a;
  b_to_a = quiet.a_to_b;
}

quiet_at : (links : List (PortRef × PortRef)) (s : Seen) (a b : PortRef) → AreQuiet links s
    → peer_in links a ≡ Some b → IsQuiet (link_at s a b)
quiet_at [] s a b quiet peer = absurd cc
quiet_at (link ∷ links) s a b quiet peer =
    by_ends (same_port link.0 a) (same_port link.1 a) refl refl peer (quiet_at links s a b quiet.1)
  where
    by_ends : (x y : Bool) → same_port link.0 a ≡ x → same_port link.1 a ≡ y
        → (if x then Some link.1 else (if y then Some link.0 else peer_in links a)) ≡ Some b
        → (peer_in links a ≡ Some b → IsQuiet (link_at s a b)) → IsQuiet (link_at s a b)
    by_ends true y first second is later =
        let end : link.1 ≡ b = cc in
        let own = port_is link.0 a first in
        subst (λ p. IsQuiet (link_at s p b)) own
        (subst (λ p. IsQuiet (link_at s link.0 p)) end quiet.0)
    by_ends false true first second is later =
        let end : link.0 ≡ b = cc in
        let own = port_is link.1 a second in
        subst (λ p. IsQuiet (link_at s p b)) own
        (subst (λ p. IsQuiet (link_at s link.1 p)) end (quiet_round quiet.0))
    by_ends false false first second is later = later is

-- In an ask without edits, from a state whose links are at rest, no event is undetected.
pub ask_still : (host : ℕ) (request : Request) (s : Seen) (lines : List TraceLine) → IsGood s
    → s.undetected ≡ None → AreQuiet s.network.links s → IsAsk host request [] s lines
    → (seen s lines).undetected ≡ None
ask_still host request s lines good none quiet ask =
    ap (λ (x : Seen). x.undetected) (ap (seen s) ask.2 ∙ seen-append s first rest) ∙ behind
  where
    first : List TraceLine
    first = ask.0

    rest : List TraceLine
    rest = ask.1

    t : Seen
    t = seen s first

    calm : AllCalm s
    calm a b peer = quiet_calm (link_at s a b) (quiet_at s.network.links s a b quiet peer)

    by_room : (room : Bool) → first ≡ (if room
        then Stepped (AtNode (Take host ask.3.packet)) ∷ [] else Lacked Full ∷ [])
        → room_out s.network (port_of host) (prio_of ask.3.packet) ≡ room
        → IsGood t × ((t.undetected ≡ None) × AllCalm t)
    by_room true is room =
        let passes = Passes-from_form (request_body request) ask.3.packet ask.3.form in
        let made : Made s first = made_by is (one_part (PartSteps (Take host ask.3.packet)
        (ask.3.endpoint, passes, room) (few_prio ask.3.packet passes) refl)) in (
          (made_keeps good made).good,
          (
            ap (λ (l : List TraceLine). (seen s l).undetected) is ∙ none,
            subst (λ (l : List TraceLine). AllCalm (seen s l)) (sym is)
                (λ a b peer. let own = calm a b peer in record {
                  to_b = record { rests = own.to_b.rests; found = own.to_b.found };
                  to_a = record { rests = own.to_a.rests; found = own.to_a.found };
                }),
          ),
        )
    by_room false is room =
        let made : Made s first = made_by is (one_part (PartLacks Full refl)) in (
          (made_keeps good made).good,
          (
            ap (λ (l : List TraceLine). (seen s l).undetected) is ∙ none,
            subst (λ (l : List TraceLine). AllCalm (seen s l)) (sym is) calm,
          ),
        )

    taken : IsGood t × ((t.undetected ≡ None) × AllCalm t)
    taken = by_room (room_out s.network (port_of host) (prio_of ask.3.packet)) ask.3.lines refl

    behind : (seen t rest).undetected ≡ None
    behind = rounds_still host most_rounds t rest taken.0 taken.1.0 taken.1.1
        (subst (λ (f : Option UndetectedAt).
        Follows f (AskRounds host most_rounds [] t) NamesNothing rest)
        taken.1.0 ask.4)
