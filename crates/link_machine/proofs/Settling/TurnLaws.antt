-- A link with one of its ends first, and what comes of a turn of the port there.
use Rattle.link_machine.proofs.Prelude.{◌≡◌, ◌++◌, List, [], refl, sym, ap, ◌∙◌, subst, append-nil, Char, Fields, PortState, turn_sends, turns_to, Side, A, B, LinkState, from_end, pumped, IsSoundLink, port_turned, bursts, port_fed, port_answers, chars_of, Act, Pump, Reached, At, goes, OnState, Drains, TakesTurn}
use Rattle.link_machine.proofs.Machine.{pump_keeps}
use Rattle.link_machine.proofs.Settling.Lines.{goes_one}
use Rattle.link_machine.proofs.Settling.Exchanges.{Exchanged, drain_exchanges}
use Rattle.link_machine.proofs.Settling.Drains.{goes-append, AreEmpty}

-- ---- a link with one of its ends first

pub end_empty : (near : Side) (s : LinkState) → AreEmpty s → AreEmpty (from_end near s)
end_empty A s none = none
end_empty B s none = (none.1, none.0)

-- ---- a turn, and what comes of it

-- what is answered to the answers to the answers
abbrev pub third_answers : PortState → PortState → List Char → List Fields
third_answers p q cs =
    port_answers (port_fed q cs) (chars_of (port_answers p (chars_of (port_answers q cs))))

-- the ports after it, with this end first, and both wires empty
abbrev pub Over : Side → PortState → PortState → List Char → LinkState → Type 0
Over near p q cs m = Exchanged p q cs (from_end near m) × AreEmpty m

pub drain_over : (near : Side) (s : LinkState) (all : List Act) (p q : PortState) (cs : List Char)
    → IsSoundLink s
    → (from_end near s).a ≡ p → (from_end near s).b ≡ q → (from_end near s).wire_a.chars ≡ cs
    → (from_end near s).wire_b.chars ≡ [] → Drains (At s) all
    → third_answers p q cs ≡ [] → OnState (Over near p q cs) (goes (At s) all)
drain_over near s all p q cs l first second third none drains =
    let same : (((from_end near s).a, (from_end near s).b, (from_end near s).wire_a.chars)
    ≡ (p, q, cs)) =
    λ i. (first i, second i, third i) in
    subst (λ (x : PortState × PortState × List Char). third_answers x.0 x.1 x.2 ≡ []
    → OnState (Over near x.0 x.1 x.2) (goes (At s) all)) same
    (λ silent. drain_exchanges near s all l none drains silent)

turned_a : (near : Side) (s : LinkState)
    → (from_end near (pumped near 1 s)).a ≡ turns_to (from_end near s).a
unfolding port_turned
turned_a A s = refl
turned_a B s = refl

turned_b : (near : Side) (s : LinkState) → (from_end near (pumped near 1 s)).b ≡ (from_end near s).b
turned_b A s = refl
turned_b B s = refl

turned_chars : (near : Side) (s : LinkState)
    → (from_end near (pumped near 1 s)).wire_a.chars
    ≡ (from_end near s).wire_a.chars ++ ((turn_sends (from_end near s).a).chars ++ [])
unfolding bursts
turned_chars A s = refl
turned_chars B s = refl

turned_none : (near : Side) (s : LinkState)
    → (from_end near (pumped near 1 s)).wire_b.chars ≡ (from_end near s).wire_b.chars
turned_none A s = refl
turned_none B s = refl

-- A port takes a turn, and its answers have no answer to their answers: the ports after it.
pub turn_goes : (near : Side) (s : LinkState) (all : List Act) (cs : List Char) → IsSoundLink s
    → AreEmpty s → (turn_sends (from_end near s).a).chars ≡ cs
    → third_answers (turns_to (from_end near s).a) (from_end near s).b cs ≡ []
    → TakesTurn near (At s) all
    → OnState (Over near (turns_to (from_end near s).a) (from_end near s).b cs) (goes (At s) all)
turn_goes near s all cs l none sends silent (first, rest, split, pump, drains) =
    let t = from_end near s in
    let next = pumped near 1 s in
    let turn : goes (At s) first ≡ At next = ap (goes (At s)) pump ∙ goes_one s (Pump near 1) in
    let empty = end_empty near s none in
    let chars : (from_end near next).wire_a.chars ≡ cs =
    turned_chars near s
    ∙ ap (λ (xs : List Char). xs ++ ((turn_sends t.a).chars ++ [])) empty.0
    ∙ append-nil (turn_sends t.a).chars
    ∙ sends in
    let drained : Drains (At next) rest = subst (λ (r : Reached). Drains r rest) turn drains in
    subst (λ (r : Reached). OnState (Over near (turns_to t.a) t.b cs) r) (sym (ap (goes (At s))
    split ∙ goes-append first rest (At s) ∙ ap (λ (r : Reached). goes r rest) turn))
    (drain_over near next rest (turns_to t.a) t.b cs (pump_keeps near 1 s l) (turned_a near s)
    (turned_b near s) chars (turned_none near s ∙ empty.1) drained silent)
