-- A drain where one wire alone has characters.
use Rattle.link_machine.proofs.Prelude.{◌≡◌, ◌++◌, Bool, false, List, [], refl, sym, ap, ◌∙◌, subst, if◌then◌else◌, Char, PortState, other_side, Side, A, B, LinkState, turned_round, from_end, IsSoundLink, port_fed, port_answers, chars_of, Act, Reached, At, FoundAt, goes, OnState, all_chars, is_busy, Drains}
use Rattle.link_machine.proofs.Machine.{round_keeps}
use Rattle.link_machine.proofs.Settling.Lines.{Takes, emptied, emptied_takes}
use Rattle.link_machine.proofs.Settling.Drains.{on_state, then_emptied, rounds, idle_stays, AreEmpty, empty_has, empty_is_idle, drain_is}

-- ---- a drain where one wire alone has characters

-- three deliveries, the first from this end's wire
abbrev pub three : Side → Reached → Reached
three near r = emptied near (emptied (other_side near) (emptied near r))

-- What comes to the port at the other end, what it answers to the port at this end, what that
-- answers, and what is answered to that: the ports after it.
pub record Exchanged (p q : PortState) (chars : List Char) (m : LinkState) : Type 0 where
  pub sound : IsSoundLink m
  pub a : m.a ≡ port_fed p (chars_of (port_answers q chars))
  pub b : m.b
      ≡ port_fed (port_fed q chars) (chars_of (port_answers p (chars_of (port_answers q chars))))
  pub wire_a : m.wire_a.chars ≡ []
  pub wire_b : m.wire_b.chars
      ≡ chars_of
      (port_answers (port_fed q chars)
      (chars_of (port_answers p (chars_of (port_answers q chars)))))

three_takes : (s one two m : LinkState) → s.wire_b.chars ≡ []
    → Takes (turned_round s) (turned_round one) → Takes one two
    → Takes (turned_round two) (turned_round m) → Exchanged s.a s.b s.wire_a.chars m
three_takes s one two m none first second third =
    let first_answers : one.wire_b.chars ≡ chars_of (port_answers s.b s.wire_a.chars) =
    first.wire_a ∙ ap (λ (cs : List Char). cs ++ chars_of (port_answers s.b s.wire_a.chars)) none in
    let near : two.a ≡ port_fed s.a (chars_of (port_answers s.b s.wire_a.chars)) =
    second.a ∙ (λ i. port_fed (first.b i) (first_answers i)) in
    let second_answers : two.wire_a.chars
    ≡ chars_of (port_answers s.a (chars_of (port_answers s.b s.wire_a.chars))) =
    second.wire_a
    ∙ ap (λ (cs : List Char). cs ++ chars_of (port_answers one.a one.wire_b.chars)) first.wire_b
    ∙ (λ i. chars_of (port_answers (first.b i) (first_answers i))) in
    let far : two.b ≡ port_fed s.b s.wire_a.chars = second.b ∙ first.a in
    record {
      sound = round_keeps (turned_round m) third.sound;
      a = third.b ∙ near;
      b = third.a ∙ (λ i. port_fed (far i) (second_answers i));
      wire_a = third.wire_b;
      wire_b =
          third.wire_a
          ∙ ap (λ (cs : List Char). cs ++ chars_of (port_answers two.b two.wire_a.chars))
          second.wire_b
          ∙ (λ i. chars_of (port_answers (far i) (second_answers i)));
    }

three_from_a : (s : LinkState) → IsSoundLink s → s.wire_b.chars ≡ []
    → OnState (Exchanged s.a s.b s.wire_a.chars) (three A (At s))
three_from_a s l none =
    then_emptied (Exchanged s.a s.b s.wire_a.chars) A (emptied B (emptied A (At s)))
    (λ (two : LinkState) (h : IsSoundLink two
    × ((one : LinkState) × Takes (turned_round s) (turned_round one) × Takes one two)).
    on_state (emptied A (At two)) (λ m t. three_takes s h.1.0 two m none h.1.1 h.1.2 t)
    (emptied_takes A two h.0))
    (then_emptied (λ two. IsSoundLink two
    × ((one : LinkState) × Takes (turned_round s) (turned_round one) × Takes one two)) B
    (emptied A (At s))
    (λ (one : LinkState) (h : Takes (turned_round s) (turned_round one)).
    on_state (emptied B (At one)) (λ two t. (t.sound, (one, h, t)))
    (emptied_takes B one (round_keeps (turned_round one) h.sound)))
    (on_state (emptied A (At s)) (λ m t. t) (emptied_takes A s l)))

three_from_b : (s : LinkState) → IsSoundLink s → s.wire_a.chars ≡ []
    → OnState (λ m. Exchanged s.b s.a s.wire_b.chars (turned_round m)) (three B (At s))
three_from_b s l none =
    then_emptied (λ m. Exchanged s.b s.a s.wire_b.chars (turned_round m)) B
    (emptied A (emptied B (At s)))
    (λ (two : LinkState) (h : IsSoundLink two
    × ((one : LinkState) × Takes s one × Takes (turned_round one) (turned_round two))).
    on_state (emptied B (At two)) (λ m t. three_takes (turned_round s) (turned_round h.1.0)
    (turned_round two) (turned_round m) none h.1.1 h.1.2 t) (emptied_takes B two h.0))
    (then_emptied (λ two. IsSoundLink two
    × ((one : LinkState) × Takes s one × Takes (turned_round one) (turned_round two))) A
    (emptied B (At s))
    (λ (one : LinkState) (h : Takes s one).
    on_state (emptied A (At one)) (λ two t. (round_keeps (turned_round two) t.sound, (one, h, t)))
    (emptied_takes A one h.sound))
    (on_state (emptied B (At s)) (λ m t. t) (emptied_takes B s l)))

-- the same, with this end first
pub three_from : (near : Side) (s : LinkState) → IsSoundLink s → (from_end near s).wire_b.chars ≡ []
    → OnState (λ m. Exchanged (from_end near s).a (from_end near s).b (from_end near s).wire_a.chars
    (from_end near m)) (three near (At s))
three_from A s l none = three_from_a s l none
three_from B s l none = three_from_b s l none

-- where the third delivery is answered by nothing, the drain is these three
three_end : (near : Side) (s : LinkState) → (from_end near s).wire_b.chars ≡ []
    → is_busy (three near (At s)) ≡ false → rounds 3 (At s) ≡ three near (At s)
unfolding rounds
three_end A s none idle =
    let stays = idle_stays (three A (At s)) idle in
    ap (λ (r : Reached). emptied B (emptied A r)) stays.1
    ∙ ap (emptied B) stays.0
    ∙ stays.1
three_end B s none idle =
    let stays = idle_stays (three B (At s)) idle in
    let first : emptied A (At s) ≡ At s =
    ap (λ (b : Bool). if b then goes (At s) (all_chars A (At s)) else At s)
    (empty_has s.wire_a.chars none) in
    ap (λ (r : Reached). emptied B (emptied A (emptied B (emptied A (emptied B r))))) first
    ∙ ap (emptied B) stays.0
    ∙ stays.1

-- What a drain comes to, where the port at the other end has sent nothing and the third delivery is
-- answered by nothing.
pub drain_exchanges : (near : Side) (s : LinkState) (all : List Act) → IsSoundLink s
    → (from_end near s).wire_b.chars ≡ [] → Drains (At s) all
    → (let p = (from_end near s).a in let q = (from_end near s).b in
    let cs = (from_end near s).wire_a.chars in
    port_answers (port_fed q cs) (chars_of (port_answers p (chars_of (port_answers q cs)))) ≡ [])
    → OnState (λ m. Exchanged (from_end near s).a (from_end near s).b (from_end near s).wire_a.chars
    (from_end near m) × AreEmpty m) (goes (At s) all)
unfolding chars_of
drain_exchanges near s all l none drains silent =
    let p =
    (from_end near s).a in let q = (from_end near s).b in
    let cs = (from_end near s).wire_a.chars in
    let h = three_from near s l none in
    let ends = three_end near s none (idle_after near p q cs silent (three near (At s)) h) in
    subst (λ (r : Reached). OnState (λ m. Exchanged p q cs (from_end near m) × AreEmpty m) r)
    (sym (drain_is s all l drains ∙ ends))
    (on_state (three near (At s)) (λ m x. (x, empty_after near p q cs silent m x)) h)
  where
    empty_after : (near : Side) (p q : PortState) (cs : List Char)
        → port_answers (port_fed q cs) (chars_of (port_answers p (chars_of (port_answers q cs))))
        ≡ []
        → (m : LinkState) → Exchanged p q cs (from_end near m) → AreEmpty m
    empty_after A p q cs silent m x = (x.wire_a, x.wire_b ∙ ap chars_of silent)
    empty_after B p q cs silent m x = (x.wire_b ∙ ap chars_of silent, x.wire_a)

    idle_after : (near : Side) (p q : PortState) (cs : List Char)
        → port_answers (port_fed q cs) (chars_of (port_answers p (chars_of (port_answers q cs))))
        ≡ []
        → (r : Reached) → OnState (λ m. Exchanged p q cs (from_end near m)) r → is_busy r ≡ false
    idle_after near p q cs silent (At m) x = empty_is_idle m (empty_after near p q cs silent m x)
    idle_after near p q cs silent (FoundAt side e) x = refl
