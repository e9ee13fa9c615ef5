-- The one packet of a network over the steps of a link.
use Rattle.fabric_ask.proofs.Prelude.{◌≡◌, ℕ, ◌==◌, ◌&&◌, Bool, true, false, List, [], ◌∷◌, ◌++◌, Option, Some, refl, sym, ap, ◌∙◌, subst, if◌then◌else◌, eq-eqb, and_parts, and_from, prio_of, PortRef, Item, Network, same_port, peer_in, first_packet, Hold, Free, Linked, AtNode, ByDevice, Step, Needs, after, after_hold, behind_first, only_first, LegalFrom, port_is, same_port-refl, Held, Waits, waits_at, alone, IsOnly, IsLent, is_end, AreAt, Carried, Stays, Lends, Crosses, IsSame}

-- what is first where the item is alone
pub first_alone : (b : Bool) (item : Item) (packet : List ℕ)
    → first_packet (alone b item) ≡ Some packet → (b ≡ true) × (item.now ≡ packet)
first_alone true item packet is = (refl, cc)
first_alone false item packet is = absurd cc

pub first_in : (items : List Item) (b : Bool) (item : Item) (packet : List ℕ) → items ≡ alone b item
    → first_packet items ≡ Some packet → (b ≡ true) × (item.now ≡ packet)
first_in items b item packet same is = first_alone b item packet (ap first_packet (sym same) ∙ is)

pub none_first : (items : List Item) (packet : List ℕ) → items ≡ []
    → first_packet items ≡ Some packet → ⊥
none_first items packet none is = absurd (cc (none, is))

-- one list, of those that a test tells apart
pub chosen : (b : Bool) (x y : List Item) (item : Item) → x ≡ alone true item → y ≡ alone false item
    → (if b then x else y) ≡ alone b item
chosen true x y item own other = own
chosen false x y item own other = other

-- one list that is empty, of those that a test tells apart
pub gone : (b : Bool) (x y : List Item) → x ≡ [] → (b ≡ false → y ≡ []) → (if b then x else y) ≡ []
gone true x y own other = own
gone false x y own other = other refl

pub and_refl : (q : PortRef) (r : ℕ) → (same_port q q && (r == r)) ≡ true
and_refl q r = and_from (same_port q q) (r == r) (same_port-refl q) (eq-eqb r r refl)

-- ---- a hold

-- the port to which it may go, and as which packet
holds_there : (net : Network) (p c : PortRef) (item : Item) (packet : List ℕ)
    → IsOnly net (Waits p) item → Needs net (Linked (Hold c packet))
    → (peer_in net.links c ≡ Some p) × (packet ≡ item.now)
holds_there net p c item packet only needs =
    let there = first_in (net.waiting needs.0 (prio_of packet))
    (waits_at (Waits p) needs.0 && (prio_of packet == prio_of item.now)) item packet
    (only.waiting needs.0 (prio_of packet)) needs.2 in
    let parts = and_parts (same_port needs.0 p) (prio_of packet == prio_of item.now) there.0 in
    let same = port_is needs.0 p parts.0 in
    (subst (λ x. peer_in net.links c ≡ Some x) same needs.1, sym there.1)

held_lent : (net : Network) (p q : PortRef) (item : Item) → IsOnly net (Waits p) item
    → peer_in net.links q ≡ Some p → IsLent (after net (Linked (Hold q item.now))) p q item
held_lent net p q item only peer =
    subst (λ o. IsLent (after_hold net q o (prio_of item.now)) p q item) (sym peer) own
  where
    r : ℕ
    r = prio_of item.now

    waits : net.waiting p (prio_of item.now) ≡ item ∷ []
    waits = only.waiting p (prio_of item.now)
        ∙ ap (λ b. alone b item) (and_refl p (prio_of item.now))

    behind_is : behind_first (net.waiting p (prio_of item.now)) ≡ []
    behind_is = ap behind_first waits

    first_is : only_first (net.waiting p (prio_of item.now)) ≡ item ∷ []
    first_is = ap only_first waits

    joined : (xs ys : List Item) → xs ≡ [] → ys ≡ item ∷ [] → xs ++ ys ≡ item ∷ []
    joined xs ys first second = λ i. first i ++ second i

    own : IsLent (after_hold net q (Some p) (prio_of item.now)) p q item
    own = record {
      received = λ c s. chosen (same_port c q && (s == prio_of item.now)) _ _ item
          (joined (net.received q (prio_of item.now)) _ (only.received q (prio_of item.now))
          first_is) (only.received c s);
      waiting = λ c s. gone (same_port c p && (s == prio_of item.now)) _ _ behind_is
          (λ other. only.waiting c s ∙ ap (λ b. alone b item) other);
      lent = λ c. chosen (same_port c p) _ _ item (joined (net.lent p) _ (only.lent p) first_is)
          (only.lent c);
    }

-- ---- a free

frees_there : (net : Network) (p q c : PortRef) (item : Item) (packet : List ℕ)
    → IsLent net p q item → Needs net (Linked (Free c packet)) → (c ≡ p) × (packet ≡ item.now)
frees_there net p q c item packet lent needs =
    let there = first_in (net.lent c) (same_port c p) item packet (lent.lent c) needs in
    (port_is c p there.0, sym there.1)

freed_only : (net : Network) (p q : PortRef) (item : Item) (packet : List ℕ) → IsLent net p q item
    → IsOnly (after net (Linked (Free p packet))) (Held q) item
freed_only net p q item packet lent = record {
  received = lent.received;
  waiting = lent.waiting;
  lent = λ c. gone (same_port c p) _ _
      (ap behind_first (lent.lent p ∙ ap (λ b. alone b item) (same_port-refl p)))
      (λ other. lent.lent c ∙ ap (λ b. alone b item) other);
}

-- ---- the steps of a link

-- nothing waits and nothing is lent: nothing is carried
pub none_carried : (a b : PortRef) (net end : Network) (steps : List Step)
    → ((c : PortRef) (r : ℕ) → net.waiting c r ≡ []) → ((c : PortRef) → net.lent c ≡ [])
    → AreAt a b steps → LegalFrom net steps end → end ≡ net
none_carried a b net end [] waiting lent at legal = legal
none_carried a b net end (Linked (Hold c packet) ∷ steps) waiting lent at legal =
    absurd (none_first _ packet (waiting legal.0.0 (prio_of packet)) legal.0.2)
none_carried a b net end (Linked (Free c packet) ∷ steps) waiting lent at legal =
    absurd (none_first _ packet (lent c) legal.0)
none_carried a b net end (_ ∷ steps) waiting lent at legal = absurd at

lends_on : (a b : PortRef) (start net end : Network) (steps : List Step) (p q : PortRef)
    (item : Item) → is_end a b q ≡ true → peer_in start.links q ≡ Some p → IsLent net p q item
    → AreAt a b steps → LegalFrom net steps end → Carried a b start p item end
lends_on a b start net end [] p q item own peer lent at legal =
    Lends q own peer (subst (λ n. IsLent n p q item) (sym legal) lent)
lends_on a b start net end (Linked (Hold c packet) ∷ steps) p q item own peer lent at legal =
    absurd (none_first _ packet (lent.waiting legal.0.0 (prio_of packet)) legal.0.2)
lends_on a b start net end (Linked (Free c packet) ∷ steps) p q item own peer lent at legal =
    let there = frees_there net p q c item packet lent legal.0 in
    let only = freed_only net p q item packet lent in
    let next = after net (Linked (Free p packet)) in
    let rest : LegalFrom next steps end =
    subst (λ x. LegalFrom (after net (Linked (Free x packet))) steps end) there.0 legal.1 in
    let same = none_carried a b next end steps only.waiting only.lent at.1 rest in
    Crosses q own peer (subst (λ n. IsOnly n (Held q) item) (sym same) only)
lends_on a b start net end (AtNode step ∷ steps) p q item own peer lent at legal = absurd at
lends_on a b start net end (ByDevice step ∷ steps) p q item own peer lent at legal = absurd at

pub carries : (a b : PortRef) (net end : Network) (steps : List Step) (p : PortRef) (item : Item)
    → IsOnly net (Waits p) item → AreAt a b steps → LegalFrom net steps end
    → Carried a b net p item end
carries a b net end [] p item only at legal = Stays legal
carries a b net end (Linked (Hold c packet) ∷ steps) p item only at legal =
    let there = holds_there net p c item packet only legal.0 in
    let next = after net (Linked (Hold c item.now)) in
    let rest : LegalFrom next steps end =
    subst (λ x. LegalFrom (after net (Linked (Hold c x))) steps end) there.1 legal.1 in
    lends_on a b net next end steps p c item at.0 there.0 (held_lent net p c item only there.0) at.1
    rest
carries a b net end (Linked (Free c packet) ∷ steps) p item only at legal =
    absurd (none_first _ packet (only.lent c) legal.0)
carries a b net end (_ ∷ steps) p item only at legal = absurd at

-- the steps of a link change no registers
pub at_same : (a b : PortRef) (net end : Network) (steps : List Step) → AreAt a b steps
    → LegalFrom net steps end → IsSame net end
at_same a b net end [] at legal = subst (IsSame net) (sym legal)
    (record { registers = refl; given = refl })
at_same a b net end (Linked (Hold c packet) ∷ steps) at legal =
    let rest = at_same a b (after net (Linked (Hold c packet))) end steps at.1 legal.1 in
    let peer = legal.0.1 in
    record {
      registers = rest.registers ∙ ap (λ (o : Option PortRef).
          (after_hold net c o (prio_of packet)).registers) peer;
      given = rest.given ∙ ap (λ (o : Option PortRef). (after_hold net c o (prio_of packet)).given)
          peer;
    }
at_same a b net end (Linked (Free c packet) ∷ steps) at legal =
    let rest = at_same a b (after net (Linked (Free c packet))) end steps at.1 legal.1 in
    record { registers = rest.registers; given = rest.given }
at_same a b net end (_ ∷ steps) at legal = absurd at
