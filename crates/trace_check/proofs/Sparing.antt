-- A packet that came and need not be kept, since what is kept serves without it.
use Rattle.std.proofs.Common.{suc, ◌≡◌, ◌≢◌, ◌⊎◌, ℕ, ◌+◌, ◌<◌, Bool, true, false, List, [], ◌∷◌, ◌++◌, length, take, drop, take-append-drop, Option, Some, None, IsSome, inl, inr, option_and_then, unwrap_or, refl, sym, ap, ◌∙◌, subst, arith, if◌then◌else◌}
use Rattle.std.proofs.Math.ListN.{get_or}
use Rattle.std.proofs.Math.Seq.{drop-cons}
use Rattle.link_model.specs.declared.event.Event.{Event}
use Rattle.link_model.specs.declared.event.Event.TheVariants.{Pkt}
use Rattle.link_model.specs.Events.{same_event}
use Rattle.link_model.specs.EventsEqual.{found_same, same_back}
use Rattle.trace_check.specs.Running.{behind_packet, Come, IsSpare, left_behind, NoneBefore, packet_in, ServesHolds, turn_behind}
use Rattle.trace_check.proofs.Forgetting.{ack-same, next_turn, serves-more, Covers, serves-without}

-- a packet that was held before the turn of this one is not the one before it
NotBefore-found : (ack turn : ℕ) (packet : List ℕ) (came rest : List Come) → NoneBefore ack came
    → behind_packet turn packet came ≡ Some rest
    → NoneBefore ack rest × (next_turn turn ≢ ack)
NotBefore-found ack turn packet [] rest none is = absurd cc
NotBefore-found ack turn packet (c ∷ came) rest none is =
    by_same (same_event (Pkt c.0 c.1) (Pkt turn packet)) refl
    (NotBefore-found ack turn packet came rest none.1) is
  where
    by_same : (b : Bool) → same_event (Pkt c.0 c.1) (Pkt turn packet) ≡ b
        → (behind_packet turn packet came ≡ Some rest
        → NoneBefore ack rest × (next_turn turn ≢ ack))
        → (if b then Some came else behind_packet turn packet came) ≡ Some rest
        → NoneBefore ack rest × (next_turn turn ≢ ack)
    by_same false other found is = found is
    by_same true same found is = (
      subst (NoneBefore ack) (ap (λ (o : Option (List Come)). unwrap_or o []) is) none.1,
      subst (λ n. next_turn n ≢ ack)
          (ack-same c.0 turn c.1 packet (found_same (Pkt c.0 c.1) (Pkt turn packet) same)) none.0,
    )

-- so its turn never comes
NoneBefore-ends : (ack turn : ℕ) (packets : List (List ℕ)) (came tail : List Come)
    → NoneBefore ack came → turn ≢ ack → left_behind turn packets came ≡ Some tail
    → turn_behind turn packets ≡ ack → ⊥
NoneBefore-ends ack turn [] came tail none other left has = other has
NoneBefore-ends ack turn (packet ∷ packets) came tail none other left has =
    by_found (behind_packet turn packet came) refl
    (λ rest behind next left.
    NoneBefore-ends ack (next_turn turn) packets rest tail behind next left has) left
  where
    by_found : (o : Option (List Come)) → behind_packet turn packet came ≡ o
        → ((rest : List Come) → NoneBefore ack rest → next_turn turn ≢ ack
        → left_behind (next_turn turn) packets rest ≡ Some tail → ⊥)
        → option_and_then (left_behind (next_turn turn) packets) o ≡ Some tail → ⊥
    by_found None is ends left = absurd cc
    by_found (Some rest) is ends left =
        let found = NotBefore-found ack turn packet came rest none is in
        ends rest found.0 found.1 left

-- a packet among others is found
found-among : (ack : ℕ) (packet : List ℕ) (front back : List Come)
    → IsSome (behind_packet ack packet (front ++ (ack, packet) ∷ back))
found-among ack packet [] back =
    subst (λ b. IsSome (if b then Some back else behind_packet ack packet back))
    (sym (same_back (Pkt ack packet) (Pkt ack packet) refl)) refl
found-among ack packet (c ∷ front) back =
    by_same (same_event (Pkt c.0 c.1) (Pkt ack packet)) (found-among ack packet front back)
  where
    by_same : (b : Bool) → IsSome (behind_packet ack packet (front ++ (ack, packet) ∷ back))
        → IsSome (if b then Some (front ++ (ack, packet) ∷ back)
        else behind_packet ack packet (front ++ (ack, packet) ∷ back))
    by_same true found = refl
    by_same false found = found

not_next : (ack : ℕ) → next_turn ack ≢ ack
not_next ack is = omega (arith, is)

-- what is behind a packet among others with this one: it too, or what came behind it
abbrev pub Splits : ℕ → ℕ → List ℕ → List Come → List Come → Type 0
Splits turn ack packet back rest =
    ((front : List Come) × (rest ≡ front ++ (ack, packet) ∷ back))
    ⊎ (NoneBefore ack rest × (next_turn turn ≢ ack))

splits : (turn ack : ℕ) (packet other : List ℕ) (front back rest : List Come)
    → NoneBefore ack back → behind_packet turn other (front ++ (ack, packet) ∷ back) ≡ Some rest
    → Splits turn ack packet back rest
splits turn ack packet other [] back rest none is =
    by_same (same_event (Pkt ack packet) (Pkt turn other)) refl is
  where
    by_same : (b : Bool) → same_event (Pkt ack packet) (Pkt turn other) ≡ b
        → (if b then Some back else behind_packet turn other back) ≡ Some rest
        → Splits turn ack packet back rest
    by_same false differs is = inr (NotBefore-found ack turn other back rest none is)
    by_same true same is = inr (
      subst (NoneBefore ack) (ap (λ (o : Option (List Come)). unwrap_or o []) is) none,
      subst (λ n. next_turn n ≢ ack)
          (ack-same ack turn packet other (found_same (Pkt ack packet) (Pkt turn other) same))
          (not_next ack),
    )
splits turn ack packet other (c ∷ front) back rest none is =
    by_same (same_event (Pkt c.0 c.1) (Pkt turn other))
    (splits turn ack packet other front back rest none) is
  where
    by_same : (b : Bool)
        → (behind_packet turn other (front ++ (ack, packet) ∷ back) ≡ Some rest
        → Splits turn ack packet back rest)
        → (if b then Some (front ++ (ack, packet) ∷ back)
        else behind_packet turn other (front ++ (ack, packet) ∷ back)) ≡ Some rest
        → Splits turn ack packet back rest
    by_same true found is = inl (front, sym (ap (λ (o : Option (List Come)). unwrap_or o []) is))
    by_same false found is = found is

-- the same, of one with others before it
abbrev Covered : ℕ → ℕ → List ℕ → List (List ℕ) → List Come → List Come → Type 0
Covered turn ack packet packets back tail = (before : List Come)
    → left_behind turn packets (before ++ (ack, packet) ∷ back) ≡ Some tail
    → IsSome (behind_packet ack packet tail)

covers-kept : (turn ack : ℕ) (packet : List ℕ) (front back : List Come) → NoneBefore ack back
    → Covers turn (ack, packet) (front ++ (ack, packet) ∷ back)
covers-kept turn ack packet front back none [] tail left has =
    subst (λ (o : Option (List Come)). IsSome (behind_packet ack packet (unwrap_or o []))) left
    (found-among ack packet front back)
covers-kept turn ack packet front back none (other ∷ packets) tail left has =
    by_found (behind_packet turn other (front ++ (ack, packet) ∷ back)) refl
    (λ before left. covers-kept (next_turn turn) ack packet before back none packets tail left has)
    left
  where
    by_split : (rest : List Come) → Splits turn ack packet back rest
        → Covered (next_turn turn) ack packet packets back tail
        → left_behind (next_turn turn) packets rest ≡ Some tail
        → IsSome (behind_packet ack packet tail)
    by_split rest (inl split) covered left =
        covered split.0 (ap (left_behind (next_turn turn) packets) (sym split.1) ∙ left)
    by_split rest (inr past) covered left =
        absurd (NoneBefore-ends ack (next_turn turn) packets rest tail past.0 past.1 left has)

    by_found : (o : Option (List Come))
        → behind_packet turn other (front ++ (ack, packet) ∷ back) ≡ o
        → Covered (next_turn turn) ack packet packets back tail
        → option_and_then (left_behind (next_turn turn) packets) o ≡ Some tail
        → IsSome (behind_packet ack packet tail)
    by_found None is covered left = absurd cc
    by_found (Some rest) is covered left =
        by_split rest (splits turn ack packet other front back rest none is) covered left

-- A spare packet need not be kept.
pub serves-spare : (turn ack : ℕ) (packet : List ℕ) (came kept : List Come)
    → IsSpare turn ack packet kept → ServesHolds turn came kept
    → ServesHolds turn (came ++ (ack, packet) ∷ []) kept
serves-spare turn ack packet came kept (inl split) h =
    serves-without turn came kept (ack, packet)
    (subst (Covers turn (ack, packet)) (sym split.2)
    (covers-kept turn ack packet split.0 split.1 split.3)) h
serves-spare turn ack packet came kept (inr past) h =
    serves-without turn came kept (ack, packet)
    (λ packets tail left has.
    absurd (NoneBefore-ends ack turn packets kept tail past.0 (λ same. past.1 (sym same)) left has))
    h

-- a packet that is among those that are kept, behind which none has the ackID before it
pub spare-there : (kept : List Come) (i left turn ack : ℕ) (packet : List ℕ) (c : Come)
    → i < length kept → suc i ≡ left → c ≡ get_or kept i c → c.0 ≡ ack → c.1 ≡ packet
    → NoneBefore ack (drop left kept) → IsSpare turn ack packet kept
spare-there kept i left turn ack packet c less next here ack_is packet_is none =
    let same : get_or kept i c ≡ (ack, packet) = sym here ∙ (λ j. (ack_is j, packet_is j)) in
    inl (
      take i kept,
      drop left kept,
      sym (take-append-drop i kept)
          ∙ ap (λ (l : List Come). take i kept ++ l)
          (drop-cons kept i c less
          ∙ (λ j. same j ∷ drop (next j) kept)),
      none,
    )

-- one more packet is kept
pub kept-more : (turn ack : ℕ) (packet form : List ℕ) (came kept kept' : List Come)
    (ended : Option Event) → ended ≡ Some (Pkt ack form) → packet ≡ form
    → kept' ≡ kept ++ (ack, packet) ∷ [] → ServesHolds turn came kept
    → ServesHolds turn (came ++ packet_in ended) kept'
kept-more turn ack packet form came kept kept' ended ends same more h =
    subst (λ (e : Option Event). ServesHolds turn (came ++ packet_in e) kept') (sym ends)
    (subst (λ p. ServesHolds turn (came ++ (ack, p) ∷ []) kept') same
    (subst (ServesHolds turn (came ++ (ack, packet) ∷ [])) (sym more)
    (serves-more turn came kept (ack, packet) h)))

-- or it is spare
pub kept-spare : (turn ack : ℕ) (packet form : List ℕ) (came kept : List Come)
    (ended : Option Event) → ended ≡ Some (Pkt ack form) → packet ≡ form
    → IsSpare turn ack packet kept → ServesHolds turn came kept
    → ServesHolds turn (came ++ packet_in ended) kept
kept-spare turn ack packet form came kept ended ends same spare h =
    subst (λ (e : Option Event). ServesHolds turn (came ++ packet_in e) kept) (sym ends)
    (subst (λ p. ServesHolds turn (came ++ (ack, p) ∷ []) kept) same
    (serves-spare turn ack packet came kept spare h))
