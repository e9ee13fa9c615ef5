-- What is kept of the packets that came serves as all of them do.
use Rattle.std.proofs.Common.{◌↔◌, IsTrue, ◌≡◌, ℕ, ◌+◌, ◌%◌, ◌==◌, ◌&&◌, nat_eq, Bool, true, false, List, [], ◌∷◌, ◌++◌, Option, Some, None, IsSome, find, option_and_then, option_map, unwrap_or, refl, sym, ap, ◌∙◌, subst, arith, if◌then◌else◌}
use Rattle.std.specs.Cmp.Lexicographic.{pointwise}
use Rattle.std.proofs.lemmas.Bool.{eqb-true}
use Rattle.link_model.specs.declared.event.Event.{Event}
use Rattle.link_model.specs.declared.event.Event.TheVariants.{Ctl, Pkt, Bad}
use Rattle.link_model.specs.Events.{same_event}
use Rattle.link_model.specs.EventsEqual.{found_same}
use Rattle.trace_check.specs.declared.hearing.Hearing.{Hearing}
use Rattle.trace_check.specs.Running.{LeavesAlike, behind_packet, Come, first_with, holds_one, KeepsRun, left_behind, MayHold, PortRun, ServesHolds, turn_behind}

abbrev pub next_turn : ℕ → ℕ
next_turn turn = (turn + 1) % 32

abbrev ack_in : Event → ℕ
ack_in (Ctl symbol) = 0
ack_in (Pkt ack packet) = ack
ack_in (Bad cause) = 0

abbrev bytes_in : Event → List ℕ
bytes_in (Ctl symbol) = []
bytes_in (Pkt ack packet) = packet
bytes_in (Bad cause) = []

pub ack-same : (a b : ℕ) (p q : List ℕ) → Pkt a p ≡ Pkt b q → a ≡ b
ack-same a b p q same = ap ack_in same

bytes-same : (a b : ℕ) (p q : List ℕ) → Pkt a p ≡ Pkt b q → p ≡ q
bytes-same a b p q same = ap bytes_in same

-- ---- one packet, with others behind

-- what is behind it is longer by them
behind-found : (turn : ℕ) (packet : List ℕ) (came more rest : List Come)
    → behind_packet turn packet came ≡ Some rest
    → behind_packet turn packet (came ++ more) ≡ Some (rest ++ more)
behind-found turn packet [] more rest is = absurd cc
behind-found turn packet (c ∷ came) more rest is =
    by_same (same_event (Pkt c.0 c.1) (Pkt turn packet))
    (behind-found turn packet came more rest) is
  where
    by_same : (b : Bool)
        → (behind_packet turn packet came ≡ Some rest
        → behind_packet turn packet (came ++ more) ≡ Some (rest ++ more))
        → (if b then Some came else behind_packet turn packet came) ≡ Some rest
        → (if b then Some (came ++ more) else behind_packet turn packet (came ++ more))
        ≡ Some (rest ++ more)
    by_same true found is = ap (λ (o : Option (List Come)). Some (unwrap_or o [] ++ more)) is
    by_same false found is = found is

-- or it is sought among them
behind-more : (turn : ℕ) (packet : List ℕ) (came more : List Come)
    → behind_packet turn packet came ≡ None
    → behind_packet turn packet (came ++ more) ≡ behind_packet turn packet more
behind-more turn packet [] more is = refl
behind-more turn packet (c ∷ came) more is =
    by_same (same_event (Pkt c.0 c.1) (Pkt turn packet)) (behind-more turn packet came more) is
  where
    by_same : (b : Bool)
        → (behind_packet turn packet came ≡ None
        → behind_packet turn packet (came ++ more) ≡ behind_packet turn packet more)
        → (if b then Some came else behind_packet turn packet came) ≡ None
        → (if b then Some (came ++ more) else behind_packet turn packet (came ++ more))
        ≡ behind_packet turn packet more
    by_same true found is = absurd cc
    by_same false found is = found is

-- the first one with an ackID stays the first
first-found : (turn : ℕ) (came more : List Come) (packet : List ℕ)
    → first_with turn came ≡ Some packet → first_with turn (came ++ more) ≡ Some packet
first-found turn [] more packet is = absurd cc
first-found turn (c ∷ came) more packet is =
    by_same (c.0 == turn) (first-found turn came more packet) is
  where
    by_same : (b : Bool)
        → (first_with turn came ≡ Some packet → first_with turn (came ++ more) ≡ Some packet)
        → option_map (λ (x : Come). x.1) (if b then Some c else find (λ x. x.0 == turn) came)
        ≡ Some packet
        → option_map (λ (x : Come). x.1)
        (if b then Some c else find (λ x. x.0 == turn) (came ++ more)) ≡ Some packet
    by_same true found is = is
    by_same false found is = found is

first-more : (turn : ℕ) (came more : List Come) → first_with turn came ≡ None
    → first_with turn (came ++ more) ≡ first_with turn more
first-more turn [] more is = refl
first-more turn (c ∷ came) more is = by_same (c.0 == turn) (first-more turn came more) is
  where
    by_same : (b : Bool)
        → (first_with turn came ≡ None → first_with turn (came ++ more) ≡ first_with turn more)
        → option_map (λ (x : Come). x.1) (if b then Some c else find (λ x. x.0 == turn) came)
        ≡ None
        → option_map (λ (x : Come). x.1)
        (if b then Some c else find (λ x. x.0 == turn) (came ++ more)) ≡ first_with turn more
    by_same true found is = absurd cc
    by_same false found is = found is

-- ---- what serves

alike-refl : (turn : ℕ) (came : Option (List Come)) → LeavesAlike turn came came
alike-refl turn None = tt
alike-refl turn (Some came) = refl

pub serves-refl : (turn : ℕ) (came : List Come) → ServesHolds turn came came
serves-refl turn came packets =
    alike-refl (turn_behind turn packets) (left_behind turn packets came)

-- the same packet may be held, and what is left behind it serves too
pub record HoldsBoth (turn : ℕ) (packet : List ℕ) (came kept : List Come) : Type 0 where
  pub none : behind_packet turn packet kept ≡ None → behind_packet turn packet came ≡ None
  pub some : (kept' : List Come) → behind_packet turn packet kept ≡ Some kept'
      → (came' : List Come) × (behind_packet turn packet came ≡ Some came')
      × ServesHolds (next_turn turn) came' kept'

none_some : (rest : List Come) → None ≡ Some rest → ⊥
none_some rest is = absurd cc

-- one may be held and the other may not
unlike : (turn : ℕ) (packet : List ℕ) (came kept : List Come) (a b : Option (List Come))
    → ServesHolds turn came kept → behind_packet turn packet came ≡ a
    → behind_packet turn packet kept ≡ b
    → LeavesAlike (next_turn turn) (option_and_then (λ l. Some l) a)
    (option_and_then (λ l. Some l) b)
unlike turn packet came kept a b h came_is kept_is =
    subst (λ (o : Option (List Come)). LeavesAlike (next_turn turn)
    (option_and_then (λ l. Some l) a) (option_and_then (λ l. Some l) o)) kept_is
    (subst (λ (o : Option (List Come)). LeavesAlike (next_turn turn)
    (option_and_then (λ l. Some l) o)
    (option_and_then (λ l. Some l) (behind_packet turn packet kept))) came_is (h (packet ∷ [])))

pub serves-hold : (turn : ℕ) (packet : List ℕ) (came kept : List Come) → ServesHolds turn came kept
    → HoldsBoth turn packet came kept
serves-hold turn packet came kept h =
    by_both (behind_packet turn packet came) (behind_packet turn packet kept) refl refl
  where
    by_both : (a b : Option (List Come)) → behind_packet turn packet came ≡ a
        → behind_packet turn packet kept ≡ b → HoldsBoth turn packet came kept
    by_both None None came_is kept_is = record {
      none = λ is. came_is;
      some = λ kept' is. absurd (none_some kept' (sym kept_is ∙ is));
    }
    by_both (Some came') (Some kept') came_is kept_is = record {
      none = λ is. absurd (none_some kept' (sym is ∙ kept_is));
      some = λ rest is. (
        came',
        came_is,
        subst (λ (l : List Come). ServesHolds (next_turn turn) came' l)
            (ap (λ (o : Option (List Come)). unwrap_or o []) (sym kept_is ∙ is))
            (λ packets. alike_by packets (h (packet ∷ packets))),
      );
    }
      where
        alike_by : (packets : List (List ℕ)) → LeavesAlike (turn_behind turn (packet ∷ packets))
            (left_behind turn (packet ∷ packets) came) (left_behind turn (packet ∷ packets) kept)
            → LeavesAlike (turn_behind (next_turn turn) packets)
            (left_behind (next_turn turn) packets came')
            (left_behind (next_turn turn) packets kept')
        alike_by packets alike =
            subst (λ (o : Option (List Come)). LeavesAlike (turn_behind (next_turn turn) packets)
            (option_and_then (left_behind (next_turn turn) packets) (Some came'))
            (option_and_then (left_behind (next_turn turn) packets) o)) kept_is
            (subst (λ (o : Option (List Come)). LeavesAlike (turn_behind (next_turn turn) packets)
            (option_and_then (left_behind (next_turn turn) packets) o)
            (option_and_then (left_behind (next_turn turn) packets)
            (behind_packet turn packet kept))) came_is alike)
    by_both None (Some kept') came_is kept_is =
        absurd (unlike turn packet came kept None (Some kept') h came_is kept_is)
    by_both (Some came') None came_is kept_is =
        absurd (unlike turn packet came kept (Some came') None h came_is kept_is)

-- what is left behind both is alike
abbrev pub AlikeBehind : ℕ → List (List ℕ) → Option (List Come) → Option (List Come) → Type 0
AlikeBehind turn packets came kept = LeavesAlike (turn_behind turn packets)
    (option_and_then (left_behind turn packets) came)
    (option_and_then (left_behind turn packets) kept)

no_some : IsSome {T = List Come} None → ⊥
no_some is = absurd cc

some-came : (turn : ℕ) (packet : List ℕ) (came kept : List Come) → ServesHolds turn came kept
    → IsSome (behind_packet turn packet kept) → IsSome (behind_packet turn packet came)
some-came turn packet came kept h found =
    by_kept (behind_packet turn packet kept) refl
  where
    by_kept : (o : Option (List Come)) → behind_packet turn packet kept ≡ o
        → IsSome (behind_packet turn packet came)
    by_kept None is = absurd (no_some (subst IsSome is found))
    by_kept (Some rest) is =
        subst IsSome (sym ((serves-hold turn packet came kept h).some rest is).1) refl

some-kept : (turn : ℕ) (packet : List ℕ) (came kept : List Come) → ServesHolds turn came kept
    → IsSome (behind_packet turn packet came) → IsSome (behind_packet turn packet kept)
some-kept turn packet came kept h found =
    by_kept (behind_packet turn packet kept) refl
  where
    by_kept : (o : Option (List Come)) → behind_packet turn packet kept ≡ o
        → IsSome (behind_packet turn packet kept)
    by_kept None is =
        absurd (no_some (subst IsSome ((serves-hold turn packet came kept h).none is) found))
    by_kept (Some rest) is = subst IsSome (sym is) refl

-- a packet may be held exactly if it is found among those that are kept
pub may-hold : (run : PortRun) (hearing : Hearing) (packet : List ℕ) (came : Bool)
    → KeepsRun run hearing
    → (IsTrue came ↔ IsSome (behind_packet hearing.next packet hearing.unheld.items))
    → IsTrue came ↔ MayHold run packet
may-hold run hearing packet came kept found = (
  λ is. some-came run.next packet run.unheld hearing.unheld.items kept.serves
      (subst (λ n. IsSome (behind_packet n packet hearing.unheld.items)) kept.next (found.0 is)),
  λ may. found.1 (subst (λ n. IsSome (behind_packet n packet hearing.unheld.items))
      (sym kept.next) (some-kept run.next packet run.unheld hearing.unheld.items kept.serves may)),
)

wraps : (n : ℕ) → (n + 1) % 256 % 32 ≡ (n + 1) % 32
wraps n = omega arith

-- what is kept behind a packet that is held
pub keeps-held : (run : PortRun) (hearing held : Hearing) (packet : List ℕ)
    → KeepsRun run hearing
    → behind_packet hearing.next packet hearing.unheld.items ≡ Some held.unheld.items
    → held.framer ≡ hearing.framer → held.next ≡ (hearing.next + 1) % 256 % 32
    → held.freed ≡ hearing.freed → held.allowed ≡ hearing.allowed
    → KeepsRun (holds_one run packet) held
keeps-held run hearing held packet kept is framer next freed allowed =
    let some = (serves-hold run.next packet run.unheld hearing.unheld.items kept.serves).some
    held.unheld.items
    (subst (λ n. behind_packet n packet hearing.unheld.items ≡ Some held.unheld.items) kept.next is)
    in
    record {
      place = ap (λ f. f.place) framer ∙ kept.place;
      serves = subst
          (λ (o : Option (List Come)).
          ServesHolds (next_turn run.next) (unwrap_or o []) held.unheld.items) (sym some.1) some.2;
      next = next ∙ wraps hearing.next ∙ ap next_turn kept.next;
      freed = freed ∙ kept.freed;
      allowed = allowed ∙ kept.allowed;
    }

-- ---- one more that came

-- it is kept too
pub serves-more : (turn : ℕ) (came kept : List Come) (c : Come) → ServesHolds turn came kept
    → ServesHolds turn (came ++ c ∷ []) (kept ++ c ∷ [])
serves-more turn came kept c h [] = by_first (first_with turn kept) refl
  where
    by_first : (o : Option (List ℕ)) → first_with turn kept ≡ o
        → first_with turn (came ++ c ∷ []) ≡ first_with turn (kept ++ c ∷ [])
    by_first (Some packet) is =
        first-found turn came (c ∷ []) packet (h [] ∙ is)
        ∙ sym (first-found turn kept (c ∷ []) packet is)
    by_first None is =
        first-more turn came (c ∷ []) (h [] ∙ is) ∙ sym (first-more turn kept (c ∷ []) is)
serves-more turn came kept c h (packet ∷ packets) =
    by_kept (behind_packet turn packet kept) refl
    (λ came' kept' serves. serves-more (next_turn turn) came' kept' c serves packets)
  where
    by_kept : (o : Option (List Come)) → behind_packet turn packet kept ≡ o
        → ((came' kept' : List Come) → ServesHolds (next_turn turn) came' kept'
        → AlikeBehind (next_turn turn) packets (Some (came' ++ c ∷ [])) (Some (kept' ++ c ∷ [])))
        → AlikeBehind (next_turn turn) packets (behind_packet turn packet (came ++ c ∷ []))
        (behind_packet turn packet (kept ++ c ∷ []))
    by_kept None is more =
        let none = (serves-hold turn packet came kept h).none is in
        subst (λ a. AlikeBehind (next_turn turn) packets a
        (behind_packet turn packet (kept ++ c ∷ [])))
        (sym (behind-more turn packet came (c ∷ []) none))
        (subst (λ b. AlikeBehind (next_turn turn) packets (behind_packet turn packet (c ∷ [])) b)
        (sym (behind-more turn packet kept (c ∷ []) is))
        (alike-refl (turn_behind (next_turn turn) packets)
        (option_and_then (left_behind (next_turn turn) packets)
        (behind_packet turn packet (c ∷ [])))))
    by_kept (Some kept') is more =
        let some = (serves-hold turn packet came kept h).some kept' is in
        subst (λ a. AlikeBehind (next_turn turn) packets a
        (behind_packet turn packet (kept ++ c ∷ [])))
        (sym (behind-found turn packet came (c ∷ []) some.0 some.1))
        (subst (λ b. AlikeBehind (next_turn turn) packets (Some (some.0 ++ c ∷ [])) b)
        (sym (behind-found turn packet kept (c ∷ []) kept' is))
        (more some.0 kept' some.2))

-- Whatever is held, behind it this packet is kept if it has the turn.
abbrev pub Covers : ℕ → Come → List Come → Type 0
Covers turn c kept = (packets : List (List ℕ)) (tail : List Come)
    → left_behind turn packets kept ≡ Some tail → turn_behind turn packets ≡ c.0
    → IsSome (behind_packet c.0 c.1 tail)

-- a packet that is found is one with its ackID
first-some : (ack : ℕ) (packet : List ℕ) (came : List Come)
    → IsSome (behind_packet ack packet came)
    → (other : List ℕ) × (first_with ack came ≡ Some other)
first-some ack packet [] found = absurd (no_some found)
first-some ack packet (c ∷ came) found =
    by_turn (c.0 == ack) refl (first-some ack packet came)
  where
    by_turn : (b : Bool) → (c.0 == ack) ≡ b
        → (IsSome (behind_packet ack packet came)
        → (other : List ℕ) × (first_with ack came ≡ Some other)) → (other : List ℕ)
        × (option_map (λ (x : Come). x.1) (if b then Some c else find (λ x. x.0 == ack) came)
        ≡ Some other)
    by_turn true is some = (c.1, refl)
    by_turn false is some = some
        (subst (λ b. IsSome (if b && pointwise nat_eq c.1 packet then Some came
        else behind_packet ack packet came)) is found)

-- it need not be kept
pub serves-without : (turn : ℕ) (came kept : List Come) (c : Come) → Covers turn c kept
    → ServesHolds turn came kept → ServesHolds turn (came ++ c ∷ []) kept
serves-without turn came kept c covers h [] = by_first (first_with turn kept) refl
  where
    by_turn : (b : Bool) → (c.0 == turn) ≡ b → first_with turn kept ≡ None
        → option_map (λ (x : Come). x.1) (if b then Some c else None) ≡ None
    by_turn false other none = refl
    by_turn true same none =
        let turn_is = eqb-true c.0 turn same in
        let there = first-some turn c.1 kept (subst (λ n. IsSome (behind_packet n c.1 kept)) turn_is
        (covers [] kept refl (sym turn_is))) in
        absurd (not_both there.0 (sym there.1 ∙ none))
      where
        not_both : (x : List ℕ) → Some x ≡ None → ⊥
        not_both x is = absurd cc

    by_first : (o : Option (List ℕ)) → first_with turn kept ≡ o
        → first_with turn (came ++ c ∷ []) ≡ first_with turn kept
    by_first (Some packet) is = first-found turn came (c ∷ []) packet (h [] ∙ is) ∙ sym is
    by_first None is =
        first-more turn came (c ∷ []) (h [] ∙ is) ∙ by_turn (c.0 == turn) refl is ∙ sym is
serves-without turn came kept c covers h (packet ∷ packets) =
    by_kept (behind_packet turn packet kept) refl
    (λ came' kept' covers' serves.
    serves-without (next_turn turn) came' kept' c covers' serves packets)
  where
    not_some : (x : List Come) → None ≡ Some x → ⊥
    not_some x is = absurd cc

    -- the packet would be held next, and it is kept
    by_same : (b : Bool) → same_event (Pkt c.0 c.1) (Pkt turn packet) ≡ b
        → behind_packet turn packet kept ≡ None
        → (if◌then◌else◌ {A = Option (List Come)} b (Some []) None) ≡ None
    by_same false other none = refl
    by_same true same none =
        let turn_is = ack-same c.0 turn c.1 packet
        (found_same (Pkt c.0 c.1) (Pkt turn packet) same) in
        let packet_is = bytes-same c.0 turn c.1 packet
        (found_same (Pkt c.0 c.1) (Pkt turn packet) same) in
        absurd (no_some (subst IsSome none
        (subst (λ n. IsSome (behind_packet n packet kept)) turn_is
        (subst (λ p. IsSome (behind_packet c.0 p kept)) packet_is
        (covers [] kept refl (sym turn_is))))))

    by_kept : (o : Option (List Come)) → behind_packet turn packet kept ≡ o
        → ((came' kept' : List Come) → Covers (next_turn turn) c kept'
        → ServesHolds (next_turn turn) came' kept'
        → AlikeBehind (next_turn turn) packets (Some (came' ++ c ∷ [])) (Some kept'))
        → AlikeBehind (next_turn turn) packets (behind_packet turn packet (came ++ c ∷ []))
        (behind_packet turn packet kept)
    by_kept None is more =
        let none = (serves-hold turn packet came kept h).none is in
        subst (λ a. AlikeBehind (next_turn turn) packets a (behind_packet turn packet kept))
        (sym (behind-more turn packet came (c ∷ []) none
        ∙ by_same (same_event (Pkt c.0 c.1) (Pkt turn packet)) refl is))
        (subst (λ b. AlikeBehind (next_turn turn) packets None b) (sym is) tt)
    by_kept (Some kept') is more =
        let some = (serves-hold turn packet came kept h).some kept' is in
        subst (λ a. AlikeBehind (next_turn turn) packets a (behind_packet turn packet kept))
        (sym (behind-found turn packet came (c ∷ []) some.0 some.1))
        (subst (λ b. AlikeBehind (next_turn turn) packets (Some (some.0 ++ c ∷ [])) b) (sym is)
        (more some.0 kept'
        (λ others tail left. covers (packet ∷ others) tail
        (ap (option_and_then (left_behind (next_turn turn) others)) is ∙ left))
        some.2))
