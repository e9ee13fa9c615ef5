-- Turns, time-outs, edits and the layer above keep a link sound, and none of them but the layer
-- above moves a packet.
use Rattle.link_machine.proofs.Prelude.{◌≡◌, ℕ, zero, suc, ◌<◌, ◌≤◌, ◌==◌, ◌++◌, cond, true, false, IfSome, List, All, [], ◌∷◌, map, length, take, drop, inl, inr, refl, sym, ap, ◌∙◌, subst, if◌then◌else◌, append_assoc, arith, append-nil, take-append-le, drop-append-le, list_at, popped, Covers, packets_of, highest, list_at-popped, Covers-first, Covers-rest, Event, PortState, IsPort, turns_to, turn_sends, timed_out, waiting_in, prios_of, expected_of, forward, backward, IsBetween, IsSound, last_report, TellsAs, IsTold, turn_keeps, turn_port, WireState, port_turned, bursts, fits, edited, after_edit, Edit, IsServed, queues_between}
use Rattle.std.proofs.lemmas.Bool.Decides.{eqb_tells}
use Rattle.link_sound.proofs.Told as telling
use Rattle.link_sound.proofs.Freed.{turn_stays, time_out_stays}

pub turned_port : (n : ℕ) (a : PortState) → IsPort a → IsPort (port_turned n a)
unfolding port_turned
turned_port zero a is = is
turned_port (suc n) a is = turned_port n (turns_to a) (turn_port a is)

pub turned_keeps : (n : ℕ) (a b : PortState) (kept_a kept_b : List Event) → IsPort a
    → IsSound a b kept_a kept_b → IsSound (port_turned n a) b (kept_a ++ (bursts n a).sent) kept_b
unfolding port_turned bursts
turned_keeps zero a b kept_a kept_b is s =
    subst (λ (l : List Event). IsSound a b l kept_b) (sym (append-nil kept_a)) s
turned_keeps (suc n) a b kept_a kept_b is s =
    subst (λ (l : List Event). IsSound (port_turned n (turns_to a)) b l kept_b)
    (append_assoc kept_a (turn_sends a).sent (bursts n (turns_to a)).sent)
    (turned_keeps n (turns_to a) b (kept_a ++ (turn_sends a).sent) kept_b (turn_port a is)
    (turn_keeps a b kept_a kept_b is.covered s))

-- and what either port tells of its free buffers
pub turned_told :
    (n : ℕ) (a b : PortState) (kept_a kept_b : List Event) → IsPort a
    → IsTold b a kept_a → IsTold a b kept_b
    → IsTold b (port_turned n a) (kept_a ++ (bursts n a).sent) × IsTold (port_turned n a) b kept_b
unfolding port_turned bursts
turned_told zero a b kept_a kept_b is ahead back =
    (subst (λ (l : List Event). IsTold b a l) (sym (append-nil kept_a)) ahead, back)
turned_told (suc n) a b kept_a kept_b is ahead back =
    let first = telling.turn_keeps a b kept_a kept_b is ahead back in
    let rest =
    turned_told n (turns_to a) b (kept_a ++ (turn_sends a).sent) kept_b (turn_port a is) first.0
    first.1 in (
      subst (λ (l : List Event). IsTold b (port_turned n (turns_to a)) l)
          (append_assoc kept_a (turn_sends a).sent (bursts n (turns_to a)).sent) rest.0,
      rest.1,
    )

pub turned_stays : (n : ℕ) (a b : PortState) (kept_a kept_b : List Event) → IsPort a
    → IsSound a b kept_a kept_b → queues_between (port_turned n a) b ≡ queues_between a b
unfolding port_turned
turned_stays zero a b kept_a kept_b is s = refl
turned_stays (suc n) a b kept_a kept_b is s =
    let stays =
    turn_stays a.tells a.output (highest (waiting_in a)) b.input a.queued (map forward kept_a)
    (map backward kept_b) is.covered s.a_to_b in
    turned_stays n (turns_to a) b (kept_a ++ (turn_sends a).sent) kept_b (turn_port a is)
    (turn_keeps a b kept_a kept_b is.covered s)
    ∙ (λ i. record (queues_between a b) { lent_a = stays.0 i; waiting_a = stays.1 i })

pub time_out_moves_none : (a b : PortState) → queues_between (timed_out a) b ≡ queues_between a b
time_out_moves_none a b =
    let stays = time_out_stays a.output (expected_of b.input) a.queued in
    λ i. record (queues_between a b) { lent_a = stays.0 i; waiting_a = stays.1 i }

pub edit_keeps : (edit : Edit) (wire : WireState) → (after_edit edit wire).kept ≡ wire.kept
edit_keeps edit wire =
    elim (fits edit wire.chars) as
    (λ b. (if b then record wire { chars = edited edit wire.chars } else wire).kept ≡ wire.kept)
    [ true ↦ refl | false ↦ refl ]

-- the packets that priorities take out of a store are the same where there are more behind them
left_more :
    (prios : List ℕ) (lists more_lists : List (List (List ℕ))) → Covers prios lists
    → ((prio : ℕ) → (more : List (List ℕ)) × (list_at more_lists prio ≡ list_at lists prio ++ more))
    → packets_of prios more_lists ≡ packets_of prios lists
left_more [] lists more_lists covers has = refl
left_more (prio ∷ prios) lists more_lists covers has =
    let some : 0 < length (list_at lists prio) = Covers-first prio prios lists covers in
    let one : 1 ≤ length (list_at lists prio) = omega arith in
    let first : take 1 (list_at more_lists prio) ≡ take 1 (list_at lists prio) =
    ap (take 1) (has prio).1 ∙ take-append-le 1 (list_at lists prio) (has prio).0 one in
    let rest =
    left_more prios (popped lists prio) (popped more_lists prio)
    (Covers-rest prio prios lists covers) (λ other. (
      (has other).0,
      list_at-popped more_lists prio other
          ∙ ap (drop (cond (prio == other) 1 0)) (has other).1
          ∙ dropped prio other lists (has other).0 one
          ∙ ap (λ (l : List (List ℕ)). l ++ (has other).0) (sym (list_at-popped lists prio other)),
    )) in
    λ i. first i ++ rest i
  where
    dropped : (prio other : ℕ) (lists : List (List (List ℕ))) (more : List (List ℕ))
        → 1 ≤ length (list_at lists prio)
        → drop (cond (prio == other) 1 0) (list_at lists other ++ more)
        ≡ drop (cond (prio == other) 1 0) (list_at lists other) ++ more
    dropped prio other lists more one =
        elim (eqb_tells prio other) as (λ _. drop (cond (prio == other) 1 0)
        (list_at lists other ++ more)
        ≡ drop (cond (prio == other) 1 0) (list_at lists other) ++ more) [
          | inl tells ↦
              subst (λ b. drop (cond b 1 0) (list_at lists other ++ more)
              ≡ drop (cond b 1 0) (list_at lists other) ++ more) (sym tells.0)
              (drop-append-le 1 (list_at lists other) more
              (subst (λ r. 1 ≤ length (list_at lists r)) tells.1 one))
          | inr tells ↦ subst (λ b. drop (cond b 1 0) (list_at lists other ++ more)
              ≡ drop (cond b 1 0) (list_at lists other) ++ more) (sym tells.0) refl
        ]

-- the layer above
pub served_keeps :
    (a next b : PortState) (kept_a kept_b : List Event) → Covers (prios_of a.output) a.queued
    → IsServed a next → IsSound a b kept_a kept_b → IsSound next b kept_a kept_b
served_keeps a next b kept_a kept_b covers served s =
    let same = left_more (prios_of a.output) a.queued next.queued covers served.put in
    let own : IsBetween a.output b.input next.queued (map forward kept_a) (map backward kept_b) =
    record {
      sent = s.a_to_b.sent;
      freed = s.a_to_b.freed;
      held = s.a_to_b.held;
      oldest = s.a_to_b.oldest;
      expected = s.a_to_b.expected;
      outstanding = same ∙ s.a_to_b.outstanding;
      is = s.a_to_b.is;
    } in record {
      a_to_b =
          subst (λ o. IsBetween o b.input next.queued (map forward kept_a) (map backward kept_b))
          served.alike.2 own;
      b_to_a =
          subst (λ i. IsBetween b.output i b.queued (map forward kept_b) (map backward kept_a))
          served.alike.3 s.b_to_a;
    }

pub served_told :
    (a next b : PortState) (kept_a kept_b : List Event) → IsServed a next → IsTold b a kept_a
    → IsTold a b kept_b → IsTold b next kept_a × IsTold next b kept_b
served_told a next b kept_a kept_b served ahead back =
    let same = served.alike.4 in (
      record {
        coming = subst (λ t. All (TellsAs t) kept_a) same ahead.coming;
        keeps = subst (λ t. IfSome (last_report b.output) (λ report. t ≡ true)) same ahead.keeps;
      },
      record {
        coming = back.coming;
        keeps =
            subst (λ o. IfSome (last_report o) (λ report. b.tells ≡ true)) served.alike.2
            back.keeps;
      },
    )
