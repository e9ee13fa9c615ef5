-- What a packet that is held is of the packets that wait, and what becomes of the queues.
use Rattle.link_sound.proofs.Prelude.{◌≡◌, ℕ, zero, suc, ◌+◌, ◌-◌, ◌%◌, ◌<◌, List, [], ◌∷◌, ◌++◌, length, take, drop, Some, option_map, slice_get, refl, sym, ap, ◌∙◌, subst, arith, slice_get_within, slice_get-map, prio_of, Input, Output, distance, InputOk, list_at, popped, Sorted, IsOutStore, packets_of, lists_without, Covers, drop_at, lists_without-append, map-prio_of-packets_of, take-packets_of, drop-packets_of, Covers-drop, Covers-first, Forward, Backward, ForwardPacket, prios_of, expected_of, sender_of, oldest_of, IsBetween, lent_until, waiting_from}
use Rattle.link_sound.proofs.ReceiverMoves.{packet_held}
use Rattle.link_sound.proofs.SenderMoves.{distance_is}
use Rattle.link_sound.proofs.Receiving.{next_expected}

-- how many packets are lent
pub lent_count :
    (output : Output) (input : Input) (queued : List (List (List ℕ))) (kept_ahead : List Forward)
    (kept_back : List Backward) (b : IsBetween output input queued kept_ahead kept_back)
    → distance (oldest_of output) (expected_of input) ≡ b.held - b.freed
lent_count output input queued kept_ahead kept_back b =
    ap (λ oldest. distance oldest (expected_of input)) b.oldest
    ∙ distance_is b.freed b.held (expected_of input) b.expected b.is.held_first
    (omega (arith, b.is.sent_first, b.is.few))

-- one more element
take_more : {X : Type 0} (count : ℕ) (xs : List X) (x : X) → slice_get xs count ≡ Some x
    → take (suc count) xs ≡ take count xs ++ x ∷ []
take_more count [] x is = absurd cc
take_more zero (first ∷ xs) x is = let same : first ≡ x = cc in ap (λ e. e ∷ []) same
take_more (suc count) (first ∷ xs) x is = ap (λ es. first ∷ es) (take_more count xs x is)

got_behind : {X : Type 0} (n m k : ℕ) (xs : List X) → k ≡ n + m
    → slice_get (drop n xs) m ≡ slice_get xs k
got_behind zero m k xs is = ap (slice_get xs) (let same : m ≡ k = omega arith in same)
got_behind (suc n) m k [] is = refl
got_behind (suc n) m zero (x ∷ xs) is = absurd (omega arith)
got_behind (suc n) m (suc k) (x ∷ xs) is = got_behind n m k xs (omega arith)

first_of : (packets rest more : List (List ℕ)) (packet : List ℕ) → 0 < length packets
    → take 1 packets ++ rest ≡ packet ∷ more → slice_get packets 0 ≡ Some packet
first_of [] rest more packet some is = absurd (omega arith)
first_of (other ∷ packets) rest more packet some is = let same : other ≡ packet = cc in ap Some same

-- the packet at a place among the outstanding ones has the priority that stands there
prio_there :
    (prios : List ℕ) (queued : List (List (List ℕ))) (place : ℕ) (packet : List ℕ)
    → length queued ≡ 4 → Covers prios queued → Sorted queued
    → slice_get (packets_of prios queued) place ≡ Some packet
    → slice_get prios place ≡ Some (prio_of packet)
prio_there prios queued place packet four covers sorted is =
    ap (λ ps. slice_get ps place) (sym (map-prio_of-packets_of prios queued four covers sorted))
    ∙ slice_get-map prio_of (packets_of prios queued) place
    ∙ ap (option_map prio_of) is

-- the packet at a place among the outstanding ones is the first of its priority once those before
-- it are away
first_of_prio :
    (prios : List ℕ) (queued : List (List (List ℕ))) (place : ℕ) (packet : List ℕ)
    → length queued ≡ 4 → Covers prios queued → Sorted queued
    → slice_get (packets_of prios queued) place ≡ Some packet
    → slice_get (list_at (lists_without (take place prios) queued) (prio_of packet)) 0
    ≡ Some packet
first_of_prio prios queued place packet four covers sorted is =
    let at = prio_there prios queued place packet four covers sorted is in
    let rest = lists_without (take place prios) queued in
    let split : drop place prios ≡ prio_of packet ∷ drop (suc place) prios =
    drop_at place prios (prio_of packet) at in
    let covered : Covers (prio_of packet ∷ drop (suc place) prios) rest =
    subst (λ (ps : List ℕ). Covers ps rest) split (Covers-drop place prios queued covers) in
    first_of (list_at rest (prio_of packet))
    (packets_of (drop (suc place) prios) (popped rest (prio_of packet)))
    (drop (suc place) (packets_of prios queued)) packet
    (Covers-first (prio_of packet) (drop (suc place) prios) rest covered)
    (ap (λ ps. packets_of ps rest) (sym split)
    ∙ sym (drop-packets_of place prios queued covers)
    ∙ drop_at place (packets_of prios queued) packet is)

lent_more :
    (prios : List ℕ) (queued : List (List (List ℕ))) (place : ℕ) (packet : List ℕ)
    → Covers prios queued
    → slice_get (packets_of prios queued) place ≡ Some packet
    → packets_of (take (suc place) prios) queued
    ≡ packets_of (take place prios) queued ++ packet ∷ []
lent_more prios queued place packet covers is =
    sym (take-packets_of (suc place) prios queued covers)
    ∙ take_more place (packets_of prios queued) packet is
    ∙ ap (λ packets. packets ++ packet ∷ []) (take-packets_of place prios queued covers)

waiting_less :
    (prios : List ℕ) (queued : List (List (List ℕ))) (place : ℕ) (packet : List ℕ)
    → slice_get prios place ≡ Some (prio_of packet)
    → lists_without (take (suc place) prios) queued
    ≡ popped (lists_without (take place prios) queued) (prio_of packet)
waiting_less prios queued place packet at =
    ap (λ ps. lists_without ps queued) (take_more place prios (prio_of packet) at)
    ∙ lists_without-append (take place prios) (prio_of packet ∷ []) queued

-- the packet that is held: what it is of those that wait, and what becomes of them
pub record IsHeld (output : Output) (expected : ℕ) (queued : List (List (List ℕ)))
    (packet : List ℕ) : Type 0 where
  pub first : slice_get (list_at (waiting_from output expected queued) (prio_of packet)) 0
      ≡ Some packet
  pub lent : lent_until output ((expected + 1) % 32) queued
      ≡ lent_until output expected queued ++ packet ∷ []
  pub waiting : waiting_from output ((expected + 1) % 32) queued
      ≡ popped (waiting_from output expected queued) (prio_of packet)

pub held_is :
    (output : Output) (ack : ℕ) (queued : List (List (List ℕ))) (packet : List ℕ)
    (kept_ahead : List Forward) (kept_back : List Backward) → Covers (prios_of output) queued
    → IsOutStore queued
    → IsBetween output (InputOk ack) queued (ForwardPacket ack packet ∷ kept_ahead) kept_back
    → IsHeld output ack queued packet
held_is output ack queued packet kept_ahead kept_back covers store b =
    let prios = prios_of output in
    let does =
    packet_held (sender_of output) b.freed b.held ack b.sent packet kept_ahead kept_back
    b.expected b.is in
    let first = b.is.held_first in
    let within = slice_get_within b.sent b.held packet does.0 in
    let few = b.is.few in
    let place : ℕ = b.held - b.freed in
    let now : distance (oldest_of output) ack ≡ place =
    lent_count output (InputOk ack) queued (ForwardPacket ack packet ∷ kept_ahead) kept_back b in
    let then : distance (oldest_of output) ((ack + 1) % 32) ≡ suc place =
    ap (λ oldest. distance oldest ((ack + 1) % 32)) b.oldest
    ∙ distance_is b.freed (suc b.held) ((ack + 1) % 32) (next_expected ack b.held b.expected)
    (omega arith) (omega arith)
    ∙ omega arith
    in
    let there : slice_get (packets_of prios queued) place ≡ Some packet =
    ap (λ packets. slice_get packets place) b.outstanding
    ∙ got_behind b.freed place b.held b.sent (omega arith)
    ∙ does.0
    in
    let at = prio_there prios queued place packet store.four covers store.sorted there in
    record {
      first = rw now (first_of_prio prios queued place packet store.four covers store.sorted there);
      lent = rw (now, then) (lent_more prios queued place packet covers there);
      waiting = rw (now, then) (waiting_less prios queued place packet at);
    }
