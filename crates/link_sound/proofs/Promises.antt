-- What soundness promises of a sender, and what is not sound.
use Rattle.link_sound.proofs.Prelude.{ap, ◌∙◌, [], ◌∷◌, drop, length-drop, ◌≡◌, ◌≢◌, ℕ, ◌≤◌, None, List, length, subst, arith, map, slice_get_within, no_packets, Covers, Event, PortState, prios_of, expected_of, Input, Output, Outstanding, distance, from_ack, InputOk, Forward, ForwardPacket, Backward, Accept, Response, PacketsInTurn, forward, backward, oldest_of, IsBetween, IsSound}
use Rattle.link_sound.proofs.SenderMoves.{none_between}
use Rattle.link_sound.proofs.Turning.{count_is}
use Rattle.link_sound.proofs.Plain.{lent_count}
use Rattle.link_sound.proofs.Freed.{none_lent}

none_failed : (input : Input) (queued : List (List (List ℕ))) (kept_ahead : List Forward)
    (kept_back : List Backward) → IsBetween Output.Failed input queued kept_ahead kept_back → ⊥
none_failed input queued kept_ahead kept_back b = b.is.sender

pub not_failed : (a b : PortState) (kept_a kept_b : List Event) → IsSound a b kept_a kept_b
    → a.output ≢ Output.Failed
not_failed a b kept_a kept_b s fails =
    none_failed b.input a.queued (map forward kept_a) (map backward kept_b)
    (subst (λ (o : Output). IsBetween o b.input a.queued (map forward kept_a) (map backward kept_b))
    fails s.a_to_b)

lent_within :
    (output : Output) (input : Input) (queued : List (List (List ℕ))) (kept_ahead : List Forward)
    (kept_back : List Backward) → Covers (prios_of output) queued
    → IsBetween output input queued kept_ahead kept_back
    → distance (oldest_of output) (expected_of input) ≤ length (prios_of output)
lent_within output input queued kept_ahead kept_back covers b =
    let total =
    count_is (prios_of output) queued b.freed b.sent covers
    (omega (arith, b.is.held_first, b.is.sent_first)) b.outstanding in
    let far = lent_count output input queued kept_ahead kept_back b in
    omega (arith, b.is.sent_first)

pub lent_is_outstanding :
    (a b : PortState) (kept_a kept_b : List Event) → Covers (prios_of a.output) a.queued
    → IsSound a b kept_a kept_b
    → distance (oldest_of a.output) (expected_of b.input) ≤ length (prios_of a.output)
lent_is_outstanding a b kept_a kept_b covers s =
    lent_within a.output b.input a.queued (map forward kept_a) (map backward kept_b) covers s.a_to_b

pub none_lent_at_retry :
    (a b : PortState) (kept_a kept_b : List Event) (w : Outstanding)
    → a.output ≡ Output.RetryStopped w → IsSound a b kept_a kept_b
    → distance w.oldest (expected_of b.input) ≡ 0
none_lent_at_retry a b kept_a kept_b w is s =
    none_lent w b.input a.queued (map forward kept_a) (map backward kept_b)
    (subst (λ (o : Output). IsBetween o b.input a.queued (map forward kept_a) (map backward kept_b))
    is s.a_to_b)

-- a new sender and a new receiver
abbrev IsNew : List Forward → List Backward → Type 0
IsNew kept_ahead kept_back =
    IsBetween (Output.Ok (from_ack 0 None)) (InputOk 0) no_packets kept_ahead kept_back

-- nothing was sent, so none is outstanding
sent_none : (freed : ℕ) (sent : List (List ℕ)) → freed ≤ length sent → [] ≡ drop freed sent
    → length sent ≡ freed
sent_none freed sent below same = let rest = ap length same ∙ length-drop freed sent in omega arith

held_none : {kept_ahead : List Forward} {kept_back : List Backward} (b : IsNew kept_ahead kept_back)
    → (length b.sent ≡ b.freed) × (b.held ≡ b.freed)
held_none b =
    let all =
    sent_none b.freed b.sent (omega (arith, b.is.held_first, b.is.sent_first)) b.outstanding in
    (all, omega (arith, b.is.held_first, b.is.sent_first))

pub none_accepted : (ack : ℕ) → IsNew [] (Accept ack ∷ []) → ⊥
none_accepted ack b = none_between b.freed b.held ack [] (held_none b).1 b.is.accepts

pub none_answered : (ack : ℕ) → IsNew [] (Response ack ∷ []) → ⊥
none_answered ack b = let none = b.is.sender.1.0 in absurd cc

no_flight : (sent : List (List ℕ)) (held ack : ℕ) (packet : List ℕ) → length sent ≡ held
    → PacketsInTurn sent held (ForwardPacket ack packet ∷ []) → ⊥
no_flight sent held ack packet all (n, is, from, found, rest) =
    let within = slice_get_within sent n packet found in omega arith

pub none_sent : (packet : List ℕ) → IsNew (ForwardPacket 0 packet ∷ []) [] → ⊥
none_sent packet b =
    no_flight b.sent b.held 0 packet (omega (arith, (held_none b).0, (held_none b).1))
    b.is.receiver.1
