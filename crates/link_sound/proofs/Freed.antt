-- What a sender frees is the front of what is lent, and nothing else of its packets moves.
use Rattle.link_sound.proofs.Prelude.{◌≡◌, ℕ, suc, ◌+◌, ◌-◌, ◌%◌, Bool, true, false, List, [], ◌∷◌, ◌++◌, length, take, drop, Option, Some, None, inl, inr, refl, sym, ap, ◌∙◌, subst, arith, take-add, take-nil, le-leb, append-nil, take-append-le, packets_of, lists_without, Covers, packets_of-append, lists_without-append, Fields, Input, Output, hears, hears_report, turns, times_out, Outstanding, distance, PacketAccepted, PacketRetry, LinkResponse, Forward, Backward, Accept, Response, prios_of, expected_of, report_prios, tells, receiver_of, oldest_of, IsBetween, lent_until, waiting_from}
use Rattle.link_model.specs.Output.{Stype0, stype0, Heard, accepted, retried, responded, started, startable}
use Rattle.link_sound.proofs.SenderMoves.{oldest_accepted, answered, distance_is}
use Rattle.link_sound.proofs.Turning.{count_is}
use Rattle.link_sound.proofs.Hearing.{next_oldest, oldest_cases, response_counts}
use Rattle.link_sound.proofs.Plain.{lent_count}
use Rattle.link_sound.proofs.Reported.{report_oldest, report_between}

-- what is freed, and what stays lent and waiting, where a sender hears something
abbrev pub IsFreed : Output → Heard → ℕ → List (List (List ℕ)) → Type 0
IsFreed output does expected queued =
    (lent_until output expected queued
    ≡ packets_of (take does.freed (prios_of output)) queued
    ++ lent_until does.state expected (lists_without (take does.freed (prios_of output)) queued))
    × (waiting_from does.state expected (lists_without (take does.freed (prios_of output)) queued)
    ≡ waiting_from output expected queued)

split_lent :
    (prios : List ℕ) (queued : List (List (List ℕ))) (n rest all : ℕ) → all ≡ n + rest
    → packets_of (take all prios) queued
    ≡ packets_of (take n prios) queued
    ++ packets_of (take rest (drop n prios)) (lists_without (take n prios) queued)
split_lent prios queued n rest all is =
    ap (λ k. packets_of (take k prios) queued) is
    ∙ ap (λ ps. packets_of ps queued) (take-add n rest prios)
    ∙ packets_of-append (take n prios) (take rest (drop n prios)) queued

split_waiting :
    (prios : List ℕ) (queued : List (List (List ℕ))) (n rest all : ℕ) → all ≡ n + rest
    → lists_without (take rest (drop n prios)) (lists_without (take n prios) queued)
    ≡ lists_without (take all prios) queued
split_waiting prios queued n rest all is =
    sym (lists_without-append (take n prios) (take rest (drop n prios)) queued)
    ∙ ap (λ ps. lists_without ps queued) (sym (take-add n rest prios))
    ∙ ap (λ k. lists_without (take k prios) queued) (sym is)

accepted_frees :
    (w : Outstanding) (ack : ℕ) (input : Input) (queued : List (List (List ℕ)))
    (kept_ahead : List Forward) (kept_back : List Backward)
    → IsBetween (Output.Ok w) input queued kept_ahead (Accept ack ∷ kept_back)
    → IsFreed (Output.Ok w) (accepted w ack) (expected_of input) queued
accepted_frees w ack input queued kept_ahead kept_back b =
    elim (oldest_cases w ack) [
      | inl (holds, same) ↦
          let does =
          oldest_accepted (receiver_of input) b.freed b.held ack b.sent kept_ahead kept_back
          (same ∙ b.oldest) b.is in
          let far = expected_of input in
          let now : distance w.oldest far ≡ b.held - b.freed =
          lent_count (Output.Ok w) input queued kept_ahead (Accept ack ∷ kept_back) b in
          let then : distance ((w.oldest + 1) % 32) far ≡ b.held - suc b.freed =
          ap (λ oldest. distance oldest far) (next_oldest w.oldest b.freed b.oldest)
          ∙ distance_is (suc b.freed) b.held far b.expected does.0
          (omega (arith, does.1.sent_first, does.1.few))
          in
          let all : distance w.oldest far ≡ 1 + distance ((w.oldest + 1) % 32) far =
          omega (arith, does.0) in
          rw holds (
            split_lent w.prios queued 1 (distance ((w.oldest + 1) % 32) far) (distance w.oldest far)
                all,
            split_waiting w.prios queued 1 (distance ((w.oldest + 1) % 32) far)
                (distance w.oldest far) all,
          )
      | inr fails ↦ rw fails (refl, refl)
    ]

retried_frees :
    (w : Outstanding) (ack : ℕ) (expected : ℕ) (queued : List (List (List ℕ)))
    → IsFreed (Output.Ok w) (retried w ack) expected queued
retried_frees w ack expected queued =
    elim (oldest_cases w ack) [
      | inl (holds, same) ↦ rw holds (refl, refl)
      | inr fails ↦ rw fails (refl, refl)
    ]

responded_frees :
    (w : Outstanding) (ack : ℕ) (input : Input) (queued : List (List (List ℕ)))
    (kept_ahead : List Forward) (kept_back : List Backward) → Covers w.prios queued
    → IsBetween (Output.ErrorStopped true w) input queued kept_ahead (Response ack ∷ kept_back)
    → IsFreed (Output.ErrorStopped true w) (responded true w ack) (expected_of input) queued
responded_frees w ack input queued kept_ahead kept_back covers b =
    let does = answered (receiver_of input) b.freed b.held ack b.sent kept_ahead kept_back b.is in
    let counts = response_counts w ack input queued kept_ahead kept_back covers b in
    let same : expected_of input ≡ ack = b.expected ∙ sym does.0 in
    rw (le-leb (distance w.oldest ack) (length w.prios) counts.1, same) (
      sym (ap (λ ps. packets_of (take (distance w.oldest ack) w.prios) queued
          ++ packets_of ps (lists_without (take (distance w.oldest ack) w.prios) queued))
          (take-nil (distance ack ack)) ∙ append-nil _),
      ap (λ ps. lists_without ps (lists_without (take (distance w.oldest ack) w.prios) queued))
          (take-nil (distance ack ack)),
    )

pub heard_frees :
    (kind : Stype0) (ack : ℕ) (output : Output) (input : Input) (queued : List (List (List ℕ)))
    (kept_ahead : List Forward) (kept_back : List Backward)
    → Covers (prios_of output) queued
    → IsBetween output input queued kept_ahead (tells kind ack ∷ kept_back)
    → IsFreed output (hears kind output ack) (expected_of input) queued
heard_frees PacketAccepted ack (Output.Ok w) input queued kept_ahead kept_back covers b =
    accepted_frees w ack input queued kept_ahead kept_back b
heard_frees PacketAccepted ack (Output.RetryStopped w) input queued kept_ahead kept_back covers b =
    (refl, refl)
heard_frees PacketAccepted ack Output.Failed input queued kept_ahead kept_back covers b =
    (refl, refl)
heard_frees PacketRetry ack (Output.Ok w) input queued kept_ahead kept_back covers b =
    retried_frees w ack (expected_of input) queued
heard_frees LinkResponse ack (Output.ErrorStopped false w) input queued kept_ahead kept_back covers
    b =
    (refl, refl)
heard_frees LinkResponse ack (Output.ErrorStopped true w) input queued kept_ahead kept_back covers
    b =
    responded_frees w ack input queued kept_ahead kept_back covers b
heard_frees _ ack (Output.Ok w) input queued kept_ahead kept_back covers b = (refl, refl)
heard_frees _ ack (Output.RetryStopped w) input queued kept_ahead kept_back covers b = (refl, refl)
heard_frees _ ack (Output.ErrorStopped asked w) input queued kept_ahead kept_back covers b =
    (refl, refl)
heard_frees _ ack Output.Failed input queued kept_ahead kept_back covers b = (refl, refl)

-- what a sender knows of is told by its oldest packet and its priorities alone
lent_same :
    (output next : Output) (expected : ℕ) (queued : List (List (List ℕ)))
    → oldest_of next ≡ oldest_of output → prios_of next ≡ prios_of output
    → (lent_until next expected queued ≡ lent_until output expected queued)
    × (waiting_from next expected queued ≡ waiting_from output expected queued)
lent_same output next expected queued first prios =
    let same =
    ap (λ oldest. take (distance oldest expected) (prios_of next)) first
    ∙ ap (take (distance (oldest_of output) expected)) prios in
    (ap (λ ps. packets_of ps queued) same, ap (λ ps. lists_without ps queued) same)

-- a symbol: its report, and then what it says
pub symbol_frees :
    (symbol : Fields) (output : Output) (input : Input) (queued : List (List (List ℕ)))
    (kept_ahead : List Forward) (kept_back : List Backward)
    → Covers (prios_of output) queued
    → IsBetween output input queued kept_ahead
    (tells (stype0 symbol.s0) symbol.p0 ∷ kept_back)
    → IsFreed output (hears (stype0 symbol.s0) (hears_report symbol output) symbol.p0)
    (expected_of input) queued
symbol_frees symbol output input queued kept_ahead kept_back covers b =
    let told = hears_report symbol output in
    let kind = stype0 symbol.s0 in
    let does = hears kind told symbol.p0 in
    let expected = expected_of input in
    let prios = report_prios symbol output in
    let same = lent_same output told expected queued (report_oldest symbol output) prios in
    let frees =
    heard_frees kind symbol.p0 told input queued kept_ahead kept_back
    (subst (λ (ps : List ℕ). Covers ps queued) (sym prios) covers)
    (report_between symbol output input queued kept_ahead (tells kind symbol.p0 ∷ kept_back) b) in (
      sym same.0
          ∙ frees.0
          ∙ ap (λ ps. packets_of (take does.freed ps) queued
          ++ lent_until does.state expected (lists_without (take does.freed ps) queued)) prios,
      ap (λ ps. waiting_from does.state expected (lists_without (take does.freed ps) queued))
          (sym prios)
          ∙ frees.1
          ∙ same.1,
    )

-- what is lent and what waits stays
abbrev pub Stays : Output → Output → ℕ → List (List (List ℕ)) → Type 0
Stays output next expected queued =
    (lent_until next expected queued ≡ lent_until output expected queued)
    × (waiting_from next expected queued ≡ waiting_from output expected queued)

started_stays :
    (tells : Bool) (w : Outstanding) (input : Input) (queued : List (List (List ℕ)))
    (kept_ahead : List Forward) (kept_back : List Backward) (waiting : Option ℕ)
    → Covers w.prios queued
    → IsBetween (Output.Ok w) input queued kept_ahead kept_back
    → Stays (Output.Ok w) (started tells w waiting).state (expected_of input) queued
started_stays tells w input queued kept_ahead kept_back None covers b = (refl, refl)
started_stays tells w input queued kept_ahead kept_back (Some prio) covers b =
    let total =
    count_is w.prios queued b.freed b.sent covers
    (omega (arith, b.is.held_first, b.is.sent_first)) b.outstanding in
    let far : distance w.oldest (expected_of input) ≡ b.held - b.freed =
    lent_count (Output.Ok w) input queued kept_ahead kept_back b in
    let same =
    take-append-le (distance w.oldest (expected_of input)) w.prios (prio ∷ [])
    (omega (arith, b.is.sent_first)) in
    (ap (λ ps. packets_of ps queued) same, ap (λ ps. lists_without ps queued) same)

-- nothing is lent by a sender that was asked for a retry
pub none_lent :
    (w : Outstanding) (input : Input) (queued : List (List (List ℕ))) (kept_ahead : List Forward)
    (kept_back : List Backward)
    → IsBetween (Output.RetryStopped w) input queued kept_ahead kept_back
    → distance w.oldest (expected_of input) ≡ 0
none_lent w input queued kept_ahead kept_back b =
    lent_count (Output.RetryStopped w) input queued kept_ahead kept_back b
    ∙ omega (arith, b.is.sender.0)

-- a turn moves nothing
pub turn_stays :
    (tells : Bool) (output : Output) (waiting : Option ℕ) (input : Input)
    (queued : List (List (List ℕ)))
    (kept_ahead : List Forward) (kept_back : List Backward) → Covers (prios_of output) queued
    → IsBetween output input queued kept_ahead kept_back
    → Stays output (turns tells output waiting).state (expected_of input) queued
turn_stays tells (Output.Ok w) waiting input queued kept_ahead kept_back covers b =
    started_stays tells w input queued kept_ahead kept_back (startable w waiting) covers b
turn_stays tells (Output.RetryStopped w) waiting input queued kept_ahead kept_back covers b =
    let none = none_lent w input queued kept_ahead kept_back b in
    rw none (refl, refl)
turn_stays tells (Output.ErrorStopped false w) waiting input queued kept_ahead kept_back covers b =
    (refl, refl)
turn_stays tells (Output.ErrorStopped true w) waiting input queued kept_ahead kept_back covers b =
    (refl, refl)
turn_stays tells Output.Failed waiting input queued kept_ahead kept_back covers b = (refl, refl)

-- nor does a time-out
pub time_out_stays : (output : Output) (expected : ℕ) (queued : List (List (List ℕ)))
    → Stays output (times_out output) expected queued
time_out_stays (Output.Ok w) expected queued = (refl, refl)
time_out_stays _ expected queued = (refl, refl)
