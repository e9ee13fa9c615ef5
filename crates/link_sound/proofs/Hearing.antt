-- What a symbol that comes back does to the direction of the port that hears it.
use Rattle.link_sound.proofs.Prelude.{◌≡◌, ◌⊎◌, ℕ, suc, ◌+◌, ◌-◌, ◌%◌, ◌≤◌, true, false, List, [], ◌∷◌, length, take, drop, inl, inr, sym, ap, ◌∙◌, subst, arith, cases_Bool, le-leb, drop-drop, lists_without, Covers, drop-packets_of, Fields, hears_report, Input, PacketAccepted, PacketRetry, PacketNotAccepted, LinkResponse, OtherStype0, Outstanding, distance, is_oldest, Forward, Backward, Accept, Retry, Response, Sender, prios_of, report_prios, tells, sender_of, receiver_of, IsBetween}
use Rattle.std.proofs.Math.Bool.{and-false}
use Rattle.std.proofs.lemmas.Bool.Decides.{eqb_tells}
use Rattle.link_model.specs.Output.{Output, Stype0, stype0, hears, accepted, retried, responded}
use Rattle.link_sound.proofs.MoveLaws.{lost_front}
use Rattle.link_sound.proofs.SenderMoves.{error_at_ok_direction, error_at_retry_stopped, oldest_accepted, no_accept_at_retry, no_retry_at_retry, oldest_refused, no_response_unasked, answered}
use Rattle.link_sound.proofs.Turning.{count_is, drop_taken}
use Rattle.link_sound.proofs.Reported.{report_between}

-- whether the ackID is that of the oldest packet
pub oldest_cases : (w : Outstanding) (ack : ℕ)
    → ((is_oldest w ack ≡ true) × (ack ≡ w.oldest)) ⊎ (is_oldest w ack ≡ false)
oldest_cases w ack =
    elim (eqb_tells ack w.oldest) [
      | inl (test, same) ↦ elim (cases_Bool (is_oldest w ack)) [
        | inl holds ↦ inl (holds, same)
        | inr fails ↦ inr fails
      ]
      | inr (test, different) ↦ inr (rw test (and-false _))
    ]

-- the symbol is taken away
pub one_lost :
    (output : Output) (input : Input) (queued : List (List (List ℕ))) (kept_ahead : List Forward)
    (mark : Backward) (kept_back : List Backward)
    → IsBetween output input queued kept_ahead (mark ∷ kept_back)
    → IsBetween output input queued kept_ahead kept_back
one_lost output input queued kept_ahead mark kept_back b = record {
  sent = b.sent;
  freed = b.freed;
  held = b.held;
  oldest = b.oldest;
  expected = b.expected;
  outstanding = b.outstanding;
  is =
      lost_front (sender_of output) (receiver_of input) b.freed b.held b.sent [] kept_ahead
      (mark ∷ []) kept_back b.is;
}

-- the sender stops
error_at_ok :
    (w : Outstanding) (input : Input) (queued : List (List (List ℕ))) (kept_ahead : List Forward)
    (kept_back : List Backward)
    → IsBetween (Output.Ok w) input queued kept_ahead kept_back
    → IsBetween (Output.ErrorStopped false w) input queued kept_ahead kept_back
error_at_ok w input queued kept_ahead kept_back b = record {
  sent = b.sent;
  freed = b.freed;
  held = b.held;
  oldest = b.oldest;
  expected = b.expected;
  outstanding = b.outstanding;
  is = error_at_ok_direction (receiver_of input) b.freed b.held b.sent kept_ahead kept_back b.is;
}

error_at_retry :
    (w : Outstanding) (input : Input) (queued : List (List (List ℕ))) (kept_ahead : List Forward)
    (kept_back : List Backward)
    → IsBetween (Output.RetryStopped w) input queued kept_ahead kept_back
    → IsBetween (Output.ErrorStopped false w) input queued kept_ahead kept_back
error_at_retry w input queued kept_ahead kept_back b = record {
  sent = b.sent;
  freed = b.freed;
  held = b.held;
  oldest = b.oldest;
  expected = b.expected;
  outstanding = b.outstanding;
  is = error_at_retry_stopped (receiver_of input) b.freed b.held b.sent kept_ahead kept_back b.is;
}

pub next_oldest : (oldest freed : ℕ) → oldest ≡ freed % 32 → (oldest + 1) % 32 ≡ suc freed % 32
next_oldest oldest freed is = omega arith

accepted_keeps :
    (w : Outstanding) (ack : ℕ) (input : Input) (queued : List (List (List ℕ)))
    (kept_ahead : List Forward) (kept_back : List Backward) → Covers w.prios queued
    → IsBetween (Output.Ok w) input queued kept_ahead (Accept ack ∷ kept_back)
    → IsBetween (accepted w ack).state input
    (lists_without (take (accepted w ack).freed w.prios) queued) kept_ahead kept_back
accepted_keeps w ack input queued kept_ahead kept_back covers b =
    elim (oldest_cases w ack) [
      | inl (holds, same) ↦
          let does =
          oldest_accepted (receiver_of input) b.freed b.held ack b.sent kept_ahead kept_back
          (same ∙ b.oldest) b.is in
          rw holds (record {
            sent = b.sent;
            freed = suc b.freed;
            held = b.held;
            oldest = next_oldest w.oldest b.freed b.oldest;
            expected = b.expected;
            outstanding =
                sym (drop-packets_of 1 w.prios queued covers)
                ∙ ap (drop 1) b.outstanding
                ∙ drop-drop 1 b.freed b.sent
                ∙ ap (λ n. drop n b.sent)
                (let next : b.freed + 1 ≡ suc b.freed = omega arith in next);
            is = does.1;
          })
      | inr fails ↦ rw fails (error_at_ok w input queued kept_ahead kept_back
          (one_lost (Output.Ok w) input queued kept_ahead (Accept ack) kept_back b))
    ]

retried_keeps :
    (w : Outstanding) (ack : ℕ) (input : Input) (queued : List (List (List ℕ)))
    (kept_ahead : List Forward) (kept_back : List Backward)
    → IsBetween (Output.Ok w) input queued kept_ahead (Retry ack ∷ kept_back)
    → IsBetween (retried w ack).state input
    (lists_without (take (retried w ack).freed w.prios) queued) kept_ahead kept_back
retried_keeps w ack input queued kept_ahead kept_back b =
    elim (oldest_cases w ack) [
      | inl (holds, same) ↦ rw holds (record {
        sent = b.sent;
        freed = b.freed;
        held = b.held;
        oldest = b.oldest;
        expected = b.expected;
        outstanding = b.outstanding;
        is =
            oldest_refused (receiver_of input) b.freed b.held ack b.sent kept_ahead kept_back
            (same ∙ b.oldest) b.is;
      })
      | inr fails ↦ rw fails (error_at_ok w input queued kept_ahead kept_back
          (one_lost (Output.Ok w) input queued kept_ahead (Retry ack) kept_back b))
    ]

-- what a link-response counts: all that the receiver held, and no more than is outstanding
pub response_counts :
    (w : Outstanding) (ack : ℕ) (input : Input) (queued : List (List (List ℕ)))
    (kept_ahead : List Forward) (kept_back : List Backward) → Covers w.prios queued
    → (b : IsBetween (Output.ErrorStopped true w) input queued kept_ahead
    (Response ack ∷ kept_back))
    → (distance w.oldest ack ≡ b.held - b.freed) × (distance w.oldest ack ≤ length w.prios)
response_counts w ack input queued kept_ahead kept_back covers b =
    let does = answered (receiver_of input) b.freed b.held ack b.sent kept_ahead kept_back b.is in
    let far : distance w.oldest ack ≡ b.held - b.freed =
    ap (λ oldest. distance oldest ack) b.oldest ∙ does.1 in
    let total =
    count_is w.prios queued b.freed b.sent covers
    (omega (arith, b.is.held_first, b.is.sent_first)) b.outstanding in
    let within : distance w.oldest ack ≤ length w.prios = omega (arith, b.is.sent_first) in
    (far, within)

responded_keeps :
    (w : Outstanding) (ack : ℕ) (input : Input) (queued : List (List (List ℕ)))
    (kept_ahead : List Forward) (kept_back : List Backward) → Covers w.prios queued
    → IsBetween (Output.ErrorStopped true w) input queued kept_ahead (Response ack ∷ kept_back)
    → IsBetween (responded true w ack).state input
    (lists_without (take (responded true w ack).freed w.prios) queued) kept_ahead kept_back
responded_keeps w ack input queued kept_ahead kept_back covers b =
    let does = answered (receiver_of input) b.freed b.held ack b.sent kept_ahead kept_back b.is in
    let counts = response_counts w ack input queued kept_ahead kept_back covers b in
    rw (le-leb (distance w.oldest ack) (length w.prios) counts.1) (record {
      sent = take b.held b.sent;
      freed = b.held;
      held = b.held;
      oldest = does.0;
      expected = b.expected;
      outstanding = sym (drop_taken b.held b.sent);
      is = does.2;
    })

-- a sender that has not asked is told nothing by a link-response
pub no_response :
    (output : Output) (ack : ℕ) (input : Input) (queued : List (List (List ℕ)))
    (kept_ahead : List Forward) (kept_back : List Backward)
    → IsBetween output input queued kept_ahead (Response ack ∷ kept_back)
    → sender_of output ≡ Sender.ErrorStoppedAsked
no_response output ack input queued kept_ahead kept_back b =
    no_response_unasked (sender_of output) (receiver_of input) b.freed b.held ack b.sent kept_ahead
    kept_back b.is

pub heard_keeps :
    (kind : Stype0) (ack : ℕ) (output : Output) (input : Input) (queued : List (List (List ℕ)))
    (kept_ahead : List Forward) (kept_back : List Backward)
    → Covers (prios_of output) queued
    → IsBetween output input queued kept_ahead (tells kind ack ∷ kept_back)
    → IsBetween (hears kind output ack).state input
    (lists_without (take (hears kind output ack).freed (prios_of output)) queued) kept_ahead
    kept_back
heard_keeps PacketAccepted ack (Output.Ok w) input queued kept_ahead kept_back covers b =
    accepted_keeps w ack input queued kept_ahead kept_back covers b
heard_keeps PacketAccepted ack (Output.RetryStopped w) input queued kept_ahead kept_back covers b =
    absurd
    (no_accept_at_retry (receiver_of input) b.freed b.held ack b.sent kept_ahead kept_back b.is)
heard_keeps PacketAccepted ack (Output.ErrorStopped asked w) input queued kept_ahead kept_back
    covers b =
    one_lost (Output.ErrorStopped asked w) input queued kept_ahead (Accept ack) kept_back b
heard_keeps PacketAccepted ack Output.Failed input queued kept_ahead kept_back covers b =
    one_lost Output.Failed input queued kept_ahead (Accept ack) kept_back b
heard_keeps PacketRetry ack (Output.Ok w) input queued kept_ahead kept_back covers b =
    retried_keeps w ack input queued kept_ahead kept_back b
heard_keeps PacketRetry ack (Output.RetryStopped w) input queued kept_ahead kept_back covers b =
    absurd
    (no_retry_at_retry (receiver_of input) b.freed b.held ack b.sent kept_ahead kept_back b.is)
heard_keeps PacketRetry ack (Output.ErrorStopped asked w) input queued kept_ahead kept_back covers
    b =
    one_lost (Output.ErrorStopped asked w) input queued kept_ahead (Retry ack) kept_back b
heard_keeps PacketRetry ack Output.Failed input queued kept_ahead kept_back covers b =
    one_lost Output.Failed input queued kept_ahead (Retry ack) kept_back b
heard_keeps PacketNotAccepted ack (Output.Ok w) input queued kept_ahead kept_back covers b =
    error_at_ok w input queued kept_ahead kept_back
    (one_lost (Output.Ok w) input queued kept_ahead _ kept_back b)
heard_keeps PacketNotAccepted ack (Output.RetryStopped w) input queued kept_ahead kept_back covers
    b =
    error_at_retry w input queued kept_ahead kept_back
    (one_lost (Output.RetryStopped w) input queued kept_ahead _ kept_back b)
heard_keeps LinkResponse ack (Output.Ok w) input queued kept_ahead kept_back covers b =
    let asked = no_response (Output.Ok w) ack input queued kept_ahead kept_back b in absurd cc
heard_keeps LinkResponse ack (Output.RetryStopped w) input queued kept_ahead kept_back covers b =
    let asked = no_response (Output.RetryStopped w) ack input queued kept_ahead kept_back b in
    absurd cc
heard_keeps LinkResponse ack (Output.ErrorStopped false w) input queued kept_ahead kept_back covers
    b =
    let asked = no_response (Output.ErrorStopped false w) ack input queued kept_ahead kept_back b in
    absurd cc
heard_keeps LinkResponse ack (Output.ErrorStopped true w) input queued kept_ahead kept_back covers
    b =
    responded_keeps w ack input queued kept_ahead kept_back covers b
heard_keeps LinkResponse ack Output.Failed input queued kept_ahead kept_back covers b =
    one_lost Output.Failed input queued kept_ahead (Response ack) kept_back b
heard_keeps OtherStype0 ack (Output.Ok w) input queued kept_ahead kept_back covers b =
    one_lost (Output.Ok w) input queued kept_ahead _ kept_back b
heard_keeps OtherStype0 ack (Output.RetryStopped w) input queued kept_ahead kept_back covers b =
    one_lost (Output.RetryStopped w) input queued kept_ahead _ kept_back b
heard_keeps _ ack (Output.ErrorStopped asked w) input queued kept_ahead kept_back covers b =
    one_lost (Output.ErrorStopped asked w) input queued kept_ahead _ kept_back b
heard_keeps _ ack Output.Failed input queued kept_ahead kept_back covers b =
    one_lost Output.Failed input queued kept_ahead _ kept_back b

-- a symbol: its report, and then what it says
pub symbol_heard :
    (symbol : Fields) (output : Output) (input : Input) (queued : List (List (List ℕ)))
    (kept_ahead : List Forward) (kept_back : List Backward)
    → Covers (prios_of output) queued
    → IsBetween output input queued kept_ahead
    (tells (stype0 symbol.s0) symbol.p0 ∷ kept_back)
    → IsBetween (hears (stype0 symbol.s0) (hears_report symbol output) symbol.p0).state input
    (lists_without (take (hears (stype0 symbol.s0) (hears_report symbol output) symbol.p0).freed
    (prios_of output)) queued) kept_ahead kept_back
symbol_heard symbol output input queued kept_ahead kept_back covers b =
    let told = hears_report symbol output in
    let kind = stype0 symbol.s0 in
    let same = report_prios symbol output in
    subst (λ (ps : List ℕ). IsBetween (hears kind told symbol.p0).state input
    (lists_without (take (hears kind told symbol.p0).freed ps) queued) kept_ahead kept_back) same
    (heard_keeps kind symbol.p0 told input queued kept_ahead kept_back
    (subst (λ (ps : List ℕ). Covers ps queued) (sym same) covers)
    (report_between symbol output input queued kept_ahead (tells kind symbol.p0 ∷ kept_back) b))
