-- Each step of a port leaves a port: what is true of every port stays true.
use Rattle.link_sound.proofs.Prelude.{◌≡◌, ℕ, ◌-◌, ◌%◌, ◌<◌, ◌≤◌, Bool, true, false, Option, Some, None, IfSome, List, [], ◌∷◌, length, take, inl, inr, refl, sym, ap, ◌∙◌, subst, arith, length-append, length-drop, cases_lt, le-leb, All-nil, All-cons, All-drop, All-append, lists_without, highest, Covers, Covers-drop, Covers-highest, highest_below-some, Fields, Input, Output, hears, hears_report, turns, times_out, Outstanding, IsOutstanding, distance, from_ack, window, PacketAccepted, PacketRetry, PacketNotAccepted, LinkResponse, OtherStype0, without_oldest, with_next, Report, IsReport, startable-full, startable-open, prios_of, IsOutput, report_prios, Forward, Backward, Response, tells, receiver_of, IsBetween, credited_some}
use Rattle.link_model.specs.Output.{Stype0, stype0, accepted, retried, responded, started, credited}
use Rattle.link_sound.proofs.SenderMoves.{answered}
use Rattle.link_sound.proofs.Hearing.{oldest_cases}
use Rattle.link_sound.proofs.Turning.{count_is}
use Rattle.link_sound.proofs.Reported.{report_between, report_output}

-- an output half, and the packets that it may have to send
pub record IsSender (output : Output) (queued : List (List (List ℕ))) : Type 0 where
  pub window_is : IsOutput output
  pub covered : Covers (prios_of output) queued

pub covers_none : (queued : List (List (List ℕ))) → Covers [] queued
covers_none queued prio = omega arith

pub nothing_from : (ack : ℕ) (report : Option Report) → ack < 32 → IfSome report IsReport
    → IsOutstanding (from_ack ack report)
nothing_from ack report below is = record {
  oldest = below;
  few = omega arith;
  prios = All-nil (λ (prio : ℕ). prio < 4);
  report = is;
}

-- the oldest packet is acknowledged
fewer : (w : Outstanding) → IsOutstanding w → IsOutstanding (without_oldest w)
fewer w is = record {
  oldest = omega arith;
  few = omega (arith, is.few, length-drop 1 w.prios);
  prios = All-drop (λ (prio : ℕ). prio < 4) 1 w.prios is.prios;
  report = is.report;
}

-- one more packet is outstanding
more : (w : Outstanding) (prio : ℕ) → length w.prios < window → prio < 4 → IsOutstanding w
    → IsOutstanding (with_next w prio)
more w prio room few is = record {
  oldest = is.oldest;
  few = omega (arith, length-append w.prios (prio ∷ []));
  prios =
      All-append (λ (p : ℕ). p < 4) w.prios (prio ∷ []) is.prios
      (All-cons (λ (p : ℕ). p < 4) prio [] few (All-nil (λ (p : ℕ). p < 4)));
  report = is.report;
}

-- a turn
started_sends :
    (tells : Bool) (w : Outstanding) (queued : List (List (List ℕ))) (starts : Option ℕ)
    → length w.prios < window
    → ((prio : ℕ) → starts ≡ Some prio → highest (lists_without w.prios queued) ≡ Some prio)
    → IsSender (Output.Ok w) queued → IsSender (started tells w starts).state queued
started_sends tells w queued None room waits s = s
started_sends tells w queued (Some prio) room waits s = record {
  window_is =
      more w prio room
      (highest_below-some 4 prio (lists_without w.prios queued) (waits prio refl)).0 s.window_is;
  covered = Covers-highest w.prios prio queued s.covered (waits prio refl);
}

pub turn_sends :
    (tells : Bool) (output : Output) (queued : List (List (List ℕ))) → IsSender output queued
    → IsSender (turns tells output (highest (lists_without (prios_of output) queued))).state queued
turn_sends tells (Output.Ok w) queued s =
    let waiting = highest (lists_without w.prios queued) in
    elim (cases_lt (length w.prios) window) [
      | inl few ↦ rw (startable-open w waiting few)
          (started_sends tells w queued (credited w waiting) few (credited_some w waiting) s)
      | inr full ↦ rw (startable-full w waiting full) s
    ]
turn_sends tells (Output.RetryStopped w) queued s = record {
  window_is = nothing_from w.oldest w.report s.window_is.oldest s.window_is.report;
  covered = covers_none queued;
}
turn_sends tells (Output.ErrorStopped false w) queued s = record {
  window_is = s.window_is;
  covered = s.covered;
}
turn_sends tells _ queued s = s

-- a time-out
pub time_out_sends : (output : Output) (queued : List (List (List ℕ))) → IsSender output queued
    → IsSender (times_out output) queued
time_out_sends (Output.Ok w) queued s = record { window_is = s.window_is; covered = s.covered }
time_out_sends (Output.ErrorStopped asked w) queued s = record {
  window_is = s.window_is;
  covered = s.covered;
}
time_out_sends _ queued s = s

-- what comes back
accepted_sends : (w : Outstanding) (ack : ℕ) (queued : List (List (List ℕ)))
    → IsSender (Output.Ok w) queued
    → IsSender (accepted w ack).state (lists_without (take (accepted w ack).freed w.prios) queued)
accepted_sends w ack queued s =
    elim (oldest_cases w ack) [
      | inl (holds, same) ↦ rw holds (record {
        window_is = fewer w s.window_is;
        covered = Covers-drop 1 w.prios queued s.covered;
      })
      | inr fails ↦ rw fails (record { window_is = s.window_is; covered = s.covered })
    ]

retried_sends : (w : Outstanding) (ack : ℕ) (queued : List (List (List ℕ)))
    → IsSender (Output.Ok w) queued
    → IsSender (retried w ack).state (lists_without (take (retried w ack).freed w.prios) queued)
retried_sends w ack queued s =
    elim (oldest_cases w ack) [
      | inl (holds, same) ↦ rw holds (record { window_is = s.window_is; covered = s.covered })
      | inr fails ↦ rw fails (record { window_is = s.window_is; covered = s.covered })
    ]

below_32 : (ack held : ℕ) → ack ≡ held % 32 → ack < 32
below_32 ack held is = omega arith

responded_sends :
    (w : Outstanding) (ack : ℕ) (input : Input) (queued : List (List (List ℕ)))
    (kept_ahead : List Forward) (kept_back : List Backward)
    → IsBetween (Output.ErrorStopped true w) input queued kept_ahead (Response ack ∷ kept_back)
    → IsSender (Output.ErrorStopped true w) queued
    → IsSender (responded true w ack).state
    (lists_without (take (responded true w ack).freed w.prios) queued)
responded_sends w ack input queued kept_ahead kept_back b s =
    let does = answered (receiver_of input) b.freed b.held ack b.sent kept_ahead kept_back b.is in
    let far : distance w.oldest ack ≡ b.held - b.freed =
    ap (λ oldest. distance oldest ack) b.oldest ∙ does.1 in
    let total =
    count_is w.prios queued b.freed b.sent s.covered
    (omega (arith, b.is.held_first, b.is.sent_first)) b.outstanding in
    let within : distance w.oldest ack ≤ length w.prios = omega (arith, b.is.sent_first) in
    rw (le-leb (distance w.oldest ack) (length w.prios) within) (record {
      window_is = nothing_from ack w.report (below_32 ack b.held does.0) s.window_is.report;
      covered = covers_none (lists_without (take (distance w.oldest ack) w.prios) queued);
    })

-- a sender that stopped knows of the same packets
stopped_sends : (w : Outstanding) (queued : List (List (List ℕ))) → IsOutstanding w
    → Covers w.prios queued → IsSender (Output.ErrorStopped false w) queued
stopped_sends w queued is covered = record { window_is = is; covered = covered }

pub heard_sends :
    (kind : Stype0) (ack : ℕ) (output : Output) (input : Input) (queued : List (List (List ℕ)))
    (kept_ahead : List Forward) (kept_back : List Backward)
    → IsBetween output input queued kept_ahead (tells kind ack ∷ kept_back) → IsSender output queued
    → IsSender (hears kind output ack).state
    (lists_without (take (hears kind output ack).freed (prios_of output)) queued)
heard_sends PacketAccepted ack (Output.Ok w) input queued kept_ahead kept_back b s =
    accepted_sends w ack queued s
heard_sends PacketAccepted ack Output.Failed input queued kept_ahead kept_back b s = s
heard_sends PacketRetry ack (Output.Ok w) input queued kept_ahead kept_back b s =
    retried_sends w ack queued s
heard_sends PacketNotAccepted ack (Output.Ok w) input queued kept_ahead kept_back b s =
    stopped_sends w queued s.window_is s.covered
heard_sends LinkResponse ack (Output.RetryStopped w) input queued kept_ahead kept_back b s = s
heard_sends LinkResponse ack (Output.ErrorStopped false w) input queued kept_ahead kept_back b s = s
heard_sends LinkResponse ack (Output.ErrorStopped true w) input queued kept_ahead kept_back b s =
    responded_sends w ack input queued kept_ahead kept_back b s
heard_sends _ ack (Output.Ok w) input queued kept_ahead kept_back b s = s
heard_sends OtherStype0 ack (Output.RetryStopped w) input queued kept_ahead kept_back b s = s
heard_sends _ ack (Output.RetryStopped w) input queued kept_ahead kept_back b s =
    stopped_sends w queued s.window_is s.covered
heard_sends _ ack (Output.ErrorStopped asked w) input queued kept_ahead kept_back b s = s
heard_sends _ ack Output.Failed input queued kept_ahead kept_back b s = s

-- a symbol: its report, and then what it says
pub symbol_sends :
    (symbol : Fields) (output : Output) (input : Input) (queued : List (List (List ℕ)))
    (kept_ahead : List Forward) (kept_back : List Backward) → symbol.p0 < 32
    → IsBetween output input queued kept_ahead
    (tells (stype0 symbol.s0) symbol.p0 ∷ kept_back) → IsSender output queued
    → IsSender (hears (stype0 symbol.s0) (hears_report symbol output) symbol.p0).state
    (lists_without (take (hears (stype0 symbol.s0) (hears_report symbol output) symbol.p0).freed
    (prios_of output)) queued)
symbol_sends symbol output input queued kept_ahead kept_back below b s =
    let told = hears_report symbol output in
    let kind = stype0 symbol.s0 in
    let same = report_prios symbol output in
    subst (λ (ps : List ℕ). IsSender (hears kind told symbol.p0).state
    (lists_without (take (hears kind told symbol.p0).freed ps) queued)) same
    (heard_sends kind symbol.p0 told input queued kept_ahead kept_back
    (report_between symbol output input queued kept_ahead (tells kind symbol.p0 ∷ kept_back) b)
    (record {
      window_is = report_output symbol output below s.window_is;
      covered = subst (λ (ps : List ℕ). Covers ps queued) (sym same) s.covered;
    }))
