-- A report that comes leaves a sender as it is, but for its last report.
use Rattle.link_sound.proofs.Prelude.{◌≡◌, ℕ, ◌+◌, ◌%◌, ◌<◌, ◌==◌, Bool, true, false, if◌then◌else◌, IfSome, List, Option, inl, inr, refl, ap, ◌∙◌, sym, subst, arith, cases_lt, lt-ltb, le-ltb, Fields, Input, Output, untold, hears_report, Report, reported, IsReport, has_buffer_status, base_of, report_of, IsOutput, report_prios, packets_of, Forward, Backward, Sender, IsDirection, sender_of, receiver_of, oldest_of, IsBetween}

reported_sender : (report : Option Report) (output : Output)
    → sender_of (reported report output) ≡ sender_of output
reported_sender report (Output.Ok w) = refl
reported_sender report (Output.RetryStopped w) = refl
reported_sender report (Output.ErrorStopped false w) = refl
reported_sender report (Output.ErrorStopped true w) = refl
reported_sender report Output.Failed = refl

reported_oldest : (report : Option Report) (output : Output)
    → oldest_of (reported report output) ≡ oldest_of output
reported_oldest report (Output.Ok w) = refl
reported_oldest report (Output.RetryStopped w) = refl
reported_oldest report (Output.ErrorStopped asked w) = refl
reported_oldest report Output.Failed = refl

-- what the same output half is, whether there is a report or not
told_as :
    {X : Type 0} (of : Output → X) (has : Bool) (report : Option Report) (output : Output)
    → of (reported report output) ≡ of output
    → of (if has then reported report output else output) ≡ of output
told_as of true report output same = same
told_as of false report output same = refl

pub report_sender : (symbol : Fields) (output : Output)
    → sender_of (hears_report symbol output) ≡ sender_of output
report_sender symbol output =
    told_as sender_of (has_buffer_status symbol.s0)
    (report_of (base_of symbol.s0 symbol.p0) symbol.p1) output (reported_sender _ output)

pub report_oldest : (symbol : Fields) (output : Output)
    → oldest_of (hears_report symbol output) ≡ oldest_of output
report_oldest symbol output =
    told_as oldest_of (has_buffer_status symbol.s0)
    (report_of (base_of symbol.s0 symbol.p0) symbol.p1) output (reported_oldest _ output)

-- its direction stays
pub report_between :
    (symbol : Fields) (output : Output) (input : Input) (queued : List (List (List ℕ)))
    (kept_ahead : List Forward) (kept_back : List Backward)
    → IsBetween output input queued kept_ahead kept_back
    → IsBetween (hears_report symbol output) input queued kept_ahead kept_back
report_between symbol output input queued kept_ahead kept_back b = record {
  sent = b.sent;
  freed = b.freed;
  held = b.held;
  oldest = report_oldest symbol output ∙ b.oldest;
  expected = b.expected;
  outstanding = ap (λ ps. packets_of ps queued) (report_prios symbol output) ∙ b.outstanding;
  is =
      subst (λ (s : Sender). IsDirection s (receiver_of input) b.freed b.held b.sent kept_ahead
      kept_back) (sym (report_sender symbol output)) b.is;
}

-- the report of a buffer status is one
report_is : (base free : ℕ) → base < 32 → IfSome (report_of base free) IsReport
report_is base free below =
    elim (cases_lt free untold) [
      | inl less ↦ rw (lt-ltb free untold less) (record { base = below; free = less })
      | inr most ↦ rw (le-ltb free untold most) tt
    ]

based : (accepts : Bool) (ack : ℕ) → ack < 32 → (if accepts then (ack + 1) % 32 else ack) < 32
based true ack below = omega arith
based false ack below = below

reported_output : (report : Option Report) (output : Output) → IfSome report IsReport
    → IsOutput output → IsOutput (reported report output)
reported_output report (Output.Ok w) new is = record {
  oldest = is.oldest;
  few = is.few;
  prios = is.prios;
  report = new;
}
reported_output report (Output.RetryStopped w) new is = record {
  oldest = is.oldest;
  few = is.few;
  prios = is.prios;
  report = new;
}
reported_output report (Output.ErrorStopped asked w) new is = record {
  oldest = is.oldest;
  few = is.few;
  prios = is.prios;
  report = new;
}
reported_output report Output.Failed new is = is

told_output :
    (has : Bool) (report : Option Report) (output : Output) → IfSome report IsReport
    → IsOutput output → IsOutput (if has then reported report output else output)
told_output true report output new is = reported_output report output new is
told_output false report output new is = is

pub report_output : (symbol : Fields) (output : Output) → symbol.p0 < 32 → IsOutput output
    → IsOutput (hears_report symbol output)
report_output symbol output below is =
    told_output (has_buffer_status symbol.s0)
    (report_of (base_of symbol.s0 symbol.p0) symbol.p1) output
    (report_is (base_of symbol.s0 symbol.p0) symbol.p1 (based (symbol.s0 == 0) symbol.p0 below)) is
