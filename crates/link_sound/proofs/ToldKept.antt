-- What an output half keeps of what it was told: each step keeps its last report, has none, or has
-- that of a symbol that it heard.
use Rattle.link_sound.proofs.Prelude.{◌≡◌, ℕ, nat_lt, nat_le, Bool, true, false, Option, Some, None, IfSome, IsTrue, refl, sym, if◌then◌else◌, Fields, Outstanding, from_ack, distance, Output, hears, hears_report, turns, times_out, untold, Report, has_buffer_status, base_of, report_of, is_oldest, without_oldest, Stype0, reported, started, startable, Ctl, last_report, TellsAs}
use Rattle.link_model.specs.Output as out

-- what is kept is true of reports
abbrev pub Keeps : (Report → Type 0) → Output → Type 0
Keeps P output = IfSome (last_report output) P

accepted_keeps : (P : Report → Type 0) (is : Bool) (w : Outstanding) → IfSome w.report P
    → Keeps P (if is then out.heard (Output.Ok (without_oldest w)) 1 else out.error w).state
accepted_keeps P true w keeps = keeps
accepted_keeps P false w keeps = keeps

retried_keeps : (P : Report → Type 0) (is : Bool) (w : Outstanding) → IfSome w.report P
    → Keeps P (if is then out.heard (Output.RetryStopped w) 0 else out.error w).state
retried_keeps P true w keeps = keeps
retried_keeps P false w keeps = keeps

responded_keeps :
    (P : Report → Type 0) (few : Bool) (w : Outstanding) (ack count : ℕ) → IfSome w.report P
    → Keeps P (if few then out.heard (Output.Ok (from_ack ack w.report)) count
    else out.heard Output.Failed 0).state
responded_keeps P true w ack count keeps = keeps
responded_keeps P false w ack count keeps = tt

pub hears_keeps : (P : Report → Type 0) (what : Stype0) (output : Output) (ack : ℕ)
    → Keeps P output → Keeps P (hears what output ack).state
hears_keeps P Stype0.PacketAccepted (Output.Ok w) ack keeps =
    accepted_keeps P (is_oldest w ack) w keeps
hears_keeps P Stype0.PacketAccepted (Output.RetryStopped w) ack keeps = keeps
hears_keeps P Stype0.PacketAccepted Output.Failed ack keeps = keeps
hears_keeps P Stype0.PacketRetry (Output.Ok w) ack keeps =
    retried_keeps P (is_oldest w ack) w keeps
hears_keeps P Stype0.LinkResponse (Output.ErrorStopped false w) ack keeps = keeps
hears_keeps P Stype0.LinkResponse (Output.ErrorStopped true w) ack keeps =
    responded_keeps P (nat_le (distance w.oldest ack) _) w ack (distance w.oldest ack) keeps
hears_keeps P _ (Output.Ok w) ack keeps = keeps
hears_keeps P _ (Output.RetryStopped w) ack keeps = keeps
hears_keeps P _ (Output.ErrorStopped asked w) ack keeps = keeps
hears_keeps P _ Output.Failed ack keeps = keeps

pub reported_keeps : (P : Report → Type 0) (report : Option Report) (output : Output)
    → IfSome report P → Keeps P (reported report output)
reported_keeps P report Output.Failed is = tt
reported_keeps P report _ is = is

-- the report of a symbol tells as its port does
report_tells : (tells : Bool) (base free : ℕ) (few : Bool) → nat_lt free untold ≡ few
    → few ≡ tells
    → IfSome (if few then Some (record { base = base; free = free }) else None)
    (λ (report : Report). tells ≡ true)
report_tells tells base free true is same = sym same
report_tells tells base free false is same = tt

told_keeps :
    (tells has : Bool) (base free : ℕ) (output : Output)
    → (IsTrue has → nat_lt free untold ≡ tells)
    → Keeps (λ report. tells ≡ true) output
    → Keeps (λ report. tells ≡ true)
    (if has then reported (report_of base free) output else output)
told_keeps tells true base free output is keeps =
    reported_keeps (λ report. tells ≡ true) (report_of base free) output
    (report_tells tells base free (nat_lt free untold) refl (is refl))
told_keeps tells false base free output is keeps = keeps

-- a symbol is heard
pub report_keeps : (tells : Bool) (symbol : Fields) (output : Output) → TellsAs tells (Ctl symbol)
    → Keeps (λ report. tells ≡ true) output
    → Keeps (λ report. tells ≡ true) (hears_report symbol output)
report_keeps tells symbol output is keeps =
    told_keeps tells (has_buffer_status symbol.s0) (base_of symbol.s0 symbol.p0) symbol.p1 output
    is keeps

started_report : (tells : Bool) (w : Outstanding) (waiting : Option ℕ)
    → last_report (started tells w waiting).state ≡ w.report
started_report tells w None = refl
started_report tells w (Some prio) = refl

-- a turn keeps the last report
pub turns_report : (tells : Bool) (output : Output) (waiting : Option ℕ)
    → last_report (turns tells output waiting).state ≡ last_report output
turns_report tells (Output.Ok w) waiting = started_report tells w (startable w waiting)
turns_report tells (Output.RetryStopped w) waiting = refl
turns_report tells (Output.ErrorStopped false w) waiting = refl
turns_report tells (Output.ErrorStopped true w) waiting = refl
turns_report tells Output.Failed waiting = refl

-- a time-out keeps it
pub times_out_report : (output : Output) → last_report (times_out output) ≡ last_report output
times_out_report (Output.Ok w) = refl
times_out_report _ = refl
