-- What a symbol leaves outstanding is still among the packets to be sent.
use Rattle.std.proofs.Common.{◌≡◌, ℕ, Bool, true, false, nat_le, Option, List, length, take, if◌then◌else◌, refl, arith}
use Rattle.rio_symbols.specs.Fields.{Fields}
use Rattle.link_buffers.specs.Priorities.{lists_without, Covers}
use Rattle.link_buffers.proofs.PriorityLaws.{Covers-drop}
use Rattle.link_model.specs.Output.{Output, Stype0, Heard, hears, hears_report, heard, error, reported}
use Rattle.link_model.specs.Outstanding.{Outstanding, is_oldest, without_oldest, from_ack, distance}
use Rattle.link_model.specs.declared.reports.Report.{Report}
use Rattle.link_model.specs.Reports.{has_buffer_status, base_of, report_of}
use Rattle.link_port.specs.States.{prios_of}

-- a report leaves what is outstanding
reported_prios : (report : Option Report) (output : Output)
    → prios_of (reported report output) ≡ prios_of output
reported_prios report (Output.Ok w) = refl
reported_prios report (Output.RetryStopped w) = refl
reported_prios report (Output.ErrorStopped asked w) = refl
reported_prios report Output.Failed = refl

told_prios : (has : Bool) (report : Option Report) (output : Output)
    → prios_of (if has then reported report output else output) ≡ prios_of output
told_prios true report output = reported_prios report output
told_prios false report output = refl

pub report_prios : (symbol : Fields) (output : Output)
    → prios_of (hears_report symbol output) ≡ prios_of output
report_prios symbol output =
    told_prios (has_buffer_status symbol.s0)
    (report_of (base_of symbol.s0 symbol.p0) symbol.p1) output

-- the outstanding packets are those that were, without the ones that left the store
abbrev KeepsCover : Output → List (List (List ℕ)) → Heard → Type 0
KeepsCover output queued does =
    Covers (prios_of does.state) (lists_without (take does.freed (prios_of output)) queued)

acknowledged_covers : (is : Bool) (w : Outstanding) (queued : List (List (List ℕ)))
    → Covers w.prios queued
    → KeepsCover (Output.Ok w) queued
    (if is then heard (Output.Ok (without_oldest w)) 1 else error w)
acknowledged_covers true w queued covers = Covers-drop 1 w.prios queued covers
acknowledged_covers false w queued covers = covers

retried_covers : (is : Bool) (w : Outstanding) (queued : List (List (List ℕ)))
    → Covers w.prios queued
    → KeepsCover (Output.Ok w) queued
    (if is then heard (Output.RetryStopped w) 0 else error w)
retried_covers true w queued covers = covers
retried_covers false w queued covers = covers

responded_covers : (few : Bool) (w : Outstanding) (ack count : ℕ) (queued : List (List (List ℕ)))
    → KeepsCover (Output.ErrorStopped true w) queued
    (if few then heard (Output.Ok (from_ack ack w.report)) count else heard Output.Failed 0)
responded_covers true w ack count queued = λ prio. omega arith
responded_covers false w ack count queued = λ prio. omega arith

pub heard_covers : (what : Stype0) (output : Output) (ack : ℕ) (queued : List (List (List ℕ)))
    → Covers (prios_of output) queued → KeepsCover output queued (hears what output ack)
heard_covers Stype0.PacketAccepted (Output.Ok w) ack queued covers =
    acknowledged_covers (is_oldest w ack) w queued covers
heard_covers Stype0.PacketAccepted (Output.RetryStopped w) ack queued covers = covers
heard_covers Stype0.PacketAccepted (Output.ErrorStopped asked w) ack queued covers = covers
heard_covers Stype0.PacketAccepted Output.Failed ack queued covers = covers
heard_covers Stype0.PacketRetry (Output.Ok w) ack queued covers =
    retried_covers (is_oldest w ack) w queued covers
heard_covers Stype0.PacketRetry (Output.RetryStopped w) ack queued covers = covers
heard_covers Stype0.PacketRetry (Output.ErrorStopped asked w) ack queued covers = covers
heard_covers Stype0.PacketRetry Output.Failed ack queued covers = covers
heard_covers Stype0.PacketNotAccepted (Output.Ok w) ack queued covers = covers
heard_covers Stype0.PacketNotAccepted (Output.RetryStopped w) ack queued covers = covers
heard_covers Stype0.PacketNotAccepted (Output.ErrorStopped asked w) ack queued covers = covers
heard_covers Stype0.PacketNotAccepted Output.Failed ack queued covers = covers
heard_covers Stype0.LinkResponse (Output.Ok w) ack queued covers = covers
heard_covers Stype0.LinkResponse (Output.RetryStopped w) ack queued covers = covers
heard_covers Stype0.LinkResponse (Output.ErrorStopped false w) ack queued covers = covers
heard_covers Stype0.LinkResponse (Output.ErrorStopped true w) ack queued covers =
    responded_covers (nat_le (distance w.oldest ack) (length w.prios)) w ack
    (distance w.oldest ack) queued
heard_covers Stype0.LinkResponse Output.Failed ack queued covers = covers
heard_covers Stype0.OtherStype0 (Output.Ok w) ack queued covers = covers
heard_covers Stype0.OtherStype0 (Output.RetryStopped w) ack queued covers = covers
heard_covers Stype0.OtherStype0 (Output.ErrorStopped asked w) ack queued covers = covers
heard_covers Stype0.OtherStype0 Output.Failed ack queued covers = covers
