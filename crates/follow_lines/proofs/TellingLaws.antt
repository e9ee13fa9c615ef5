-- The verdict is told.
use Rattle.std.proofs.Common.{if◌then◌else◌, ◌≡◌, ℕ, Bool, true, false, Option, Result, Ok, Err, ◌⊎◌, List, [], ◌++◌, inl, inr, refl, sym, ap, ◌∙◌, subst}
use Rattle.std.proofs.KnownBytes.{Appends-nil}
use Rattle.rio_chars.specs.Written.{Outgoing, Writes}
use Rattle.rio_chars.proofs.WrittenLaws.{Writes-then, Writes-whole, Writes-front, Writes-rose}
use Rattle.live_lines.specs.Serving.{WritesAll}
use Rattle.trace_check.specs.declared.expecting.Expected.{Expected}
use Rattle.follow_lines.specs.declared.ends.FollowEnd.{FollowEnd}
use Rattle.follow_lines.specs.declared.ends.FollowEnd.TheVariants as F
use Rattle.follow_lines.specs.FollowEnds.{end_of_verdict}
use Rattle.follow_lines.specs.Following.{FollowsAll, FollowsInput, HasWritten, IsWritten, TellsVerdict, WritesToEnd}
use Rattle.follow_lines.proofs.ReadingLaws.{Reads-none}

-- what was written at once, by how it ended
pub has_written : (verdict : Result ℕ FollowEnd) (was end : FollowEnd) (out : Outgoing)
    → (was ≡ end_of_verdict verdict) ⊎ (was ≡ F.NoMemory)
    → end ≡ (if out.failed then F.WriteFault else was) → out.waiting ≡ []
    → HasWritten verdict end out
has_written verdict was end out which is empty = record {
  empty = empty;
  fault = λ failed. is ∙ ap (λ b. if b then F.WriteFault else was) failed;
  fine = λ fine.
      let same = is ∙ ap (λ b. if b then F.WriteFault else was) fine in
      elim which as (λ _. (end ≡ end_of_verdict verdict) ⊎ (end ≡ F.NoMemory))
      [ inl ends ↦ inl (same ∙ ends) | inr memory ↦ inr (same ∙ memory) ];
}

-- memory for the verdict was not given
no_memory : (end : FollowEnd) (out : Outgoing)
    → end ≡ (if out.failed then F.WriteFault else F.NoMemory)
    → (end ≡ F.NoMemory) ⊎ (end ≡ F.WriteFault)
no_memory end out is = by_failed out.failed is
  where
    by_failed : (b : Bool) → end ≡ (if b then F.WriteFault else F.NoMemory)
        → (end ≡ F.NoMemory) ⊎ (end ≡ F.WriteFault)
    by_failed true is = inr is
    by_failed false is = inl is

-- memory for the line was not given, so nothing was told
pub untold : (verdict : Result ℕ FollowEnd) (end : FollowEnd) (begun out : Outgoing)
    → Writes begun out [] → end ≡ (if out.failed then F.WriteFault else F.NoMemory)
    → out.waiting ≡ []
    → ((end ≡ F.NoMemory) ⊎ (end ≡ F.WriteFault)) × Writes begun out []
    × HasWritten verdict end out
untold verdict end begun out told is empty =
    (no_memory end out is, told, has_written verdict F.NoMemory end out (inr refl) is empty)

-- an end that is no failed write leaves all of a text written
by_end : (end : FollowEnd) (written written_after : Option (List ℕ)) (faults faults_after : ℕ)
    (text : List ℕ) → (end ≡ F.WriteFault → ⊥)
    → WritesAll written written_after faults faults_after text
    → WritesToEnd end written written_after faults faults_after text
by_end F.Done written written_after faults faults_after text other all = all
by_end F.Words written written_after faults faults_after text other all = all
by_end (F.Refused refusal) written written_after faults faults_after text other all = all
by_end (F.Unlawful line reason) written written_after faults faults_after text other all = all
by_end (F.Wrong line wrong) written written_after faults faults_after text other all = all
by_end F.ReadFault written written_after faults faults_after text other all = all
by_end F.WriteFault written written_after faults faults_after text other all = absurd (other refl)
by_end F.NoMemory written written_after faults faults_after text other all = all
by_end F.LineTooLong written written_after faults faults_after text other all = all
by_end F.SetUpTooLong written written_after faults faults_after text other all = all
by_end F.TooManyLines written written_after faults faults_after text other all = all

is_true : (b : Bool) → b ≡ true → b ≡ false → ⊥
is_true b up down = absurd cc

-- a verdict whose text was written is that of no failed write
not_fault : (verdict : Result ℕ FollowEnd) (end : FollowEnd) (mid out : Outgoing) (last : List ℕ)
    → IsWritten verdict mid → Writes mid out last → out.failed ≡ false
    → (end ≡ end_of_verdict verdict) ⊎ (end ≡ F.NoMemory) → end ≡ F.WriteFault → ⊥
not_fault verdict end mid out last written told fine (inr memory) same = absurd cc
not_fault (Ok steps) end mid out last written told fine (inl is) same = absurd cc
not_fault (Err F.WriteFault) end mid out last written told fine (inl is) same =
    is_true out.failed (told.stays written).0 fine
not_fault (Err F.Done) end mid out last written told fine (inl is) same = absurd cc
not_fault (Err F.Words) end mid out last written told fine (inl is) same = absurd cc
not_fault (Err (F.Refused refusal)) end mid out last written told fine (inl is) same = absurd cc
not_fault (Err (F.Unlawful line reason)) end mid out last written told fine (inl is) same =
    absurd cc
not_fault (Err (F.Wrong line wrong)) end mid out last written told fine (inl is) same = absurd cc
not_fault (Err F.ReadFault) end mid out last written told fine (inl is) same = absurd cc
not_fault (Err F.NoMemory) end mid out last written told fine (inl is) same = absurd cc
not_fault (Err F.LineTooLong) end mid out last written told fine (inl is) same = absurd cc
not_fault (Err F.SetUpTooLong) end mid out last written told fine (inl is) same = absurd cc
not_fault (Err F.TooManyLines) end mid out last written told fine (inl is) same = absurd cc

-- a text and a verdict behind it were written, or a front of them
pub written_to_end : (verdict : Result ℕ FollowEnd) (end : FollowEnd) (begun mid out : Outgoing)
    (text last : List ℕ) → begun.failed ≡ false → begun.waiting ≡ [] → IsWritten verdict mid
    → Writes begun mid text → Writes mid out last → HasWritten verdict end out
    → WritesToEnd end begun.written out.written begun.faults out.faults (text ++ last)
written_to_end verdict end begun mid out text last fresh clear is_written before told written =
    by_failed out.failed refl
  where
    all : Writes begun out (text ++ last)
    all = Writes-then text last before told

    by_failed : (b : Bool) → out.failed ≡ b
        → WritesToEnd end begun.written out.written begun.faults out.faults (text ++ last)
    by_failed true failed =
        subst (λ (e : FollowEnd).
        WritesToEnd e begun.written out.written begun.faults out.faults (text ++ last))
        (sym (written.fault failed)) (
          Writes-front begun out (text ++ last) clear all,
          Writes-rose begun out (text ++ last) fresh all failed,
        )
    by_failed false fine =
        by_end end begun.written out.written begun.faults out.faults (text ++ last)
        (not_fault verdict end mid out last is_written told fine (written.fine fine))
        (Writes-whole begun out (text ++ last) clear all fine written.empty, all.counts fine)

-- how it ends
pub ends_so : (verdict : Result ℕ FollowEnd) (end : FollowEnd) (out : Outgoing)
    → HasWritten verdict end out
    → (end ≡ end_of_verdict verdict) ⊎ ((end ≡ F.WriteFault) ⊎ (end ≡ F.NoMemory))
ends_so verdict end out written = by_failed out.failed refl
  where
    by_failed : (b : Bool) → out.failed ≡ b
        → (end ≡ end_of_verdict verdict) ⊎ ((end ≡ F.WriteFault) ⊎ (end ≡ F.NoMemory))
    by_failed true failed = inr (inl (written.fault failed))
    by_failed false fine =
        elim (written.fine fine)
        as (λ _. (end ≡ end_of_verdict verdict) ⊎ ((end ≡ F.WriteFault) ⊎ (end ≡ F.NoMemory)))
        [ inl is ↦ inl is | inr memory ↦ inr (inr memory) ]

-- the lines were read, and the verdict is told
pub follows_told : (tell : Bool) (verdict : Result ℕ FollowEnd) (end : FollowEnd)
    (expected : Option Expected) (left left_after : Option (List ℕ)) (faults faults_after : ℕ)
    (begun mid out : Outgoing) (last : List ℕ) → begun.failed ≡ false → begun.waiting ≡ []
    → FollowsInput tell verdict expected left left_after faults faults_after begun mid
    → TellsVerdict verdict end last → Writes mid out last → HasWritten verdict end out
    → FollowsAll tell end expected left left_after faults faults_after begun.written out.written
    begun.faults out.faults
follows_told tell verdict end expected left left_after faults faults_after begun mid out last fresh
    clear h tells told written = record {
      verdict = verdict;
      lines = h.lines;
      behind = h.behind;
      told = h.told;
      last = last;
      reads = h.reads;
      stops = h.stops;
      says = h.says;
      tells = tells;
      writes = written_to_end verdict end begun mid out h.told last fresh clear h.is_written
          h.writes told written;
      ends = ends_so verdict end out written;
    }

-- nothing was read or written, since memory was not given
pub follows_none : (tell : Bool) (expected : Option Expected) (left written : Option (List ℕ))
    (read_faults write_faults : ℕ)
    → FollowsAll tell F.NoMemory expected left left read_faults read_faults written written
    write_faults write_faults
follows_none tell expected left written read_faults write_faults = record {
  verdict = Err F.NoMemory;
  lines = [];
  behind = [];
  told = [];
  last = [];
  reads = Reads-none [] left;
  stops = refl;
  says = inl (refl, tt);
  tells = inl refl;
  writes = (Appends-nil written, refl);
  ends = inl refl;
}
