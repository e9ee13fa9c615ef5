-- The set-up lines, and then the lines of the trace.
use Rattle.std.proofs.Common.{◌≡◌, ℕ, ◌+◌, Bool, true, false, codes, Option, Result, Ok, Err, IsErrAnd, ◌⊎◌, List, [], ◌∷◌, ◌++◌, length, inl, inr, refl, ap, ◌∙◌, subst, append_assoc}
use Rattle.rio_chars.specs.Written.{Outgoing, Writes}
use Rattle.rio_chars.proofs.WrittenLaws.{Writes-nil, Writes-then}
use Rattle.fabric_script.specs.declared.scripts.Refusal.{Refusal}
use Rattle.fabric_script.specs.Known.{of_set_up}
use Rattle.fabric_script.specs.Scripts.{RefusedIn}
use Rattle.fabric_script.specs.SetUps.{SetUpLines}
use Rattle.trace_check.specs.declared.checker.Checker.{Checker}
use Rattle.trace_check.specs.declared.checking.CheckEnd.{CheckEnd}
use Rattle.trace_check.specs.declared.checking.CheckEnd.TheVariants as C
use Rattle.trace_check.specs.declared.checking.Unlawful.{Unlawful}
use Rattle.trace_check.specs.declared.expecting.Expected.{Expected}
use Rattle.trace_check.specs.Taken.{HasTakenLines, IsSetUpOf}
use Rattle.trace_check.proofs.SoFarLaws.{so_far}
use Rattle.follow_lines.specs.declared.ends.FollowEnd.{FollowEnd}
use Rattle.follow_lines.specs.declared.ends.FollowEnd.TheVariants as F
use Rattle.follow_lines.specs.declared.setting.SetUpRead.{SetUpRead}
use Rattle.follow_lines.specs.FollowEnds.{end_of_check}
use Rattle.follow_lines.specs.Telling.{ok_text}
use Rattle.follow_lines.specs.Following.{AreRefused, FollowsInput, FollowsTrace, IsRefusedSetUp, IsWritten, PartsTrace, ReadingStops, ReadsLines, ReadsSetUp, SetUpSays, StandBefore, TraceSays}
use Rattle.follow_lines.proofs.ReadingLaws.{Reads-none, Reads-join}

-- an error that is handed on
pub err_is : (r : Result ℕ FollowEnd) (end : FollowEnd) → IsErrAnd r (λ y. y ≡ end) → r ≡ Err end
err_is (Ok x) end gives = absurd gives
err_is (Err y) end gives = ap (λ e. Err e) gives

-- a check was not made for a reason
pub are_refused : (script : List ℕ) (end : CheckEnd)
    → ((refusal : Refusal) → end ≡ C.Refused refusal
    → RefusedIn of_set_up script refusal.line refusal.reason)
    → ((hit : Unlawful) → end ≡ C.Unlawful hit → ⊥) → AreRefused script (end_of_check 0 end)
are_refused script (C.Refused refusal) hits never = hits refusal refl
are_refused script (C.Unlawful hit) hits never = absurd (never hit refl)
are_refused script C.NoMemory hits never = tt

-- ---- set-up lines that were read

module _ {left left_mid : Option (List ℕ)} {faults faults_mid : ℕ} {script pending_mid : List ℕ}
  where
    -- why they are refused
    pub refused_says : (read : SetUpRead) (refusal : Refusal)
        → (h : ReadsSetUp (Ok read) script [] pending_mid left left_mid faults faults_mid)
        → RefusedIn of_set_up script refusal.line refusal.reason
        ⊎ ((read.parted ≡ false) × ((set_up : SetUpLines) × IsSetUpOf script set_up)
        × (refusal ≡ record { line = read.lines + 1; reason = 15 }))
        → IsRefusedSetUp h.lines left_mid h.behind refusal
    refused_says read refusal h why =
        let is = h.says.0 in
        record {
          before = is.before;
          parted = read.parted;
          none_parts = is.none_parts;
          stand = is.stand;
          refused = subst (λ (s : List ℕ). RefusedIn of_set_up s refusal.line refusal.reason
              ⊎ ((read.parted ≡ false) × ((set_up : SetUpLines) × IsSetUpOf s set_up)
              × (refusal ≡ record { line = length is.before + 1; reason = 15 }))) is.script_is
              (subst (λ n. RefusedIn of_set_up script refusal.line refusal.reason
              ⊎ ((read.parted ≡ false) × ((set_up : SetUpLines) × IsSetUpOf script set_up)
              × (refusal ≡ record { line = n + 1; reason = 15 }))) is.count why);
        }

    -- behind the line between stand these lines of the trace
    pub parts_trace : (read : SetUpRead) (set_up : SetUpLines) (texts : List (List ℕ))
        → (h : ReadsSetUp (Ok read) script [] pending_mid left left_mid faults faults_mid)
        → IsSetUpOf script set_up → read.parted ≡ true
        → PartsTrace (h.lines ++ texts) h.says.0.before set_up texts
    parts_trace read set_up texts h is parted =
        let set = h.says.0 in
        let all : h.lines ≡ set.before ++ codes "---" ∷ [] =
        subst (λ b. StandBefore b h.lines set.before left_mid h.behind) parted set.stand in
        record {
          split = ap (λ l. l ++ texts) all ∙ append_assoc set.before (codes "---" ∷ []) texts;
          none_parts = set.none_parts;
          is_set_up = subst (λ s. IsSetUpOf s set_up) set.script_is is;
        }

    -- all of them were read
    pub parted_reads : (read : SetUpRead) (texts : List (List ℕ)) (left_after : Option (List ℕ))
        (behind : List ℕ)
        → (h : ReadsSetUp (Ok read) script [] pending_mid left left_mid faults faults_mid)
        → read.parted ≡ true → ReadsLines pending_mid left_mid left_after texts behind
        → ReadsLines [] left left_after (h.lines ++ texts) behind
    parted_reads read texts left_after behind h parted more =
        Reads-join [] pending_mid behind left left_mid left_after h.lines texts
        (subst (λ b. ReadsLines [] left left_mid h.lines b) (h.says.0.next parted) h.reads) more

module _ (tell : Bool) (expected : Option Expected) (left left_mid : Option (List ℕ))
    (faults faults_mid : ℕ)
    (script pending_mid : List ℕ) (out : Outgoing) (fine : out.failed ≡ false)
    (empty : out.waiting ≡ []) where
  is_written : (end : FollowEnd) (lines : List (List ℕ)) (behind : List ℕ)
      → SetUpSays (Err end) lines left_mid behind → IsWritten (Err end) out
  is_written F.Done lines behind says = absurd says
  is_written F.Words lines behind says = absurd says
  is_written (F.Refused refusal) lines behind says = (fine, empty)
  is_written (F.Unlawful line reason) lines behind says = absurd says
  is_written (F.Wrong line wrong) lines behind says = absurd says
  is_written F.ReadFault lines behind says = (fine, empty)
  is_written F.WriteFault lines behind says = absurd says
  is_written F.NoMemory lines behind says = (fine, empty)
  is_written F.LineTooLong lines behind says = (fine, empty)
  is_written F.SetUpTooLong lines behind says = (fine, empty)
  is_written F.TooManyLines lines behind says = absurd says

  -- not all set-up lines were read
  pub set_up_stops : (end : FollowEnd)
      → ReadsSetUp (Err end) script [] pending_mid left left_mid faults faults_mid
      → FollowsInput tell (Err end) expected left left_mid faults faults_mid out out
  set_up_stops end h = record {
    lines = h.lines;
    behind = h.behind;
    told = [];
    reads = h.reads;
    stops = h.says.1;
    says = inl (refl, h.says.0);
    writes = Writes-nil out;
    is_written = is_written end h.lines h.behind h.says.0;
  }

  -- the set-up lines are refused
  refused : (read : SetUpRead) (refusal : Refusal)
      → (h : ReadsSetUp (Ok read) script [] pending_mid left left_mid faults faults_mid)
      → RefusedIn of_set_up script refusal.line refusal.reason
      ⊎ ((read.parted ≡ false) × ((set_up : SetUpLines) × IsSetUpOf script set_up)
      × (refusal ≡ record { line = read.lines + 1; reason = 15 }))
      → FollowsInput tell (Err (F.Refused refusal)) expected left left_mid faults faults_mid out out
  refused read refusal h why = record {
    lines = h.lines;
    behind = h.behind;
    told = [];
    reads = h.reads;
    stops = h.says.1;
    says = inl (refl, refused_says read refusal h why);
    writes = Writes-nil out;
    is_written = (fine, empty);
  }

  -- no check was made of them
  pub set_up_refused : (read : SetUpRead) (end : FollowEnd)
      → ReadsSetUp (Ok read) script [] pending_mid left left_mid faults faults_mid
      → AreRefused script end
      → FollowsInput tell (Err end) expected left left_mid faults faults_mid out out
  set_up_refused read (F.Refused refusal) h hit = refused read refusal h (inl hit)
  set_up_refused read F.NoMemory h hit = record {
    lines = h.lines;
    behind = h.behind;
    told = [];
    reads = h.reads;
    stops = h.says.1;
    says = inl (refl, tt);
    writes = Writes-nil out;
    is_written = (fine, empty);
  }
  set_up_refused read F.Done h hit = absurd hit
  set_up_refused read F.Words h hit = absurd hit
  set_up_refused read (F.Unlawful line reason) h hit = absurd hit
  set_up_refused read (F.Wrong line wrong) h hit = absurd hit
  set_up_refused read F.ReadFault h hit = absurd hit
  set_up_refused read F.WriteFault h hit = absurd hit
  set_up_refused read F.LineTooLong h hit = absurd hit
  set_up_refused read F.SetUpTooLong h hit = absurd hit
  set_up_refused read F.TooManyLines h hit = absurd hit

  -- no line between came
  pub not_parted : (read : SetUpRead) (refusal : Refusal) (set_up : SetUpLines)
      → ReadsSetUp (Ok read) script [] pending_mid left left_mid faults faults_mid
      → IsSetUpOf script set_up → read.parted ≡ false
      → refusal ≡ record { line = read.lines + 1; reason = 15 }
      → FollowsInput tell (Err (F.Refused refusal)) expected left left_mid faults faults_mid out out
  not_parted read refusal set_up h is parted same =
      refused read refusal h (inr (parted, (set_up, is), same))

module _ (tell : Bool) (expected : Option Expected) (left left_mid : Option (List ℕ))
    (faults faults_mid : ℕ)
    (script pending_mid : List ℕ) (out : Outgoing) where
  -- the set-up lines, the line between, and the lines of the trace
  pub with_trace : (read : SetUpRead) (set_up : SetUpLines) (verdict : Result ℕ FollowEnd)
      (before : ℕ) (left_after : Option (List ℕ)) (faults_after : ℕ) (mid out_after : Outgoing)
      → ReadsSetUp (Ok read) script [] pending_mid left left_mid faults faults_mid
      → IsSetUpOf script set_up → read.parted ≡ true → before ≡ read.lines + 1
      → Writes out mid (ok_text tell)
      → FollowsTrace set_up before tell verdict expected pending_mid left_mid left_after faults_mid
      faults_after mid out_after
      → FollowsInput tell verdict expected left left_after faults faults_after out out_after
  with_trace read set_up verdict before left_after faults_after mid out_after h is parted counted
      ok k =
      let set = h.says.0 in
      record {
        lines = h.lines ++ k.texts;
        behind = k.behind;
        told = ok_text tell ++ k.told;
        reads = parted_reads read k.texts left_after k.behind h parted k.reads;
        stops = subst (λ n. ReadingStops verdict left_after n faults_after k.behind) h.says.1
            k.stops;
        says = inr record {
          before = set.before;
          set_up = set_up;
          texts = k.texts;
          parts = parts_trace read set_up k.texts h is parted;
          more = k.told;
          told_is = refl;
          says = subst (λ n. TraceSays set_up n tell verdict expected k.texts k.told left_after
              k.behind)
              (counted ∙ ap (λ n. n + 1) set.count) k.says;
        };
        writes = Writes-then (ok_text tell) k.told ok k.writes;
        is_written = k.is_written;
      }

  -- `ok` of the line between was not written
  pub with_fault : (read : SetUpRead) (checker : Checker) (mid : Outgoing)
      → ReadsSetUp (Ok read) script [] pending_mid left left_mid faults faults_mid
      → IsSetUpOf script checker.set_up → HasTakenLines [] checker → read.parted ≡ true
      → Writes out mid (ok_text tell) → mid.failed ≡ true
      → FollowsInput tell (Err F.WriteFault) expected left left_mid faults faults_mid out mid
  with_fault read checker mid h is has parted ok failed =
      with_trace read checker.set_up (Err F.WriteFault) (read.lines + 1) left_mid faults_mid mid
      mid h is parted refl ok
      record {
        texts = [];
        behind = pending_mid;
        told = [];
        reads = Reads-none pending_mid left_mid;
        stops = refl;
        says = (so_far checker [] checker.ready.orderly has, refl);
        writes = Writes-nil mid;
        is_written = failed;
      }
