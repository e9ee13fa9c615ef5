-- Lines of a trace that are judged, one after another.
use Rattle.std.proofs.Common.{◌≡◌, ℕ, ◌-◌, ◌^◌, Bool, true, false, Option, Some, None, Result, Ok, Err, List, [], ◌∷◌, ◌++◌, inl, inr, refl, sym, ap, ◌∙◌, subst, append-nil, unwrap_or}
use Rattle.std.specs.Io.KnownBytes.{Consumes}
use Rattle.std.proofs.lemmas.Grind.{flat_map-append}
use Rattle.rio_chars.specs.Written.{Outgoing, Writes}
use Rattle.rio_chars.proofs.WrittenLaws.{Writes-nil, Writes-then}
use Rattle.fabric_script.specs.declared.scripts.Refusal.{Refusal}
use Rattle.fabric_script.specs.SetUps.{SetUpLines}
use Rattle.live_lines.specs.declared.input.LineEnd.{LineEnd}
use Rattle.live_lines.specs.declared.input.LineEnd.TheVariants as L
use Rattle.live_lines.specs.Lines.{IsLine, LinesStop, with_feed}
use Rattle.trace_check.specs.declared.checker.Checker.{Checker}
use Rattle.trace_check.specs.declared.checking.CheckEnd.{CheckEnd}
use Rattle.trace_check.specs.declared.checking.CheckEnd.TheVariants as C
use Rattle.trace_check.specs.declared.checking.Unlawful.{Unlawful}
use Rattle.trace_check.specs.declared.expecting.Expected.{Expected}
use Rattle.trace_check.specs.Lawful.{IsLawful}
use Rattle.trace_check.specs.Starting.{net_of}
use Rattle.trace_check.specs.Taken.{HasTakenLines, IsHitAt, IsHitIn}
use Rattle.trace_check.specs.Told.{IsToldAt, IsToldIn}
use Rattle.trace_check.proofs.SoFarLaws.{so_far}
use Rattle.follow_lines.specs.declared.ends.FollowEnd.{FollowEnd}
use Rattle.follow_lines.specs.declared.ends.FollowEnd.TheVariants as F
use Rattle.follow_lines.specs.FollowEnds.{end_of_check, end_of_lines}
use Rattle.follow_lines.specs.Telling.{ok_text, oks_text}
use Rattle.follow_lines.specs.Following.{AreLawfulSoFar, EndJudged, FollowsTrace, ReadingStops, ReadsLines, TraceSays}
use Rattle.follow_lines.proofs.ReadingLaws.{Reads-none, Reads-line, Reads-join, Reads-more}

-- ---- no further line comes

same_end : (a b : FollowEnd) → Some a ≡ Some b → a ≡ b
same_end a b is = ap (λ o. unwrap_or o F.Done) is

no_end : (a : FollowEnd) → Some a ≡ None → ⊥
no_end a is = absurd cc

-- not since the input ended
pub stops_early : (before : ℕ) (checker : Checker) (end : LineEnd) (e : FollowEnd)
    (expected : Option Expected) → end_of_lines end ≡ Some e
    → EndJudged before checker end (Err e) expected
stops_early before checker L.End e expected is = absurd cc
stops_early before checker L.Fault e expected is =
    subst (λ (x : FollowEnd). EndJudged before checker L.Fault (Err x) expected)
    (same_end F.ReadFault e is)
    record {
      says =
          λ tell texts left faults faults_after behind has stop. (
            (so_far checker texts checker.ready.orderly has, refl),
            stop,
          );
      is_written = λ out fine empty. (fine, empty);
    }
stops_early before checker L.TooLong e expected is =
    subst (λ (x : FollowEnd). EndJudged before checker L.TooLong (Err x) expected)
    (same_end F.LineTooLong e is)
    record {
      says =
          λ tell texts left faults faults_after behind has stop. (
            (so_far checker texts checker.ready.orderly has, refl),
            (stop.2, stop.0, stop.1),
          );
      is_written = λ out fine empty. (fine, empty);
    }
stops_early before checker L.NoMemory e expected is =
    subst (λ (x : FollowEnd). EndJudged before checker L.NoMemory (Err x) expected)
    (same_end F.NoMemory e is)
    record {
      says =
          λ tell texts left faults faults_after behind has stop. (
            (so_far checker texts checker.ready.orderly has, refl),
            stop.0,
          );
      is_written = λ out fine empty. (fine, empty);
    }

-- the input ended, and all lines are a lawful trace
pub stops_lawful : (before : ℕ) (checker : Checker) (end : LineEnd) (steps : ℕ)
    (expected : Option Expected) → end_of_lines end ≡ None
    → ((texts : List (List ℕ)) → HasTakenLines texts checker
    → IsLawful checker.set_up.known (net_of checker.set_up) texts steps)
    → EndJudged before checker end (Ok steps) expected
stops_lawful before checker L.End steps expected is lawful = record {
  says =
      λ tell texts left faults faults_after behind has stop. (
        (lawful texts has, refl),
        (stop.2, (stop.0, stop.1)),
      );
  is_written = λ out fine empty. (fine, empty);
}
stops_lawful before checker L.Fault steps expected is lawful = absurd (no_end F.ReadFault is)
stops_lawful before checker L.TooLong steps expected is lawful = absurd (no_end F.LineTooLong is)
stops_lawful before checker L.NoMemory steps expected is lawful = absurd (no_end F.NoMemory is)

-- the input ended, and a reason hits a line
ended_hit : (before : ℕ) (checker : Checker) (e : CheckEnd) (expected : Option Expected)
    → ((refusal : Refusal) → e ≡ C.Refused refusal → ⊥)
    → ((hit : Unlawful) → e ≡ C.Unlawful hit → (texts : List (List ℕ))
    → HasTakenLines texts checker → IsHitAt checker.set_up texts hit)
    → ((hit : Unlawful) → e ≡ C.Unlawful hit → (texts : List (List ℕ))
    → HasTakenLines texts checker → IsToldAt checker.set_up texts hit expected)
    → EndJudged before checker L.End (Err (end_of_check before e)) expected
ended_hit before checker (C.Refused refusal) expected never hits tells =
    absurd (never refusal refl)
ended_hit before checker C.NoMemory expected never hits tells = record {
  says =
      λ tell texts left faults faults_after behind has stop. (
        (so_far checker texts checker.ready.orderly has, refl),
        stop.2,
      );
  is_written = λ out fine empty. (fine, empty);
}
ended_hit before checker (C.Unlawful hit) expected never hits tells = record {
  says =
      λ tell texts left faults faults_after behind has stop. (
        record {
          hit = hit;
          line_is = refl;
          reason_is = refl;
          hits = inr record {
            ended = (stop.0, stop.1);
            so_far = so_far checker texts checker.ready.orderly has;
            hits = hits hit refl texts has;
            explained = tells hit refl texts has;
            told_is = refl;
          };
        },
        stop.2,
      );
  is_written = λ out fine empty. (fine, empty);
}

pub stops_hit : (before : ℕ) (checker : Checker) (end : LineEnd) (e : CheckEnd)
    (expected : Option Expected) → end_of_lines end ≡ None
    → ((refusal : Refusal) → e ≡ C.Refused refusal → ⊥)
    → ((hit : Unlawful) → e ≡ C.Unlawful hit → (texts : List (List ℕ))
    → HasTakenLines texts checker → IsHitAt checker.set_up texts hit)
    → ((hit : Unlawful) → e ≡ C.Unlawful hit → (texts : List (List ℕ))
    → HasTakenLines texts checker → IsToldAt checker.set_up texts hit expected)
    → EndJudged before checker end (Err (end_of_check before e)) expected
stops_hit before checker L.End e expected is never hits tells =
    ended_hit before checker e expected never hits tells
stops_hit before checker L.Fault e expected is never hits tells =
    absurd (no_end F.ReadFault is)
stops_hit before checker L.TooLong e expected is never hits tells =
    absurd (no_end F.LineTooLong is)
stops_hit before checker L.NoMemory e expected is never hits tells =
    absurd (no_end F.NoMemory is)

-- ---- lines that are taken

oks_more : (tell : Bool) (texts : List (List ℕ)) (text : List ℕ)
    → oks_text tell texts ++ ok_text tell ≡ oks_text tell (texts ++ text ∷ [])
oks_more tell texts text =
    ap (λ l. oks_text tell texts ++ l) (sym (append-nil (ok_text tell)))
    ∙ sym (flat_map-append (λ (line : List ℕ). ok_text tell) texts (text ∷ []))

-- Lines of a trace were read and taken so far, and these bytes are pending behind them.
pub record Following (set_up : SetUpLines) (tell : Bool) (begun out : Outgoing) (checker : Checker)
    (pending pending_now : List ℕ) (left left_now : Option (List ℕ)) (faults faults_now : ℕ)
    : Type 0 where
  pub texts : List (List ℕ)
  pub reads : ReadsLines pending left left_now texts pending_now
  pub has : HasTakenLines texts checker
  pub same : checker.set_up ≡ set_up
  pub told : Writes begun out (oks_text tell texts)
  pub counts : faults_now ≡ faults

pub Following-begin : (tell : Bool) (out : Outgoing) (checker : Checker) (pending : List ℕ)
    (left : Option (List ℕ)) (faults : ℕ) → HasTakenLines [] checker
    → Following checker.set_up tell out out checker pending pending left left faults faults
Following-begin tell out checker pending left faults has = record {
  texts = [];
  reads = Reads-none pending left;
  has = has;
  same = refl;
  told = Writes-nil out;
  counts = refl;
}

module _ (set_up : SetUpLines) (before : ℕ) (tell : Bool) (begun : Outgoing) (pending : List ℕ)
    (left : Option (List ℕ)) (faults : ℕ) where
  -- the lines are lawful so far
  are_so_far : {out : Outgoing} {checker : Checker} {now : List ℕ} {left_now : Option (List ℕ)}
      {faults_now : ℕ}
      → (h : Following set_up tell begun out checker pending now left left_now faults faults_now)
      → AreLawfulSoFar set_up h.texts
  are_so_far {out} {checker} h =
      subst (λ s. AreLawfulSoFar s h.texts) h.same
      (so_far checker h.texts checker.ready.orderly h.has)

  -- a line more was read and taken
  pub Following-line : {out : Outgoing} (next : Outgoing) {checker : Checker}
      (checker_next : Checker)
      {now : List ℕ} (now_next line taken : List ℕ) {left_now left_next : Option (List ℕ)}
      {faults_now faults_next : ℕ}
      → Following set_up tell begun out checker pending now left left_now faults faults_now
      → Consumes left_now left_next taken → now ++ taken ≡ with_feed line ++ now_next
      → IsLine line → faults_next ≡ faults_now
      → checker_next.set_up ≡ checker.set_up
      → ((texts : List (List ℕ)) → HasTakenLines texts checker
      → HasTakenLines (texts ++ line ∷ []) checker_next)
      → Writes out next (ok_text tell)
      → Following set_up tell begun next checker_next pending now_next left left_next faults
      faults_next
  Following-line next checker_next {now} now_next line taken {left_now} {left_next} h read is good
      same stays takes told = record {
        texts = h.texts ++ line ∷ [];
        reads = Reads-line pending now now_next line taken left left_now left_next h.texts h.reads
            read is good;
        has = takes h.texts h.has;
        same = stays ∙ h.same;
        told = subst (Writes begun next) (oks_more tell h.texts line)
            (Writes-then (oks_text tell h.texts) (ok_text tell) h.told told);
        counts = same ∙ h.counts;
      }

  -- bytes were read that are no line
  with_bytes : {out : Outgoing} {checker : Checker} {now : List ℕ}
      {left_now left_next : Option (List ℕ)} {faults_now : ℕ} (taken : List ℕ)
      → (h : Following set_up tell begun out checker pending now left left_now faults faults_now)
      → Consumes left_now left_next taken
      → ReadsLines pending left left_next h.texts (now ++ taken)
  with_bytes {out} {checker} {now} {left_now} {left_next} taken h read =
      subst (λ l. ReadsLines pending left left_next l (now ++ taken)) (append-nil h.texts)
      (Reads-join pending now (now ++ taken) left left_now left_next h.texts [] h.reads
      (Reads-more now taken left_now left_next read))

  -- ---- how it ends

  -- no further line comes
  pub Following-ends : {out : Outgoing} {checker : Checker} {now : List ℕ}
      {left_now left_next : Option (List ℕ)} {faults_now faults_next : ℕ} (taken : List ℕ)
      (end : LineEnd) (verdict : Result ℕ FollowEnd) (expected : Option Expected)
      → Following set_up tell begun out checker pending now left left_now faults faults_now
      → Consumes left_now left_next taken
      → LinesStop end left_next faults_now faults_next (now ++ taken)
      → out.failed ≡ false → out.waiting ≡ [] → EndJudged before checker end verdict expected
      → FollowsTrace set_up before tell verdict expected pending left left_next faults faults_next
      begun out
  Following-ends {out} {checker} {now} {left_now} {left_next} {faults_now} {faults_next} taken end
      verdict expected h read stop fine empty judged =
      let says = judged.says tell h.texts left_next faults_now faults_next (now ++ taken) h.has
      stop in
      record {
        texts = h.texts;
        behind = now ++ taken;
        told = oks_text tell h.texts;
        reads = with_bytes taken h read;
        stops = subst (λ n. ReadingStops verdict left_next n faults_next (now ++ taken)) h.counts
            says.1;
        says = subst (λ s. TraceSays s before tell verdict expected h.texts
            (oks_text tell h.texts) left_next (now ++ taken)) h.same says.0;
        writes = h.told;
        is_written = judged.is_written out fine empty;
      }

  -- a line was read and not taken
  pub Following-hit : {out : Outgoing} {checker : Checker} {now : List ℕ} (now_next line : List ℕ)
      {left_now left_next : Option (List ℕ)} {faults_now faults_next : ℕ} (taken : List ℕ)
      (e : CheckEnd) (expected : Option Expected)
      → Following set_up tell begun out checker pending now left left_now faults faults_now
      → Consumes left_now left_next taken → now ++ taken ≡ with_feed line ++ now_next
      → IsLine line → faults_next ≡ faults_now → out.failed ≡ false → out.waiting ≡ []
      → ((refusal : Refusal) → e ≡ C.Refused refusal → ⊥)
      → ((hit : Unlawful) → e ≡ C.Unlawful hit → (texts : List (List ℕ))
      → HasTakenLines texts checker → IsHitIn checker.set_up (texts ++ line ∷ []) hit)
      → ((hit : Unlawful) → e ≡ C.Unlawful hit → (texts : List (List ℕ))
      → HasTakenLines texts checker → IsToldIn checker.set_up (texts ++ line ∷ []) hit expected)
      → FollowsTrace set_up before tell (Err (end_of_check before e)) expected pending left
      left_next faults faults_next begun out
  Following-hit now_next line taken (C.Refused refusal) expected h read is good same fine empty
      never hits tells = absurd (never refusal refl)
  Following-hit {out} {checker} {now} now_next line taken C.NoMemory expected h read is good same
      fine empty never hits tells = record {
        texts = h.texts;
        behind = now ++ taken;
        told = oks_text tell h.texts;
        reads = with_bytes taken h read;
        stops = same ∙ h.counts;
        says = (are_so_far h, refl);
        writes = h.told;
        is_written = (fine, empty);
      }
  Following-hit {out} {checker} {now} now_next line {left_now} {left_next} taken (C.Unlawful hit)
      expected h read is good same fine empty never hits tells = record {
        texts = h.texts ++ line ∷ [];
        behind = now_next;
        told = oks_text tell h.texts;
        reads = Reads-line pending now now_next line taken left left_now left_next h.texts h.reads
            read is good;
        stops = same ∙ h.counts;
        says = record {
          hit = hit;
          line_is = refl;
          reason_is = refl;
          hits = inl record {
            front = h.texts;
            last = line;
            split = refl;
            so_far = are_so_far h;
            hits = subst (λ s. IsHitIn s (h.texts ++ line ∷ []) hit) h.same
                (hits hit refl h.texts h.has);
            explained = subst (λ s. IsToldIn s (h.texts ++ line ∷ []) hit expected) h.same
                (tells hit refl h.texts h.has);
            told_is = refl;
          };
        };
        writes = h.told;
        is_written = (fine, empty);
      }

  -- `ok` was not written
  pub Following-fault : {out : Outgoing} {checker : Checker} {now : List ℕ}
      {left_now : Option (List ℕ)} {faults_now : ℕ} (expected : Option Expected)
      → Following set_up tell begun out checker pending now left left_now faults faults_now
      → out.failed ≡ true
      → FollowsTrace set_up before tell (Err F.WriteFault) expected pending left left_now faults
      faults_now begun out
  Following-fault {out} {checker} {now} expected h failed = record {
    texts = h.texts;
    behind = now;
    told = oks_text tell h.texts;
    reads = h.reads;
    stops = h.counts;
    says = (are_so_far h, refl);
    writes = h.told;
    is_written = failed;
  }

  -- more lines were taken than are counted
  pub Following-many : {out : Outgoing} {checker : Checker} {now : List ℕ}
      {left_now : Option (List ℕ)} {faults_now : ℕ} (expected : Option Expected)
      → Following set_up tell begun out checker pending now left left_now faults faults_now
      → checker.lines ≡ 2 ^ 32 - 1 → out.failed ≡ false → out.waiting ≡ []
      → FollowsTrace set_up before tell (Err F.TooManyLines) expected pending left left_now faults
      faults_now begun out
  Following-many {out} {checker} {now} expected h all fine empty = record {
    texts = h.texts;
    behind = now;
    told = oks_text tell h.texts;
    reads = h.reads;
    stops = h.counts;
    says = ((are_so_far h, refl), sym h.has.count ∙ all);
    writes = h.told;
    is_written = (fine, empty);
  }
