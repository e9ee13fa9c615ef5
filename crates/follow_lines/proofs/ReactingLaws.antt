-- Lines whose reactions are judged, one after another.
use Rattle.std.proofs.Common.{◌≡◌, ℕ, ◌+◌, ◌-◌, ◌^◌, true, false, Option, Some, None, Result, Ok, Err, unwrap_or, List, [], ◌∷◌, ◌++◌, length, length-append, inl, inr, refl, sym, ap, ◌∙◌, subst, append-nil, arith}
use Rattle.std.specs.Io.KnownBytes.{Consumes}
use Rattle.std.proofs.KnownBytes.{Appends-nil}
use Rattle.rio_chars.specs.Written.{Outgoing, Writes}
use Rattle.rio_chars.proofs.WrittenLaws.{Writes-nil}
use Rattle.fabric_script.specs.declared.scripts.Refusal.{Refusal}
use Rattle.fabric_script.specs.SetUps.{SetUpLines}
use Rattle.live_lines.specs.declared.input.LineEnd.{LineEnd}
use Rattle.live_lines.specs.declared.input.LineEnd.TheVariants as L
use Rattle.live_lines.specs.Lines.{IsLine, LinesStop, with_feed}
use Rattle.trace_check.specs.Taken.{IsSetUpOf}
use Rattle.trace_reactions.specs.declared.all_ports.WrongReaction.{WrongReaction}
use Rattle.trace_reactions.specs.declared.judge.Judge.{Judge}
use Rattle.trace_reactions.specs.declared.judge.JudgeEnd.{JudgeEnd}
use Rattle.trace_reactions.specs.declared.judge.JudgeEnd.TheVariants as J
use Rattle.trace_reactions.specs.Judged.{AreAllAnswered, HasJudged, IsNoLine, IsWrongText}
use Rattle.follow_lines.specs.declared.ends.FollowEnd.{FollowEnd}
use Rattle.follow_lines.specs.declared.ends.FollowEnd.TheVariants as F
use Rattle.follow_lines.specs.declared.setting.SetUpRead.{SetUpRead}
use Rattle.follow_lines.specs.FollowEnds.{end_of_judge, end_of_lines}
use Rattle.follow_lines.specs.Following.{AreRefused, HasWritten, IsWritten, ReadingStops, ReadsLines, ReadsSetUp, SetUpSays}
use Rattle.follow_lines.specs.Reacting.{DoReact, EndReacts, JudgesAll, JudgesInput, JudgesTrace, TellsAnswered, TraceReacts}
use Rattle.follow_lines.proofs.InputLaws.{parted_reads, parts_trace, refused_says}
use Rattle.follow_lines.proofs.ReadingLaws.{Reads-none, Reads-line, Reads-join, Reads-more}
use Rattle.follow_lines.proofs.TellingLaws.{ends_so, written_to_end}

-- ---- no further line comes

same_end : (a b : FollowEnd) → Some a ≡ Some b → a ≡ b
same_end a b is = ap (λ o. unwrap_or o F.Done) is

no_end : (a : FollowEnd) → Some a ≡ None → ⊥
no_end a is = absurd cc

-- not since the input ended
pub reacts_early : (judge : Judge) (end : LineEnd) (e : FollowEnd)
    → end_of_lines end ≡ Some e → EndReacts judge end (Err e)
reacts_early judge L.End e is = absurd cc
reacts_early judge L.Fault e is =
    subst (λ (x : FollowEnd). EndReacts judge L.Fault (Err x)) (same_end F.ReadFault e is)
    record {
      says = λ before texts left faults faults_after behind has stop. ((has.0, has.1), stop);
    }
reacts_early judge L.TooLong e is =
    subst (λ (x : FollowEnd). EndReacts judge L.TooLong (Err x)) (same_end F.LineTooLong e is)
    record {
      says = λ before texts left faults faults_after behind has stop.
          ((has.0, has.1), (stop.2, stop.0, stop.1));
    }
reacts_early judge L.NoMemory e is =
    subst (λ (x : FollowEnd). EndReacts judge L.NoMemory (Err x)) (same_end F.NoMemory e is)
    record {
      says = λ before texts left faults faults_after behind has stop. ((has.0, has.1), stop.0);
    }

-- the input ended, and all lines pass
pub reacts_all : (judge : Judge) (end : LineEnd) (count : ℕ) → end_of_lines end ≡ None
    → ((texts : List (List ℕ)) → HasJudged texts judge → AreAllAnswered judge.set_up texts count)
    → EndReacts judge end (Ok count)
reacts_all judge L.End count is counts = record {
  says = λ before texts left faults faults_after behind has stop.
      (counts texts has, (stop.2, (stop.0, stop.1)));
}
reacts_all judge L.Fault count is counts = absurd (no_end F.ReadFault is)
reacts_all judge L.TooLong count is counts = absurd (no_end F.LineTooLong is)
reacts_all judge L.NoMemory count is counts = absurd (no_end F.NoMemory is)

-- ---- lines that are taken

-- Lines of a trace were read and taken so far, and these bytes are pending behind them.
pub record Reacting (set_up : SetUpLines) (judge : Judge) (count : ℕ) (pending now : List ℕ)
    (left left_now : Option (List ℕ)) (faults faults_now : ℕ) : Type 0 where
  pub texts : List (List ℕ)
  pub reads : ReadsLines pending left left_now texts now
  pub has : HasJudged texts judge
  pub same : judge.set_up ≡ set_up
  pub count_is : count ≡ length texts
  pub counts : faults_now ≡ faults

pub Reacting-begin : (judge : Judge) (pending : List ℕ) (left : Option (List ℕ)) (faults : ℕ)
    → HasJudged [] judge
    → Reacting judge.set_up judge 0 pending pending left left faults faults
Reacting-begin judge pending left faults has = record {
  texts = [];
  reads = Reads-none pending left;
  has = has;
  same = refl;
  count_is = refl;
  counts = refl;
}

module _ (set_up : SetUpLines) (before : ℕ) (pending : List ℕ) (left : Option (List ℕ))
    (faults : ℕ) where
  -- the lines pass
  do_react : {judge : Judge} {count : ℕ} {now : List ℕ} {left_now : Option (List ℕ)}
      {faults_now : ℕ}
      → (h : Reacting set_up judge count pending now left left_now faults faults_now)
      → DoReact set_up h.texts
  do_react h = subst (λ s. DoReact s h.texts) h.same (h.has.0, h.has.1)

  -- a line more was read and taken
  pub Reacting-line : {judge : Judge} (judge_next : Judge) {count : ℕ} {now : List ℕ}
      (now_next line taken : List ℕ) {left_now left_next : Option (List ℕ)}
      {faults_now faults_next : ℕ}
      → Reacting set_up judge count pending now left left_now faults faults_now
      → Consumes left_now left_next taken → now ++ taken ≡ with_feed line ++ now_next
      → IsLine line → faults_next ≡ faults_now → judge_next.set_up ≡ judge.set_up
      → ((texts : List (List ℕ)) → HasJudged texts judge
      → HasJudged (texts ++ line ∷ []) judge_next)
      → Reacting set_up judge_next (count + 1) pending now_next left left_next faults faults_next
  Reacting-line judge_next {count} {now} now_next line taken {left_now} {left_next} h read is good
      same stays takes =
      let counted = length-append h.texts (line ∷ []) in
      let count_is = h.count_is in
      record {
        texts = h.texts ++ line ∷ [];
        reads = Reads-line pending now now_next line taken left left_now left_next h.texts h.reads
            read is good;
        has = takes h.texts h.has;
        same = stays ∙ h.same;
        count_is = omega (arith, counted, count_is);
        counts = same ∙ h.counts;
      }

  -- bytes were read that are no line
  with_bytes : {judge : Judge} {count : ℕ} {now : List ℕ} {left_now left_next : Option (List ℕ)}
      {faults_now : ℕ} (taken : List ℕ)
      → (h : Reacting set_up judge count pending now left left_now faults faults_now)
      → Consumes left_now left_next taken
      → ReadsLines pending left left_next h.texts (now ++ taken)
  with_bytes {now = now} {left_now} {left_next} taken h read =
      subst (λ l. ReadsLines pending left left_next l (now ++ taken)) (append-nil h.texts)
      (Reads-join pending now (now ++ taken) left left_now left_next h.texts [] h.reads
      (Reads-more now taken left_now left_next read))

  -- no further line comes
  pub Reacting-ends : {judge : Judge} {count : ℕ} {now : List ℕ}
      {left_now left_next : Option (List ℕ)} {faults_now faults_next : ℕ} (taken : List ℕ)
      (end : LineEnd) (verdict : Result ℕ FollowEnd)
      → Reacting set_up judge count pending now left left_now faults faults_now
      → Consumes left_now left_next taken
      → LinesStop end left_next faults_now faults_next (now ++ taken) → EndReacts judge end verdict
      → JudgesTrace set_up before verdict pending left left_next faults faults_next
  Reacting-ends {now = now} {left_next = left_next} {faults_now} {faults_next} taken end verdict h
      read stop ends =
      let says = ends.says before h.texts left_next faults_now faults_next (now ++ taken) h.has stop
      in
      record {
        texts = h.texts;
        behind = now ++ taken;
        reads = with_bytes taken h read;
        stops = subst (λ n. ReadingStops verdict left_next n faults_next (now ++ taken)) h.counts
            says.1;
        says = subst (λ s. TraceReacts s before verdict h.texts) h.same says.0;
      }

  -- a line that was read and not taken is the last
  hit_last : {judge : Judge} {count : ℕ} {now : List ℕ} (now_next line : List ℕ)
      {left_now left_next : Option (List ℕ)} {faults_now faults_next : ℕ} (taken : List ℕ)
      {verdict : Result ℕ FollowEnd}
      → (h : Reacting set_up judge count pending now left left_now faults faults_now)
      → Consumes left_now left_next taken → now ++ taken ≡ with_feed line ++ now_next
      → IsLine line → ReadingStops verdict left_next faults faults_next now_next
      → TraceReacts set_up before verdict (h.texts ++ line ∷ [])
      → JudgesTrace set_up before verdict pending left left_next faults faults_next
  hit_last {now = now} now_next line {left_now} {left_next} taken h read is good stops says =
      record {
        texts = h.texts ++ line ∷ [];
        behind = now_next;
        reads = Reads-line pending now now_next line taken left left_now left_next h.texts h.reads
            read is good;
        stops = stops;
        says = says;
      }

  -- a line was read and not taken
  pub Reacting-hit : {judge : Judge} {count : ℕ} {now : List ℕ} (now_next line : List ℕ)
      {left_now left_next : Option (List ℕ)} {faults_now faults_next : ℕ} (taken : List ℕ)
      (number : ℕ) (e : JudgeEnd)
      → Reacting set_up judge count pending now left left_now faults faults_now
      → Consumes left_now left_next taken → now ++ taken ≡ with_feed line ++ now_next
      → IsLine line → faults_next ≡ faults_now → number ≡ before + (count + 1)
      → (e ≡ J.NoForm → IsNoLine judge.set_up line)
      → ((wrong : WrongReaction) → e ≡ J.Wrong wrong → (texts : List (List ℕ))
      → HasJudged texts judge → IsWrongText judge.set_up texts line wrong)
      → JudgesTrace set_up before (Err (end_of_judge number e)) pending left left_next faults
      faults_next
  Reacting-hit {now = now} now_next line taken number J.NoMemory h read is good same numbered
      no_line wrongs = record {
        texts = h.texts;
        behind = now ++ taken;
        reads = with_bytes taken h read;
        stops = same ∙ h.counts;
        says = do_react h;
      }
  Reacting-hit now_next line taken number J.NoForm h read is good same numbered no_line wrongs =
      let counted = length-append h.texts (line ∷ []) in
      let count_is = h.count_is in
      hit_last now_next line taken h read is good (same ∙ h.counts) (
        omega (arith, counted, count_is, numbered),
        refl,
        record {
          front = h.texts;
          last = line;
          split = refl;
          react = do_react h;
          no_line = subst (λ s. IsNoLine s line) h.same (no_line refl);
        },
      )
  Reacting-hit now_next line taken number (J.Wrong wrong) h read is good same numbered no_line
      wrongs =
      let counted = length-append h.texts (line ∷ []) in
      let count_is = h.count_is in
      hit_last now_next line taken h read is good (same ∙ h.counts) (
        omega (arith, counted, count_is, numbered),
        record {
          front = h.texts;
          last = line;
          split = refl;
          is_wrong = subst (λ s. IsWrongText s h.texts line wrong) h.same
              (wrongs wrong refl h.texts h.has);
        },
      )

  -- more lines were taken than are counted
  pub Reacting-many : {judge : Judge} {count : ℕ} {now : List ℕ} {left_now : Option (List ℕ)}
      {faults_now : ℕ} → Reacting set_up judge count pending now left left_now faults faults_now
      → count ≡ 2 ^ 32 - 1
      → JudgesTrace set_up before (Err F.TooManyLines) pending left left_now faults faults_now
  Reacting-many {now = now} h all = record {
    texts = h.texts;
    behind = now;
    reads = h.reads;
    stops = h.counts;
    says = (do_react h, sym h.count_is ∙ all);
  }

-- ---- the set-up lines, and then the lines of the trace

module _ (left left_mid : Option (List ℕ)) (faults faults_mid : ℕ) (script pending_mid : List ℕ)
  where
    -- not all set-up lines were read
    pub judges_none : (end : FollowEnd)
        → ReadsSetUp (Err end) script [] pending_mid left left_mid faults faults_mid
        → JudgesInput (Err end) left left_mid faults faults_mid
    judges_none end h = record {
      lines = h.lines;
      behind = h.behind;
      reads = h.reads;
      stops = h.says.1;
      says = inl h.says.0;
    }

    judges_set_up : (read : SetUpRead) (end : FollowEnd)
        → (h : ReadsSetUp (Ok read) script [] pending_mid left left_mid faults faults_mid)
        → ReadingStops (Err end) left_mid faults faults_mid h.behind
        → SetUpSays (Err end) h.lines left_mid h.behind
        → JudgesInput (Err end) left left_mid faults faults_mid
    judges_set_up read end h stops says = record {
      lines = h.lines;
      behind = h.behind;
      reads = h.reads;
      stops = stops;
      says = inl says;
    }

    -- no judge was made of them
    pub judges_refused : (read : SetUpRead) (end : FollowEnd)
        → ReadsSetUp (Ok read) script [] pending_mid left left_mid faults faults_mid
        → AreRefused script end → JudgesInput (Err end) left left_mid faults faults_mid
    judges_refused read (F.Refused refusal) h hit =
        judges_set_up read (F.Refused refusal) h h.says.1
        (refused_says read refusal h (inl hit))
    judges_refused read F.NoMemory h hit = judges_set_up read F.NoMemory h h.says.1 tt
    judges_refused read F.Done h hit = absurd hit
    judges_refused read F.Words h hit = absurd hit
    judges_refused read (F.Unlawful line reason) h hit = absurd hit
    judges_refused read (F.Wrong line wrong) h hit = absurd hit
    judges_refused read F.ReadFault h hit = absurd hit
    judges_refused read F.WriteFault h hit = absurd hit
    judges_refused read F.LineTooLong h hit = absurd hit
    judges_refused read F.SetUpTooLong h hit = absurd hit
    judges_refused read F.TooManyLines h hit = absurd hit

    -- no line between came
    pub judges_not_parted : (read : SetUpRead) (refusal : Refusal) (set_up : SetUpLines)
        → ReadsSetUp (Ok read) script [] pending_mid left left_mid faults faults_mid
        → IsSetUpOf script set_up → read.parted ≡ false
        → refusal ≡ record { line = read.lines + 1; reason = 15 }
        → JudgesInput (Err (F.Refused refusal)) left left_mid faults faults_mid
    judges_not_parted read refusal set_up h is parted same =
        judges_set_up read (F.Refused refusal) h h.says.1
        (refused_says read refusal h (inr (parted, (set_up, is), same)))

    -- the set-up lines, the line between, and the lines of the trace
    pub judges_trace : (read : SetUpRead) (set_up : SetUpLines) (verdict : Result ℕ FollowEnd)
        (before : ℕ) (left_after : Option (List ℕ)) (faults_after : ℕ)
        → ReadsSetUp (Ok read) script [] pending_mid left left_mid faults faults_mid
        → IsSetUpOf script set_up → read.parted ≡ true → before ≡ read.lines + 1
        → JudgesTrace set_up before verdict pending_mid left_mid left_after faults_mid faults_after
        → JudgesInput verdict left left_after faults faults_after
    judges_trace read set_up verdict before left_after faults_after h is parted counted k =
        let set = h.says.0 in
        record {
          lines = h.lines ++ k.texts;
          behind = k.behind;
          reads = parted_reads read k.texts left_after k.behind h parted k.reads;
          stops = subst (λ n. ReadingStops verdict left_after n faults_after k.behind) h.says.1
              k.stops;
          says = inr record {
            before = set.before;
            set_up = set_up;
            texts = k.texts;
            parts = parts_trace read set_up k.texts h is parted;
            says = subst (λ n. TraceReacts set_up n verdict k.texts)
                (counted ∙ ap (λ n. n + 1) set.count) k.says;
          };
        }

-- ---- the verdict is told

-- no verdict on reactions is that of a failed write
is_written : (verdict : Result ℕ FollowEnd) (left left_after : Option (List ℕ))
    (faults faults_after : ℕ) (out : Outgoing) → out.failed ≡ false → out.waiting ≡ []
    → JudgesInput verdict left left_after faults faults_after → IsWritten verdict out
is_written (Ok count) left left_after faults faults_after out fine empty h = (fine, empty)
is_written (Err F.WriteFault) left left_after faults faults_after out fine empty h =
    absurd (elim h.says as (λ _. ⊥) [ inl says ↦ says | inr judged ↦ judged.says ])
is_written (Err F.Done) left left_after faults faults_after out fine empty h = (fine, empty)
is_written (Err F.Words) left left_after faults faults_after out fine empty h = (fine, empty)
is_written (Err (F.Refused refusal)) left left_after faults faults_after out fine empty h =
    (fine, empty)
is_written (Err (F.Unlawful line reason)) left left_after faults faults_after out fine empty h =
    (fine, empty)
is_written (Err (F.Wrong line wrong)) left left_after faults faults_after out fine empty h =
    (fine, empty)
is_written (Err F.ReadFault) left left_after faults faults_after out fine empty h = (fine, empty)
is_written (Err F.NoMemory) left left_after faults faults_after out fine empty h = (fine, empty)
is_written (Err F.LineTooLong) left left_after faults faults_after out fine empty h = (fine, empty)
is_written (Err F.SetUpTooLong) left left_after faults faults_after out fine empty h = (fine, empty)
is_written (Err F.TooManyLines) left left_after faults faults_after out fine empty h = (fine, empty)

-- the lines were read, and the verdict is told
pub judges_told : (verdict : Result ℕ FollowEnd) (end : FollowEnd)
    (left left_after : Option (List ℕ)) (faults faults_after : ℕ) (begun out : Outgoing)
    (last : List ℕ) → begun.failed ≡ false → begun.waiting ≡ []
    → JudgesInput verdict left left_after faults faults_after → TellsAnswered verdict end last
    → Writes begun out last → HasWritten verdict end out
    → JudgesAll end left left_after faults faults_after begun.written out.written begun.faults
    out.faults
judges_told verdict end left left_after faults faults_after begun out last fine empty h tells told
    written = record {
      verdict = verdict;
      last = last;
      judges = h;
      tells = tells;
      writes = written_to_end verdict end begun begun out [] last fine empty
          (is_written verdict left left_after faults faults_after begun fine empty h)
          (Writes-nil begun) told written;
      ends = ends_so verdict end out written;
    }

-- nothing was read or written, since memory was not given
pub judges_nothing : (left written : Option (List ℕ)) (read_faults write_faults : ℕ)
    → JudgesAll F.NoMemory left left read_faults read_faults written written write_faults
    write_faults
judges_nothing left written read_faults write_faults = record {
  verdict = Err F.NoMemory;
  last = [];
  judges = record {
    lines = [];
    behind = [];
    reads = Reads-none [] left;
    stops = refl;
    says = inl tt;
  };
  tells = inl refl;
  writes = (Appends-nil written, refl);
  ends = inl refl;
}
