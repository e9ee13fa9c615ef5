-- Set-up lines that are read, one after another.
use Rattle.std.proofs.Common.{◌≡◌, ◌≢◌, ℕ, ◌+◌, ◌<◌, ◌≤◌, true, codes, Option, Ok, Err, List, [], ◌∷◌, ◌++◌, length, length-append, refl, sym, ap, ◌∙◌, subst, append-nil, arith}
use Rattle.std.specs.Io.KnownBytes.{Consumes}
use Rattle.std.proofs.lemmas.Grind.{flat_map-append}
use Rattle.std.proofs.lemmas.List.Elements.{All-nil, All-push}
use Rattle.live_lines.specs.declared.input.LineEnd.{LineEnd}
use Rattle.live_lines.specs.declared.input.LineEnd.TheVariants as L
use Rattle.live_lines.specs.Lines.{IsLine, LinesStop, with_feed, most_line}
use Rattle.follow_lines.specs.declared.ends.FollowEnd.TheVariants as F
use Rattle.follow_lines.specs.Following.{NoneParts, ReadsLines, ReadsSetUp, lines_bytes, set_up_ended}
use Rattle.follow_lines.proofs.ReadingLaws.{Reads-none, Reads-line, Reads-join, Reads-more}

-- Set-up lines were read so far, and these bytes are pending behind them.
pub record Setting (script pending now : List ℕ) (left left_now : Option (List ℕ))
    (faults faults_now count : ℕ) : Type 0 where
  pub lines : List (List ℕ)
  pub reads : ReadsLines pending left left_now lines now
  pub none_parts : NoneParts lines
  pub count_is : count ≡ length lines
  pub script_is : script ≡ lines_bytes lines
  pub counts : faults_now ≡ faults
  pub few : count ≤ length script

pub Setting-begin : (script pending : List ℕ) (left : Option (List ℕ)) (faults : ℕ)
    → script ≡ [] → Setting script pending pending left left faults faults 0
Setting-begin script pending left faults none = record {
  lines = [];
  reads = Reads-none pending left;
  none_parts = All-nil (λ l. l ≢ codes "---");
  count_is = refl;
  script_is = none;
  counts = refl;
  few = omega arith;
}

fed_more : (lines : List (List ℕ)) (line : List ℕ)
    → lines_bytes lines ++ with_feed line ≡ lines_bytes (lines ++ line ∷ [])
fed_more lines line =
    ap (λ l. lines_bytes lines ++ l) (sym (append-nil (with_feed line)))
    ∙ sym (flat_map-append with_feed lines (line ∷ []))

module _ (script pending : List ℕ) (left : Option (List ℕ)) (faults : ℕ) where
  pub Setting-line : (script_next : List ℕ) {now : List ℕ} (now_next line taken : List ℕ)
      {left_now left_next : Option (List ℕ)} {faults_now faults_next count : ℕ}
      → Setting script pending now left left_now faults faults_now count
      → Consumes left_now left_next taken → now ++ taken ≡ with_feed line ++ now_next
      → IsLine line → faults_next ≡ faults_now → line ≢ codes "---"
      → script_next ≡ script ++ with_feed line
      → Setting script_next pending now_next left left_next faults faults_next (count + 1)
  Setting-line script_next {now} now_next line taken {left_now} {left_next} {faults_now}
      {faults_next} {count} h read is good same other more =
      let grown = ap length more ∙ length-append script (with_feed line) in
      let longer = length-append line (codes "\n") in
      let few = h.few in
      let counted = length-append h.lines (line ∷ []) in
      let count_is = h.count_is in
      record {
        lines = h.lines ++ line ∷ [];
        reads = Reads-line pending now now_next line taken left left_now left_next h.lines h.reads
            read is good;
        none_parts = All-push (λ l. l ≢ codes "---") h.lines line h.none_parts other;
        count_is = omega (arith, counted, count_is);
        script_is = more ∙ ap (λ l. l ++ with_feed line) h.script_is ∙ fed_more h.lines line;
        counts = same ∙ h.counts;
        few = omega (arith, grown, longer, few);
      }

  -- the line between was read
  pub Setting-parted : {now : List ℕ} (now_next line taken : List ℕ)
      {left_now left_next : Option (List ℕ)} {faults_now faults_next count : ℕ}
      → Setting script pending now left left_now faults faults_now count
      → Consumes left_now left_next taken → now ++ taken ≡ with_feed line ++ now_next
      → IsLine line → faults_next ≡ faults_now → line ≡ codes "---"
      → ReadsSetUp (Ok (record { lines = count; parted = true })) script pending now_next left
      left_next faults faults_next
  Setting-parted {now} now_next line taken {left_now} {left_next} h read is good same between =
      record {
        lines = h.lines ++ line ∷ [];
        behind = now_next;
        reads = Reads-line pending now now_next line taken left left_now left_next h.lines h.reads
            read is good;
        says = (
          record {
            before = h.lines;
            none_parts = h.none_parts;
            count = h.count_is;
            script_is = h.script_is;
            stand = ap (λ (l : List ℕ). h.lines ++ l ∷ []) between;
            next = λ parted. refl;
          },
          same ∙ h.counts,
        );
      }

  -- bytes were read that are no line
  set_bytes : {now : List ℕ} {left_now left_next : Option (List ℕ)} {faults_now count : ℕ}
      (taken : List ℕ)
      → (h : Setting script pending now left left_now faults faults_now count)
      → Consumes left_now left_next taken
      → ReadsLines pending left left_next h.lines (now ++ taken)
  set_bytes {now} {left_now} {left_next} taken h read =
      subst (λ l. ReadsLines pending left left_next l (now ++ taken)) (append-nil h.lines)
      (Reads-join pending now (now ++ taken) left left_now left_next h.lines [] h.reads
      (Reads-more now taken left_now left_next read))

  -- no further line comes
  pub Setting-stops : {now : List ℕ} (now_next taken : List ℕ)
      {left_now left_next : Option (List ℕ)} {faults_now faults_next count : ℕ} (end : LineEnd)
      → Setting script pending now left left_now faults faults_now count
      → Consumes left_now left_next taken
      → LinesStop end left_next faults_now faults_next (now ++ taken)
      → ReadsSetUp (set_up_ended count end) script pending now_next left left_next faults
      faults_next
  Setting-stops {now} now_next taken {left_now} {left_next} {faults_now} {faults_next} L.End h
      read stop = record {
        lines = h.lines;
        behind = now ++ taken;
        reads = set_bytes taken h read;
        says = (
          record {
            before = h.lines;
            none_parts = h.none_parts;
            count = h.count_is;
            script_is = h.script_is;
            stand = (refl, (stop.0, stop.1));
            next = λ parted. absurd cc;
          },
          stop.2 ∙ h.counts,
        );
      }
  Setting-stops {now} now_next taken {left_now} {left_next} {faults_now} {faults_next} L.Fault h
      read stop = record {
        lines = h.lines;
        behind = now ++ taken;
        reads = set_bytes taken h read;
        says = (
          h.none_parts,
          subst (λ n. LinesStop L.Fault left_next n faults_next (now ++ taken)) h.counts stop,
        );
      }
  Setting-stops {now} now_next taken {left_now} {left_next} L.TooLong h read stop = record {
    lines = h.lines;
    behind = now ++ taken;
    reads = set_bytes taken h read;
    says = (h.none_parts, (stop.2 ∙ h.counts, stop.0, stop.1));
  }
  Setting-stops {now} now_next taken {left_now} {left_next} L.NoMemory h read stop = record {
    lines = h.lines;
    behind = now ++ taken;
    reads = set_bytes taken h read;
    says = (tt, stop.0 ∙ h.counts);
  }

  -- memory was not given for a line
  pub Setting-no_memory : {now : List ℕ} (script_next now_next taken : List ℕ)
      {left_now left_next : Option (List ℕ)} {faults_now faults_next count : ℕ}
      → Setting script pending now left left_now faults faults_now count
      → Consumes left_now left_next taken → faults_next ≡ faults_now
      → ReadsSetUp (Err F.NoMemory) script_next pending now_next left left_next faults faults_next
  Setting-no_memory {now} script_next now_next taken h read same = record {
    lines = h.lines;
    behind = now ++ taken;
    reads = set_bytes taken h read;
    says = (tt, same ∙ h.counts);
  }

  -- the set-up lines are too long
  pub Setting-long : {now : List ℕ} {left_now : Option (List ℕ)} {faults_now count : ℕ}
      → Setting script pending now left left_now faults faults_now count
      → most_line < length script
      → ReadsSetUp (Err F.SetUpTooLong) script pending now left left_now faults faults_now
  Setting-long {now} h long = record {
    lines = h.lines;
    behind = now;
    reads = h.reads;
    says = (
      (h.none_parts, subst (λ (l : List ℕ). most_line < length l) h.script_is long),
      h.counts,
    );
  }
