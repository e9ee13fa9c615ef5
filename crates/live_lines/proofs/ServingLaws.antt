-- Lines that are read and answered, one after another.
use Rattle.std.proofs.Common.{◌≡◌, ℕ, ◌+◌, Option, List, [], ◌∷◌, ◌++◌, All, true, false, length, length-append, refl, sym, ap, ◌∙◌, subst, append-nil, append_assoc, inl, inr}
use Rattle.std.specs.List.{flat_map}
use Rattle.std.specs.Io.KnownBytes.{Consumes}
use Rattle.std.proofs.KnownBytes.{Consumes-trans, Consumes-nil, Appends-nil}
use Rattle.std.proofs.lemmas.Grind.{flat_map-append}
use Rattle.std.proofs.lemmas.List.Elements.{All-nil, All-push}
use Rattle.rio_chars.specs.Written.{Outgoing, Writes}
use Rattle.rio_chars.proofs.WrittenLaws.{Writes-nil, Writes-then, Writes-whole, Writes-front, Writes-rose}
use Rattle.live_lines.specs.Lines.{IsLine, LinesStop, with_feed}
use Rattle.live_lines.specs.Serving.{ServesLines, WritesAll, end_status}
use Rattle.live_lines.specs.declared.input.LineEnd.{LineEnd}
use Rattle.live_lines.specs.declared.input.LineEnd.TheVariants.{End, Fault, TooLong, NoMemory}
use Rattle.live_lines.specs.declared.status.LiveStatus.TheVariants.{Done, WriteFault, Undetected}
use Rattle.live_lines.specs.declared.status.LiveStatus.TheVariants as ends_with

-- what was read, with what is read behind it
read_more : (left mid last : Option (List ℕ)) (front pending taken rest : List ℕ)
    → Consumes left mid (front ++ pending) → Consumes mid last taken → pending ++ taken ≡ rest
    → Consumes left last (front ++ rest)
read_more left mid last front pending taken rest once more is =
    subst (Consumes left last)
    (append_assoc front pending taken ∙ ap (λ l. front ++ l) is)
    (Consumes-trans left mid last (front ++ pending) taken once more)

with_line : (lines : List (List ℕ)) (line : List ℕ) (rest : List ℕ)
    → flat_map with_feed lines ++ (with_feed line ++ rest)
    ≡ flat_map with_feed (lines ++ line ∷ []) ++ rest
with_line lines line rest =
    sym (append_assoc (flat_map with_feed lines) (with_feed line) rest)
    ∙ ap (λ l. l ++ rest)
    (ap (λ l. flat_map with_feed lines ++ l) (sym (append-nil (with_feed line)))
    ∙ sym (flat_map-append with_feed lines (line ∷ [])))

-- These lines were read so far, these bytes behind the last one, and this text was told.
pub record Going (begun out : Outgoing) (left left_now : Option (List ℕ)) (pending : List ℕ)
    (count : ℕ) (read_faults read_faults_now : ℕ) (lines : List (List ℕ)) (text : List ℕ)
    : Type 0 where
  pub are_lines : All (λ line. IsLine line) lines
  pub counted : length lines ≡ count
  pub read : Consumes left left_now (flat_map with_feed lines ++ pending)
  pub told : Writes begun out text
  pub counts : read_faults_now ≡ read_faults

module _ (begun : Outgoing) (left : Option (List ℕ)) (read_faults : ℕ) where
  pub Going-begin : (pending : List ℕ) → pending ≡ []
      → Going begun begun left left pending 0 read_faults read_faults [] []
  Going-begin pending none = record {
    are_lines = All-nil (λ l. IsLine l);
    counted = refl;
    read = subst (Consumes left left) (sym none) (Consumes-nil left);
    told = Writes-nil begun;
    counts = refl;
  }

  -- a line more was read
  pub Going-line : {out : Outgoing} {left_now left_next : Option (List ℕ)}
      (pending pending_next line taken : List ℕ) {count : ℕ}
      (read_faults_now read_faults_next : ℕ) (lines : List (List ℕ)) (text : List ℕ)
      → Going begun out left left_now pending count read_faults read_faults_now lines text
      → Consumes left_now left_next taken → pending ++ taken ≡ with_feed line ++ pending_next
      → IsLine line → read_faults_next ≡ read_faults_now
      → Going begun out left left_next pending_next (count + 1) read_faults
      read_faults_next (lines ++ line ∷ []) text
  Going-line {out} {left_now} {left_next} pending pending_next line taken {count}
      read_faults_now read_faults_next lines text h more is good same =
      record {
        are_lines = All-push (λ l. IsLine l) lines line h.are_lines good;
        counted = length-append lines (line ∷ []) ∙ ap (λ n. n + 1) h.counted;
        read =
            subst (Consumes left left_next) (with_line lines line pending_next)
            (read_more left left_now left_next (flat_map with_feed lines) pending taken
            (with_feed line ++ pending_next) h.read more is);
        told = h.told;
        counts = same ∙ h.counts;
      }

  -- bytes were read that are not answered
  pub Going-read : {out : Outgoing} {left_now left_next : Option (List ℕ)}
      (pending taken rest : List ℕ) {count : ℕ} (read_faults_now read_faults_next : ℕ)
      (lines : List (List ℕ)) (text : List ℕ)
      → Going begun out left left_now pending count read_faults read_faults_now lines text
      → Consumes left_now left_next taken → pending ++ taken ≡ rest
      → read_faults_next ≡ read_faults_now
      → Going begun out left left_next rest count read_faults read_faults_next lines text
  Going-read {out} {left_now} {left_next} pending taken rest {count} read_faults_now
      read_faults_next lines text h more is same = record {
        are_lines = h.are_lines;
        counted = h.counted;
        read =
            read_more left left_now left_next (flat_map with_feed lines) pending taken rest h.read
            more is;
        told = h.told;
        counts = same ∙ h.counts;
      }

  -- more was told
  pub Going-told : {out next : Outgoing} {left_now : Option (List ℕ)} (pending : List ℕ)
      {count : ℕ} (read_faults_now : ℕ) (lines : List (List ℕ)) (text more : List ℕ)
      → Going begun out left left_now pending count read_faults read_faults_now lines text
      → Writes out next more
      → Going begun next left left_now pending count read_faults read_faults_now lines
      (text ++ more)
  Going-told {out} {next} {left_now} pending {count} read_faults_now lines text more h told =
      record {
        are_lines = h.are_lines;
        counted = h.counted;
        read = h.read;
        told = Writes-then text more h.told told;
        counts = h.counts;
      }

  -- all of the text was written
  pub Going-whole : {out : Outgoing} {left_now : Option (List ℕ)} (pending : List ℕ)
      {count : ℕ} (read_faults_now : ℕ) (lines : List (List ℕ)) (text : List ℕ)
      → Going begun out left left_now pending count read_faults read_faults_now lines text
      → begun.waiting ≡ [] → out.failed ≡ false → out.waiting ≡ []
      → WritesAll begun.written out.written begun.faults out.faults text
  Going-whole {out} pending read_faults_now lines text h clear fine empty = (
    Writes-whole begun out text clear h.told fine empty,
    h.told.counts fine,
  )

  -- there is no further line
  pub Going-stops : {out : Outgoing} {left_now left_last : Option (List ℕ)} (most : ℕ)
      (pending taken : List ℕ) {count : ℕ} (read_faults_now read_faults_last : ℕ) (end : LineEnd)
      (lines : List (List ℕ)) (text : List ℕ)
      → Going begun out left left_now pending count read_faults read_faults_now lines text
      → begun.waiting ≡ [] → out.failed ≡ false → out.waiting ≡ []
      → Consumes left_now left_last taken
      → LinesStop end left_last read_faults_now read_faults_last (pending ++ taken)
      → ServesLines most (end_status end) left left_last read_faults read_faults_last
      begun.written out.written begun.faults out.faults lines text
  Going-stops {out} {left_now} {left_last} most pending taken {count} read_faults_now
      read_faults_last end lines text h clear fine empty more stops =
      let whole = Going-whole pending read_faults_now lines text h clear fine empty in
      let stopped =
      subst (λ n. LinesStop end left_last n read_faults_last (pending ++ taken)) h.counts stops in
      let read =
      read_more left left_now left_last (flat_map with_feed lines) pending taken
      (pending ++ taken) h.read more refl in
      elim end as (λ e. LinesStop e left_last read_faults read_faults_last (pending ++ taken)
      → ServesLines most (end_status e) left left_last read_faults read_faults_last
      begun.written out.written begun.faults out.faults lines text) [
        | End ↦ λ s. record {
          behind = pending ++ taken;
          are_lines = h.are_lines;
          read = read;
          ends = (s.2, inl (s.0, s.1));
          writes = whole;
        }
        | Fault ↦ λ s. record {
          behind = pending ++ taken;
          are_lines = h.are_lines;
          read = read;
          ends = s;
          writes = whole;
        }
        | TooLong ↦ λ s. record {
          behind = pending ++ taken;
          are_lines = h.are_lines;
          read = read;
          ends = (s.2, s.0, s.1);
          writes = whole;
        }
        | NoMemory ↦ λ s. record {
          behind = pending ++ taken;
          are_lines = h.are_lines;
          read = read;
          ends = s.0;
          writes = whole;
        }
      ] stopped

  -- the most lines were served
  pub Going-done : {out : Outgoing} {left_now : Option (List ℕ)} (most : ℕ)
      (pending : List ℕ) {count : ℕ} (read_faults_now : ℕ) (lines : List (List ℕ))
      (text : List ℕ)
      → Going begun out left left_now pending count read_faults read_faults_now lines text
      → begun.waiting ≡ [] → out.failed ≡ false → out.waiting ≡ []
      → count ≡ most
      → ServesLines most Done left left_now read_faults read_faults_now
      begun.written out.written begun.faults out.faults lines text
  Going-done most pending read_faults_now lines text h clear fine empty all = record {
    behind = pending;
    are_lines = h.are_lines;
    read = h.read;
    ends = (h.counts, inr (h.counted ∙ all));
    writes = Going-whole pending read_faults_now lines text h clear fine empty;
  }

  -- memory was not given
  pub Going-no_memory : {out : Outgoing} {left_now : Option (List ℕ)} (most : ℕ)
      (pending : List ℕ) {count : ℕ} (read_faults_now : ℕ) (lines : List (List ℕ))
      (text : List ℕ)
      → Going begun out left left_now pending count read_faults read_faults_now lines text
      → begun.waiting ≡ [] → out.failed ≡ false → out.waiting ≡ []
      → ServesLines most ends_with.NoMemory left left_now read_faults read_faults_now
      begun.written out.written begun.faults out.faults lines text
  Going-no_memory most pending read_faults_now lines text h clear fine empty = record {
    behind = pending;
    are_lines = h.are_lines;
    read = h.read;
    ends = h.counts;
    writes = Going-whole pending read_faults_now lines text h clear fine empty;
  }

  -- a port acted on what was not sent
  pub Going-undetected : {out : Outgoing} {left_now : Option (List ℕ)} (most : ℕ)
      (pending : List ℕ) {count : ℕ} (read_faults_now : ℕ) (lines : List (List ℕ))
      (text : List ℕ)
      → Going begun out left left_now pending count read_faults read_faults_now lines text
      → begun.waiting ≡ [] → out.failed ≡ false → out.waiting ≡ []
      → ServesLines most Undetected left left_now read_faults read_faults_now
      begun.written out.written begun.faults out.faults lines text
  Going-undetected most pending read_faults_now lines text h clear fine empty = record {
    behind = pending;
    are_lines = h.are_lines;
    read = h.read;
    ends = h.counts;
    writes = Going-whole pending read_faults_now lines text h clear fine empty;
  }

  -- a write failed
  pub Going-fault : {out : Outgoing} {left_now : Option (List ℕ)} (most : ℕ)
      (pending : List ℕ) {count : ℕ} (read_faults_now : ℕ) (lines : List (List ℕ))
      (text : List ℕ)
      → Going begun out left left_now pending count read_faults read_faults_now lines text
      → begun.waiting ≡ [] → begun.failed ≡ false → out.failed ≡ true
      → ServesLines most WriteFault left left_now read_faults read_faults_now
      begun.written out.written begun.faults out.faults lines text
  Going-fault {out} most pending read_faults_now lines text h clear fine failed = record {
    behind = pending;
    are_lines = h.are_lines;
    read = h.read;
    ends = h.counts;
    writes = (
      Writes-front begun out text clear h.told,
      Writes-rose begun out text fine h.told failed,
    );
  }

-- nothing was read or written, since memory was not given
pub served_none : (most : ℕ) (left written : Option (List ℕ)) (read_faults write_faults : ℕ)
    → ServesLines most ends_with.NoMemory left left read_faults read_faults written written
    write_faults write_faults [] []
served_none most left written read_faults write_faults = record {
  behind = [];
  are_lines = All-nil (λ l. IsLine l);
  read = Consumes-nil left;
  ends = refl;
  writes = (Appends-nil written, refl);
}
