use Rattle.std.proofs.Common.{inl, inr, refl, sym, subst, append-nil}
use Rattle.conform_lines.specs.Counting.{SendsChars, counts_chars, counts_line}
use Rattle.conform_lines.proofs.counting.count_line.Goals as goal

pub returns-in_ok-count_chars-in-Some : goal.returns-in_ok-count_chars-in-Some
returns-in_ok-count_chars-in-Some c =
    let chars = c.as_slice.result.now in (
      counts_chars c.args.reader.now.place chars,
      inl (
        chars,
        subst (SendsChars c.args.line.now) (sym c.as_slice.ensures)
            (rw c.in-Some.is at c.in_ok-chars.ensures),
        refl,
      ),
      c.in_ok-count_chars-in-Some.ensures.sent,
      sym (append-nil c.args.counts.now.other.items),
      c.in_ok-count_chars-in-Some.ensures.place,
    )

pub returns-in_ok-push_line-in-None : goal.returns-in_ok-push_line-in-None
returns-in_ok-push_line-in-None c = (
  counts_line c.args.reader.now.place c.args.line.now,
  inr (rw c.in-None.is at c.in_ok-chars.ensures, refl),
  sym (append-nil c.args.counts.now.sent.items),
  c.in_ok-push_line-in-None.ensures,
  refl,
)
