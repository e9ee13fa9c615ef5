-- What a new outbox was told, once it is flushed.
use Rattle.std.proofs.Common.{◌≡◌, ℕ, Bool, false, List, [], ◌++◌, Option, refl, subst, append-nil}
use Rattle.std.specs.Borrow.{GName}
use Rattle.rio_chars.specs.Written.{Outgoing, Writes}
use Rattle.rio_chars.proofs.WrittenLaws.{Writes-whole, Writes-front, Writes-rose}
use Rattle.fabric_contest.specs.ContestTexts.{TextIsTold}

pub told_by : {sink : GName} {w w' : Option (List ℕ)} {f f' : ℕ} {failed : Bool} {begun : Outgoing}
    (out : Outgoing) (text : List ℕ)
    → begun ≡ record { sink = sink; written = w; faults = f; waiting = []; failed = false }
    → Writes begun out (text ++ []) → out.waiting ≡ [] → failed ≡ out.failed → w' ≡ out.written
    → f' ≡ out.faults → TextIsTold failed w f w' f' text
told_by {sink} {w} {w'} {f} {f'} {failed} out text new told none is ends counts =
    rw (is, ends, counts) (record {
      whole = λ fine. Writes-whole start out text refl all fine none;
      counts = all.counts;
      front = λ failed. Writes-front start out text refl all;
      rose = λ failed. Writes-rose start out text refl all failed;
      never_falls = all.never_falls;
    })
  where
    start : Outgoing
    start = record { sink = sink; written = w; faults = f; waiting = []; failed = false }

    all : Writes start out text
    all = subst (Writes start out) (append-nil text)
        (subst (λ b. Writes b out (text ++ [])) new told)
