use Rattle.std.proofs.Common.{List, ℕ, sym, subst}
use Rattle.rio_chars.specs.Written.{Writes}
use Rattle.rio_chars.proofs.WrittenLaws.{Writes-nil}
use Rattle.code_groups.proofs.StreamLaws.{none_left}
use Rattle.group_text.specs.GroupTexts.{spaced_groups}
use Rattle.group_text.proofs.ListLaws.{rest_told, tens_left}
use Rattle.group_text.proofs.texts.write_groups.Goals as goal

pub loop-left-preserved : goal.loop-left-preserved
loop-left-preserved g c =
    let h = c.loop-left.invariant in
    let left = c.loop-left.left.now in
    record {
      tens = (tens_left left 0 c.in-len1-up.len_at_least h.tens).1;
      rest = λ out told.
          h.rest out (rest_told left _ c.in-len1-up.len_at_least c.write_group.ensures told);
    }

pub returns : goal.returns
returns g c =
    let out = c.loop-left.outbox in
    let empty = none_left c.loop-left.left.now c.in_default.len_below in
    c.loop-left.invariant.rest out
    (subst (λ (left : List ℕ). Writes out out (spaced_groups left)) (sym empty) (Writes-nil out))
