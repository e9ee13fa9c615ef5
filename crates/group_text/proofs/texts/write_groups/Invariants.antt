use Rattle.std.proofs.Common.{length}
use Rattle.rio_chars.specs.Written.{Outgoing, Writes}
use Rattle.code_groups.specs.Streams.{HaveTenBits}
use Rattle.group_text.specs.GroupTexts.{spaced_groups}
use Rattle.group_text.proofs.texts.write_groups.Given as goal

-- what is told of the groups that are left completes what was told
abbrev pub invariant-loop-left : goal.invariant-loop-left
invariant-loop-left g l = record {
  tens : HaveTenBits l.left;
  rest : (out : Outgoing) → Writes l.outbox out (spaced_groups l.left)
      → Writes l.initial.outbox out (spaced_groups l.groups);
}

abbrev pub decreases-loop-left : goal.decreases-loop-left
decreases-loop-left g l = length l.left
