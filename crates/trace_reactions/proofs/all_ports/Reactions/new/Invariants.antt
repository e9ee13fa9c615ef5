use Rattle.std.proofs.Common.{take}
use Rattle.trace_reactions.specs.Judging.{KeepsReactions, reactions_before}
use Rattle.trace_reactions.proofs.all_ports.Reactions.new.Given as goal

abbrev pub invariant-loop-numbered : goal.invariant-loop-numbered
invariant-loop-numbered l =
    KeepsReactions (reactions_before (take l.numbered-index l.fn.set_up.lines)) l.reactions
