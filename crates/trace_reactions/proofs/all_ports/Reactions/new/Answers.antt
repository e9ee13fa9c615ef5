use Rattle.std.proofs.Common.{◌≡◌, List, take, subst, rules, arith}
use Rattle.std.proofs.lemmas.List.{take_all}
use Rattle.fabric_script.specs.declared.lines.Numbered.{Numbered}
use Rattle.trace_reactions.specs.Judging.{buffers_after, KeepsReactions, reactions_before}
use Rattle.trace_reactions.proofs.JudgingLaws.{set_next}
use Rattle.trace_reactions.proofs.all_ports.Reactions.new.Goals as goal

pub loop-numbered-preserved : goal.loop-numbered-preserved
loop-numbered-preserved c =
    let lines = c.args.set_up.now.lines in
    let i = c.loop-numbered.numbered-index in
    set_next lines i c.numbered-item.result c.set.new.self (search (rules, arith)) (search rules)
    (c.in_ok-set.ensures (λ p. buffers_after 8 p (take i lines)) c.loop-numbered.invariant)

pub returns : goal.returns
returns c =
    let lines = c.args.set_up.now.lines in
    let all : take c.loop-numbered.numbered-index lines ≡ lines
    = take_all c.loop-numbered.numbered-index lines (search (rules, arith)) in
    subst (λ (l : List Numbered). KeepsReactions (reactions_before l) c.loop-numbered.reactions) all
    c.loop-numbered.invariant
