use Rattle.std.proofs.Common.{◌≡◌, ◌++◌, ◌∷◌, [], replicate, ap, ◌∙◌, rules, arith}
use Rattle.link_buffers.specs.Queues.{no_packets}
use Rattle.trace_check.specs.Starting.{lent_lists}
use Rattle.trace_check.specs.declared.network.Network.{Network as Kept}
use Rattle.trace_check.proofs.BuildLaws.{built_node}
use Rattle.trace_check.proofs.network.Network.add_node.Goals as goal

pub returns : goal.returns
returns c = λ net built.
    let old = c.args.self.now in
    let kept = c.loop.invariant in
    let all : c.loop.counter ≡ 16 = search (rules, arith) in
    let new : Kept = record c.loop.self { registers = c.push.new.self } in
    built_node new c.args.registers built
    (c.in_ok-push.ensures.items ∙ ap (λ r. r.items ++ c.args.registers ∷ []) kept.registers)
    (kept.buffers ∙ ap (λ k. old.buffers.items ++ replicate k 8) all)
    (kept.received ∙ ap (λ k. old.received.items ++ replicate k no_packets) all)
    (kept.waiting ∙ ap (λ k. old.waiting.items ++ replicate k no_packets) all)
    (kept.lent ∙ ap (λ k. lent_lists old ++ replicate k []) all)
