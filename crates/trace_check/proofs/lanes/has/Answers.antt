use Rattle.std.proofs.Common.{ℕ, List, nat_eq, rules, tests}
use Rattle.std.proofs.lemmas.Iterator.Consumers.{YieldsList-from_deque}
use Rattle.std.proofs.lemmas.Iterator.Search.{any_from_yields_List}
use Rattle.std.specs.Cmp.Lexicographic.{pointwise}
use Rattle.trace_check.proofs.SendingLaws.{found_both}
use Rattle.trace_check.proofs.lanes.has.Goals as goal

pub returns : goal.returns
returns c =
    let packet = c.args.packet.now in
    found_both c.args.packets.now.items packet c.any.result
    (any_from_yields_List (λ (other : List ℕ). pointwise nat_eq other packet) _ _ c.any.result
    c.any.ensures.ran (YieldsList-from_deque c.args.packets.now.items (cc))
    (λ x b q k. search (rules, tests)))
