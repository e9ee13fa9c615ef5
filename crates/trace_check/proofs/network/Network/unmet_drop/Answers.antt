use Rattle.std.proofs.Common.{◌≡◌, Some, sym, ◌∙◌, rules, tests}
use Rattle.maint_packets.specs.declared.next_hop.Next.TheVariants.{Nowhere}
use Rattle.trace_check.proofs.UnmetLaws.{behind_dropped, match_map}
use Rattle.trace_check.proofs.network.Network.unmet_drop.Goals as goal

pub returns-then-ne : goal.returns-then-ne
returns-then-ne c = λ nodes net is is_in. (
  c.next_at-way.ensures.value nodes net is,
  λ way. search (rules, tests, way),
)

pub returns : goal.returns
returns c = λ nodes net is is_in.
    let there : c.next_at-way.result ≡ Some Nowhere = search (rules, tests) in
    match_map c.unmet_held.result (c.unmet_held.ensures nodes net is is_in)
    (λ first. (first, sym (c.next_at-way.ensures.value nodes net is) ∙ there))
    (behind_dropped net c.args.port c.args.packet.now)
