use Rattle.std.proofs.Common.{◌≡◌, Some, sym, ◌∙◌, rules, tests}
use Rattle.maint_packets.specs.declared.next_hop.Next.TheVariants.{Nowhere}
use Rattle.trace_check.proofs.network.Network.drop_at.Goals as goal

pub returns-then-eq : goal.returns-then-eq
returns-then-eq c = λ nodes net is is_in.
    let there : c.next_at.result ≡ Some Nowhere = search (rules, tests) in
    let value = c.next_at.ensures.value nodes net is in
    let first = c.take_first.ensures nodes net is is_in in (
      (λ yes. (first.0.0 yes, sym value ∙ there), λ needs. first.0.1 needs.0),
      first.1,
    )
