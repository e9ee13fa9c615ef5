use Rattle.std.proofs.Common.{◌≡◌, ◌∙◌, false, inl, inr, Some, sym, rules, tests}
use Rattle.std.specs.Prelude.{IsTrue}
use Rattle.maint_packets.specs.declared.next_hop.Next.TheVariants.{RegisterUnit}
use Rattle.trace_check.proofs.network.Network.is_for_registers.Goals as goal

pub returns-else-eq : goal.returns-else-eq
returns-else-eq c = λ nodes net is.
    let kind = c.is_switch.ensures nodes net is in
    let value = c.next_at.ensures.value nodes net is in
    let no_end : c.is_switch.result ≡ Some false → ⊥ = search (rules, tests) in
    let sent : IsTrue c.eq-else-eq.result → c.next_at.result ≡ Some RegisterUnit
    = search (rules, tests) in
    let told : c.next_at.result ≡ Some RegisterUnit → IsTrue c.eq-else-eq.result
    = search (rules, tests) in (
      λ yes. inr (sym value ∙ sent yes),
      λ mine. elim mine
          [ inl end ↦ absurd (no_end (kind ∙ end)) | inr there ↦ told (value ∙ there) ],
    )
