use Rattle.std.proofs.Common.{ℕ, List, sym, ap, ◌∙◌, subst}
use Rattle.link_buffers.specs.Priorities.{Covers}
use Rattle.link_model.specs.Output.{Output, hears, stype0}
use Rattle.link_port.specs.Halves.{output_of}
use Rattle.link_port.specs.States.{prios_of}
use Rattle.link_port.proofs.HearLaws.{report_prios, heard_covers}
use Rattle.link_port.proofs.port.Port.hear.Goals as goal

pub invariant_of-self : goal.invariant_of-self
invariant_of-self c =
    let symbol = c.symbol.inside in
    let told = output_of c.hear_report-told.result in
    let queued = c.self.inside.queued in
    let e = c.hear-self-inside.ensures in
    let same = ap prios_of c.hear_report-told.ensures ∙ report_prios c.args.symbol _
    ∙ ap (λ o. prios_of (output_of o)) c.replace-output.ensures.value in
    let covers = subst (λ (prios : List ℕ). Covers prios queued) (sym same) c.self.invariant.0 in
    let after = heard_covers (stype0 symbol.s0) told symbol.p0 queued covers in (
      subst (λ (o : Output). Covers (prios_of o) c.hear-self-inside.new.queued) (sym e.state)
          (subst (λ q. Covers (prios_of (hears (stype0 symbol.s0) told symbol.p0).state) q)
          (sym e.queued) after),
      c.self.invariant.1,
    )
