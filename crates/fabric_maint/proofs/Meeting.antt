-- Without edits no event is acted on that was not sent.
use Rattle.std.proofs.Common.{◌≡◌, ℕ, List, [], Option, Some, None, sym, ◌∙◌, subst}
use Rattle.link_model.specs.declared.event.Event.{Event}
use Rattle.rio_chars.specs.declared.edit.Edit.{Edit}
use Rattle.fabric_script.specs.declared.ports.PortRef.{PortRef}
use Rattle.fabric_trace.proofs.Traces.Existing.{good_of}
use Rattle.fabric_ask.specs.Asks.{IsAsk}
use Rattle.fabric_ask.proofs.Stilling.{ask_still}
use Rattle.fabric_maint.specs.Going.{HasMet}
use Rattle.fabric_maint.specs.declared.maint.FabricMaint.{FabricMaint}

pub never_met : {N K : Type 0} (edits : N → List Edit) (written : K → Option (List ℕ))
    → ((noise : N) → edits noise ≡ []) → (maint : FabricMaint N K) (port : PortRef) (event : Event)
    → HasMet edits written maint port event → ⊥
never_met edits written none maint port event met =
    let still = ask_still maint.host met.request met.s met.block (good_of met.ready) met.sent
    met.quiet (subst (λ (given : List Edit). IsAsk maint.host met.request given met.s met.block)
    (none met.noise) met.is.is) in
    let bad : None ≡ Some _ = sym still ∙ met.found in
    absurd cc
