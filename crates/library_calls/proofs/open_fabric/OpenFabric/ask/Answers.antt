use Rattle.std.proofs.Common.{List, ℕ, sym, ◌∙◌, subst}
use Rattle.library_calls.specs.declared.status.CallStatus.{CallStatus}
use Rattle.library_calls.specs.declared.told.RegisterReply.{RegisterReply}
use Rattle.library_calls.specs.FabricAsks.{outcome_status, FabricAskTold, FabricAskDid}
use Rattle.library_calls.proofs.FabricAskLaws.{ask_did}
use Rattle.library_calls.proofs.open_fabric.OpenFabric.ask.Goals as goal

pub returns-in-Ok-ask_by-clause-did : goal.returns-in-Ok-ask_by-clause-did
returns-in-Ok-ask_by-clause-did c =
    let host = c.args.host.now in
    let ask = c.args.ask.now in
    let old = c.args.self.now in
    let new = c.ask_by.new.self in
    let outcome = c.in-Ok-ask_by.outcome in
    subst (λ (status : CallStatus). FabricAskDid host ask c.outcome_numbers.result old status new)
    (sym c.outcome_status.ensures)
    (subst (λ (reply : RegisterReply). FabricAskDid host ask reply old (outcome_status outcome) new)
    (sym c.outcome_numbers.ensures)
    (ask_did host ask old new outcome c.in-Ok.ensures.0
    (subst (λ (words : List ℕ). FabricAskTold old words outcome new)
    (c.as_slice.ensures.value ∙ c.in-Ok.ensures.1) c.in-Ok-ask_by.ensures.did)))
