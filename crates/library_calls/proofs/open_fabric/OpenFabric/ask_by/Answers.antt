use Rattle.std.proofs.Common.{◌≡◌, ℕ, ◌+◌, List, Some, true, false, drop, refl, subst}
use Rattle.live_fabric.specs.Sessions.{ask_text}
use Rattle.library_calls.specs.FabricsSeen.{FabricSeen}
use Rattle.library_calls.specs.FabricLines.{FabricLineCut}
use Rattle.library_calls.specs.FabricAsks.{FabricAskTold, TellsFabricAsk}
use Rattle.library_calls.proofs.FabricLaws.{fabric_seen, not_spent}
use Rattle.library_calls.proofs.FabricAskLaws.{ask_told, ask_cut, ask_holds}
use Rattle.library_calls.proofs.open_fabric.OpenFabric.ask_by.Goals as goal

pub returns-in-Err-clause-did : goal.returns-in-Err-clause-did
returns-in-Err-clause-did c =
    let inside = c.self.inside in
    let words = c.args.words.now in
    let tells = c.tell_ask-asked in
    let items = tells.new.sink.text.items in
    let old =
    fabric_seen inside.session inside.number inside.spent
    (drop inside.taken inside.sink.text.items) in
    let new = fabric_seen tells.new.session (inside.number + 1) true items in
    subst (λ (seen : FabricSeen). FabricLineCut seen (ask_text words) new) c.self.view_is
    (ask_cut old new words tells.result (not_spent old c.if-self.false c.if-self-2.false) refl
    (λ held holds. subst (λ (written : List ℕ). TellsFabricAsk held (inside.number + 1) words
    tells.result tells.new.session (Some written) (Some items)) c.clear.ensures
    (tells.ensures held holds)) c.in-Err.field-0 c.in-Err.is refl)

pub returns-in-Ok-clause-did : goal.returns-in-Ok-clause-did
returns-in-Ok-clause-did c =
    let inside = c.self.inside in
    let words = c.args.words.now in
    let tells = c.tell_ask-asked in
    let items = tells.new.sink.text.items in
    let old =
    fabric_seen inside.session inside.number inside.spent
    (drop inside.taken inside.sink.text.items) in
    let new =
    fabric_seen tells.new.session (inside.number + 1) c.spends_fabric-self-inside.result items in
    subst (λ (seen : FabricSeen). FabricAskTold seen words c.in-Ok.outcome new) c.self.view_is
    (ask_told old new words tells.result (not_spent old c.if-self.false c.if-self-2.false) refl
    (λ held holds. subst (λ (written : List ℕ). TellsFabricAsk held (inside.number + 1) words
    tells.result tells.new.session (Some written) (Some items)) c.clear.ensures
    (tells.ensures held holds)) c.in-Ok.outcome c.in-Ok.is c.spends_fabric-self-inside.ensures)

pub returns-in-Ok-clause-holds : goal.returns-in-Ok-clause-holds
returns-in-Ok-clause-holds c =
    ask_holds _ _ c.args.words.now c.in-Ok.outcome c.requires
    (subst (λ (seen : FabricSeen). seen.spent ≡ false) c.self.view_is c.if-self.false)
    (returns-in-Ok-clause-did c)
