use Rattle.std.proofs.Common.{ℕ, ◌+◌, List, Some, true, drop, refl, sym, subst}
use Rattle.library_calls.specs.FabricsSeen.{FabricSeen, FabricHolds}
use Rattle.library_calls.specs.FabricLines.{FabricLineCut, TellsFabricLine}
use Rattle.library_calls.proofs.FabricLaws.{fabric_seen, line_cut, told_stands, not_spent}
use Rattle.library_calls.proofs.open_fabric.OpenFabric.line.Goals as goal

pub returns-in-Err-clause-did : goal.returns-in-Err-clause-did
returns-in-Err-clause-did c =
    let inside = c.self.inside in
    let line = c.args.line.now in
    let tells = c.tell-told in
    let items = tells.new.sink.text.items in
    let old =
    fabric_seen inside.session inside.number inside.spent
    (drop inside.taken inside.sink.text.items) in
    let new = fabric_seen tells.new.session (inside.number + 1) true items in
    subst (λ (seen : FabricSeen). FabricLineCut seen line new) c.self.view_is
    (line_cut old new line tells.result c.in-Err.field-0
    (not_spent old c.if-self.false c.if-self-2.false) c.in-Err.is refl refl
    (λ held holds. subst (λ (written : List ℕ). TellsFabricLine held (inside.number + 1) line
    tells.result tells.new.session (Some written) (Some items)) c.clear.ensures
    (tells.ensures held holds)))

pub returns-in-Ok-On-clause-holds : goal.returns-in-Ok-On-clause-holds
returns-in-Ok-On-clause-holds c = λ _.
    let inside = c.self.inside in
    let tells = c.tell-told in
    let old =
    fabric_seen inside.session inside.number inside.spent
    (drop inside.taken inside.sink.text.items) in
    let holds : FabricHolds old = subst FabricHolds (sym c.self.view_is) c.requires in
    let held = holds c.if-self.false in
    told_stands held.0 (inside.number + 1) c.args.line.now tells.result c.in-Ok-On.field-0
    tells.new.session _ _ c.in-Ok-On.is (rw c.in-Ok-On.is at c.in-Ok-On.field-0-is)
    (tells.ensures held.0 held.1)
