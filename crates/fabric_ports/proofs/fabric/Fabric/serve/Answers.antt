use Rattle.std.proofs.Common.{◌++◌, subst}
use Rattle.fabric_trace.specs.Fold.{seen}
use Rattle.fabric_trace.proofs.Parts.Keeping.{good_by_priority}
use Rattle.fabric_ports.specs.Events.{IsSwitchStep}
use Rattle.fabric_ports.proofs.AfterLaws.{names_after, still_switch}
use Rattle.fabric_ports.proofs.SettlingLaws.{good_behind}
use Rattle.fabric_ports.proofs.ServeLaws.{held_fewer, serves_begin, serves_more, serves_end}
use Rattle.fabric_ports.proofs.fabric.Fabric.serve.Goals as goal

pub loop-init : goal.loop-init
loop-init g c = λ from lines stands. serves_begin c.args.writer.now c.args.node stands

pub step-requires-clause-named : goal.step-requires-clause-named
step-requires-clause-named g c =
    rw (names_after c.loop.invariant c.requires.stands) c.requires.named

pub step-requires-clause-switch : goal.step-requires-clause-switch
step-requires-clause-switch g c = still_switch c.loop.invariant c.requires.stands c.requires.switch

pub loop-smaller : goal.loop-smaller
loop-smaller g c =
    let known = c.requires.stands in
    let ran = c.loop.invariant known.0 known.1 known.2 in
    let s = seen known.0 (known.1 ++ ran.block) in
    let good = good_behind ran.ends.1.ready ran.ends.1.made in
    let did = c.step.ensures s ran.ends.1.shows ran.ends.1.sent (good_by_priority good) in
    let own = subst (λ r. IsSwitchStep s.network c.args.node r did.block) c.loop-test.true did.is in
    held_fewer c.args.node did.block good ran.ends.1.shows did.shows own.0 own.1

pub loop-preserved : goal.loop-preserved
loop-preserved g c = λ from lines stands.
    let ran = c.loop.invariant from lines stands in
    let good = good_behind ran.ends.1.ready ran.ends.1.made in
    serves_more c.args.node c.step.result c.loop-test.true ran
    (c.step.ensures (seen from (lines ++ ran.block)) ran.ends.1.shows ran.ends.1.sent
    (good_by_priority good))

pub returns : goal.returns
returns g c = λ from lines stands.
    let ran = c.loop.invariant from lines stands in
    let good = good_behind ran.ends.1.ready ran.ends.1.made in
    serves_end c.args.node c.step.result c.loop-test.false ran
    (c.step.ensures (seen from (lines ++ ran.block)) ran.ends.1.shows ran.ends.1.sent
    (good_by_priority good))
