use Rattle.std.proofs.Common.{◌++◌, sym, ◌∙◌}
use Rattle.fabric_trace.specs.Fold.{seen}
use Rattle.fabric_trace.proofs.Parts.Keeping.{good_by_priority}
use Rattle.fabric_ports.proofs.AfterLaws.{endpoint_after, names_after, shown_by, stands_after}
use Rattle.fabric_ports.proofs.GatherLaws.{endpoint_on, gathered_fewer, gather_begins, gather_more, gather_stops, gather_rests}
use Rattle.fabric_ports.proofs.SettlingLaws.{good_behind}
use Rattle.fabric_ports.proofs.fabric.Fabric.collect_all.Goals as goal

pub loop-self-init : goal.loop-self-init
loop-self-init g c = λ from lines stands. gather_begins _ c.args.node stands

pub holds-requires-clause-shown : goal.holds-requires-clause-shown
holds-requires-clause-shown g c = shown_by (stands_after c.loop-self.invariant c.requires.stands)

pub holds-requires-clause-endpoint : goal.holds-requires-clause-endpoint
holds-requires-clause-endpoint g c =
    endpoint_after c.loop-self.invariant c.requires.stands c.requires.endpoint

pub collect-requires-clause-named : goal.collect-requires-clause-named
collect-requires-clause-named g c =
    rw (names_after c.loop-self.invariant c.requires.stands) c.requires.named

pub collect-requires-clause-shown : goal.collect-requires-clause-shown
collect-requires-clause-shown g c = shown_by (stands_after c.loop-self.invariant c.requires.stands)

pub collect-requires-clause-endpoint : goal.collect-requires-clause-endpoint
collect-requires-clause-endpoint g c =
    endpoint_after c.loop-self.invariant c.requires.stands c.requires.endpoint

pub returns : goal.returns
returns g c = λ from lines stands.
    let ran = c.loop-self.invariant from lines stands in
    gather_rests ran (endpoint_on stands ran.ends.1 c.requires.endpoint)
    (sym (c.holds.ensures (seen from (lines ++ ran.block)) ran.ends.1.shows)
    ∙ c.loop-self-test.false)

pub returns-in-Full : goal.returns-in-Full
returns-in-Full g c = λ from lines stands.
    let ran = c.loop-self.invariant from lines stands in
    let good = good_behind ran.ends.1.ready ran.ends.1.made in
    gather_stops c.args.node c.collect.result ran c.in-Full.is
    (c.collect.ensures (seen from (lines ++ ran.block)) ran.ends.1.shows ran.ends.1.sent
    (good_by_priority good))

pub loop-self-smaller : goal.loop-self-smaller
loop-self-smaller g c =
    let known = c.requires.stands in
    let ran = c.loop-self.invariant known.0 known.1 known.2 in
    let s = seen known.0 (known.1 ++ ran.block) in
    let good = good_behind ran.ends.1.ready ran.ends.1.made in
    let did = c.collect.ensures s ran.ends.1.shows ran.ends.1.sent (good_by_priority good) in
    gathered_fewer did.block c.collect.result good ran.ends.1.shows did.shows
    (endpoint_on known.2 ran.ends.1 c.requires.endpoint)
    (sym (c.holds.ensures s ran.ends.1.shows) ∙ c.loop-self-test.true) did.is.0 did.is.1
    c.in_default.not-Full

pub loop-self-preserved : goal.loop-self-preserved
loop-self-preserved g c = λ from lines stands.
    let ran = c.loop-self.invariant from lines stands in
    let s = seen from (lines ++ ran.block) in
    let good = good_behind ran.ends.1.ready ran.ends.1.made in
    gather_more c.args.node c.collect.result ran
    (sym (c.holds.ensures s ran.ends.1.shows) ∙ c.loop-self-test.true) c.in_default.not-Full
    (c.collect.ensures s ran.ends.1.shows ran.ends.1.sent (good_by_priority good))
