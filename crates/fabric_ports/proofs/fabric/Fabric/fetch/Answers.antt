use Rattle.std.proofs.Common.{◌++◌, length, sym, arith, ◌∙◌}
use Rattle.fabric_trace.specs.Fold.{seen}
use Rattle.fabric_trace.proofs.Traces.Existing.{ready_on}
use Rattle.fabric_ports.proofs.AfterLaws.{endpoint_after, named_after, names_after, shown_by, stands_after}
use Rattle.fabric_ports.proofs.LeaveLaws.{end_known, end_named}
use Rattle.fabric_ports.proofs.FetchLaws.{unheld_none, unheld_more, fetched_none, fetched, fetch_ends}
use Rattle.fabric_ports.proofs.RanLaws.{err_is}
use Rattle.fabric_ports.proofs.fabric.Fabric.fetch.Goals as goal

pub loop-init : goal.loop-init
loop-init g c = λ from lines stands. unheld_none c.args.host _ _ stands

pub ask_round-requires-clause-stands : goal.ask_round-requires-clause-stands
ask_round-requires-clause-stands g c = stands_after c.loop.invariant c.requires.stands

pub ask_round-requires-clause-named : goal.ask_round-requires-clause-named
ask_round-requires-clause-named g c =
    named_after c.loop.invariant c.requires.stands c.requires.named

pub ask_round-requires-clause-few : goal.ask_round-requires-clause-few
ask_round-requires-clause-few g c =
    rw (names_after c.loop.invariant c.requires.stands) c.requires.few

pub returns-in_err-ask_round : goal.returns-in_err-ask_round
returns-in_err-ask_round g c =
    rw (err_is c.from_residual.result c.in_err-ask_round.field-0.0 c.from_residual.ensures.1)
    (λ from lines stands.
    (let ran = c.loop.invariant from lines stands in
    fetch_ends c.args.host c.loop.counter c.args.rounds _ _ c.loop-test.true stands
    (end_known stands c.requires.endpoint) ran
    (c.in_err-ask_round.ensures from (lines ++ ran.block) ran.ends.1)))

pub holds-requires-clause-shown : goal.holds-requires-clause-shown
holds-requires-clause-shown g c =
    shown_by (stands_after c.in_ok-ask_round.ensures
    (stands_after c.loop.invariant c.requires.stands))

pub holds-requires-clause-endpoint : goal.holds-requires-clause-endpoint
holds-requires-clause-endpoint g c =
    endpoint_after c.in_ok-ask_round.ensures (stands_after c.loop.invariant c.requires.stands)
    (endpoint_after c.loop.invariant c.requires.stands c.requires.endpoint)

pub collect-requires-clause-named : goal.collect-requires-clause-named
collect-requires-clause-named g c =
    let known = stands_after c.loop.invariant c.requires.stands in
    end_named c.ask_round.new.self (length c.ask_round.new.writer.names.now)
    (named_after c.in_ok-ask_round.ensures known
    (named_after c.loop.invariant c.requires.stands c.requires.named))
    (endpoint_after c.in_ok-ask_round.ensures known
    (endpoint_after c.loop.invariant c.requires.stands c.requires.endpoint))

pub collect-requires-clause-shown : goal.collect-requires-clause-shown
collect-requires-clause-shown g c =
    shown_by (stands_after c.in_ok-ask_round.ensures
    (stands_after c.loop.invariant c.requires.stands))

pub collect-requires-clause-endpoint : goal.collect-requires-clause-endpoint
collect-requires-clause-endpoint g c =
    endpoint_after c.in_ok-ask_round.ensures (stands_after c.loop.invariant c.requires.stands)
    (endpoint_after c.loop.invariant c.requires.stands c.requires.endpoint)

pub returns-then-holds : goal.returns-then-holds
returns-then-holds g c = λ from lines stands.
    let ran = c.loop.invariant from lines stands in
    let round = c.in_ok-ask_round.ensures from (lines ++ ran.block) ran.ends.1 in
    let t = seen from ((lines ++ ran.block) ++ round.block) in
    let ready = ready_on round.ends.1.ready round.ends.1.made in
    rw c.left_of.ensures (fetched c.args.host
    c.loop.counter c.args.rounds _ _ _ c.collect.result c.loop-test.true stands
    (end_known stands c.requires.endpoint) ran round
    (sym (c.holds.ensures t round.ends.1.shows) ∙ c.if-holds.true)
    (c.collect.ensures t round.ends.1.shows round.ends.1.sent ready.by_priority))

pub loop-preserved : goal.loop-preserved
loop-preserved g c = λ from lines stands.
    let ran = c.loop.invariant from lines stands in
    let round = c.in_ok-ask_round.ensures from (lines ++ ran.block) ran.ends.1 in
    let t = seen from ((lines ++ ran.block) ++ round.block) in
    unheld_more c.args.host c.loop.counter _ _ _ stands ran round
    (sym (c.holds.ensures t round.ends.1.shows) ∙ c.if-holds.false)

pub returns : goal.returns
returns g c = λ from lines stands. fetched_none c.args.host c.loop.counter c.args.rounds
    _ _ (omega arith) stands (end_known stands c.requires.endpoint)
    (c.loop.invariant from lines stands)
