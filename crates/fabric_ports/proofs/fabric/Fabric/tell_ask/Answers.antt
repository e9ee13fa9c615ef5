use Rattle.std.proofs.Common.{◌++◌, length, arith}
use Rattle.fabric_trace.specs.Fold.{seen}
use Rattle.fabric_ports.proofs.AskLaws.{host_at, asked, asked_whole}
use Rattle.fabric_ports.proofs.GatherLaws.{endpoint_on}
use Rattle.fabric_ports.proofs.LeaveLaws.{end_named}
use Rattle.fabric_ports.proofs.SettlingLaws.{devices_stay}
use Rattle.fabric_ports.proofs.fabric.Fabric.tell_ask.Goals as goal

pub send-requires-clause-named : goal.send-requires-clause-named
send-requires-clause-named g c =
    end_named c.args.self.now (length c.args.writer.now.names.now) c.requires.named
    (host_at c.requires.can.2)

pub send-requires-clause-shown : goal.send-requires-clause-shown
send-requires-clause-shown g c =
    let can = c.requires.can in (seen can.0 can.1, can.2.stands.shows)

pub send-requires-clause-endpoint : goal.send-requires-clause-endpoint
send-requires-clause-endpoint g c = host_at c.requires.can.2

pub fetch-requires-clause-stands : goal.fetch-requires-clause-stands
fetch-requires-clause-stands g c =
    let can = c.requires.can in
    let first = asked c.args.host c.args.request.now
    c.write_request.result c.send.result can.2 c.write_request.ensures.form
    (c.send.ensures (seen can.0 can.1) can.2.stands.shows can.2.stands.sent) in
    (can.0, can.1 ++ first.block, first.ends.1)

pub fetch-requires-clause-named : goal.fetch-requires-clause-named
unfolding fetch-requires-clause-stands
fetch-requires-clause-named g c =
    let can = c.requires.can in
    let same = devices_stay can.2.stands (fetch-requires-clause-stands g c).2 in
    let did = c.send.ensures (seen can.0 can.1) can.2.stands.shows can.2.stands.sent in
    let named = c.requires.named in
    rw did.adds.names (omega (arith, same, named))

pub fetch-requires-clause-few : goal.fetch-requires-clause-few
fetch-requires-clause-few g c =
    let can = c.requires.can in
    let did = c.send.ensures (seen can.0 can.1) can.2.stands.shows can.2.stands.sent in
    rw did.adds.names c.requires.few

pub fetch-requires-clause-endpoint : goal.fetch-requires-clause-endpoint
unfolding fetch-requires-clause-stands
fetch-requires-clause-endpoint g c =
    let can = c.requires.can in
    endpoint_on can.2.stands (fetch-requires-clause-stands g c).2 (host_at can.2)

pub returns : goal.returns
returns g c = λ from lines can.
    let first = asked c.args.host c.args.request.now
    c.write_request.result c.send.result can c.write_request.ensures.form
    (c.send.ensures (seen from lines) can.stands.shows can.stands.sent) in
    asked_whole c.args.host c.args.request.now _ _ _ c.fetch.result first
    (c.fetch.ensures from (lines ++ first.block) first.ends.1)
