use Rattle.std.proofs.Common.{◌≡◌, Some, ap, refl, sym, ◌∙◌, subst, true, rules, tests}
use Rattle.rio_packets.specs.Fields.{prio_of}
use Rattle.fabric_model.specs.Network.{room_in}
use Rattle.fabric_model.specs.Steps.{after_hold, only_first}
use Rattle.fabric_trace.proofs.Network.Lanes.{only_is}
use Rattle.trace_check.specs.Networks.{IsNetwork, with_lending, without_waiting}
use Rattle.trace_check.proofs.network.Network.hold.Goals as goal

pub returns : goal.returns
returns c = λ nodes net is links is_in.
    let p = c.in-Some.peer in
    let q = c.args.port in
    let packet = c.args.packet.now in
    let r = prio_of packet in
    let peer_is = links.peers.at q (Some p) is_in (c.peer.ensures.some p c.in-Some.is) in
    let in_peer = links.within p q (sym peer_is) in
    let room : c.has_room_in.result ≡ true = search (rules, tests) in
    let room_is = sym room ∙ c.has_room_in.ensures nodes net is is_in
    ∙ ap (room_in net q) c.prio.ensures.value in
    let waits = c.take_waiting.ensures nodes net is in_peer in
    let yes : c.take_waiting.result ≡ true = search (rules, tests) in
    let first = waits.0.0 yes in
    let items = only_first (net.waiting p r) in
    let one = only_is (net.waiting p r) packet first in
    let lent = c.in_ok-lend.ensures nodes (without_waiting net p r) items (waits.1 yes) in_peer one
    in
    let received = c.in_ok-receive.ensures nodes (with_lending (without_waiting net p r) p items)
    items lent is_in one in (
      (λ made. (p, sym peer_is, first, sym room_is), λ needs. refl),
      λ made. subst (λ o. IsNetwork nodes (after_hold net q o r) c.receive.new.self) peer_is
          received,
    )
