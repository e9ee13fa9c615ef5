use Rattle.std.proofs.Common.{Some, sym, ◌∙◌}
use Rattle.trace_check.proofs.UnmetLaws.{first_with_peer, no_peer, none_with_peer}
use Rattle.trace_check.proofs.network.Network.first_at_peer.Goals as goal

pub returns-in-Some : goal.returns-in-Some
returns-in-Some c = λ nodes net is links is_in.
    let p = c.in-Some.peer in
    let q = c.args.port in
    let peer_is = links.peers.at q (Some p) is_in (c.peer.ensures.some p c.in-Some.is) in
    let in_peer = links.within p q (sym peer_is) in
    c.first_waiting.ensures nodes net is in_peer
    ∙ sym (first_with_peer net q p c.args.prio (sym peer_is))

pub returns-in-None : goal.returns-in-None
returns-in-None c = λ nodes net is links is_in.
    sym (none_with_peer net c.args.port c.args.prio
    (no_peer c.args.port links is_in (c.peer.ensures.none c.in-None.is)))
