use Rattle.std.proofs.Common.{◌≡◌, ◌∷◌, [], List, ℕ, Some, ap, map, sym, ◌∙◌, subst, true, rules, tests}
use Rattle.std.specs.Prelude.{IsTrue}
use Rattle.rio_packets.specs.Fields.{prio_of}
use Rattle.maint_packets.specs.declared.next_hop.Next.TheVariants.{Port}
use Rattle.maint_packets.specs.NextHops.{moved}
use Rattle.fabric_model.specs.Network.{room_out}
use Rattle.fabric_model.specs.Serving.{next_at}
use Rattle.fabric_model.specs.Steps.{moved_item, only_first, with_waiting, without_first}
use Rattle.trace_check.specs.Networks.{IsNetwork}
use Rattle.trace_check.proofs.NetworkLaws.{if_ok_map, moved_is}
use Rattle.trace_check.proofs.network.Network.move_to.Goals as goal

pub returns : goal.returns
returns c = if_ok_map c.put_out.result c.put_out.ensures (λ made put nodes net is in_p in_q.
    let p = c.args.from in
    let q = c.args.to in
    let packet = c.args.packet.now in
    let r = prio_of packet in
    let node : q.node ≡ p.node = search (rules, tests) in
    let there : next_at net p.node packet ≡ Some (Port q.port)
    = sym (c.next_at.ensures.value nodes net is) ∙ search (rules, tests) in
    let taken = c.take_first.ensures nodes net is in_p in
    let yes : c.take_first.result ≡ true = search (rules, tests) in
    let first = taken.0.0 yes in
    let items = only_first (map moved_item (net.received p r)) in
    let one = moved_is (net.received p r) packet first in
    let same : c.move_on.new.packet ≡ moved packet
    = c.move_on.ensures.moved ∙ ap moved c.copy-moved.ensures.same in
    let prio : prio_of c.move_on.new.packet ≡ r
    = c.move_on.ensures.prio ∙ ap prio_of c.copy-moved.ensures.same in
    let done = put nodes (without_first net p r) items (taken.1 yes) in_q
    (one ∙ ap (λ (k : List ℕ). k ∷ []) (sym same)) in
    let Puts : ℕ → Type 0 = λ s. (made ≡ room_out net q s)
    × (IsTrue made → IsNetwork nodes (with_waiting (without_first net p r) q s items)
    c.put_out.new.self) in
    let all : Puts r = subst Puts prio done in (
      (λ ok. (node, first, there, sym all.0 ∙ ok), λ needs. all.0 ∙ needs.3),
      all.1,
    ))
