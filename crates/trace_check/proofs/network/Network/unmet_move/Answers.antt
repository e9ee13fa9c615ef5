use Rattle.std.proofs.Common.{◌≡◌, Some, sym, ◌∙◌, rules, tests}
use Rattle.maint_packets.specs.declared.next_hop.Next.TheVariants.{Port}
use Rattle.trace_check.proofs.UnmetLaws.{behind_moved, full_moved, match_map}
use Rattle.trace_check.proofs.network.Network.unmet_move.Goals as goal

pub returns-then-from-to : goal.returns-then-from-to
returns-then-from-to c = λ nodes net is in_p in_q. (
  c.next_at-way.ensures.value nodes net is,
  λ both. let node = both.0 in search (rules, tests, node),
)

pub returns-then-ne : goal.returns-then-ne
returns-then-ne c = λ nodes net is in_p in_q. (
  c.next_at-way.ensures.value nodes net is,
  λ both. let way = both.1 in search (rules, tests, way),
)

pub returns-in-Some : goal.returns-in-Some
returns-in-Some c = λ nodes net is in_p in_q.
    behind_moved net c.args.from c.args.to c.args.packet.now c.in-Some.unmet
    (rw c.in-Some.is at (c.unmet_held.ensures nodes net is in_p))

pub returns : goal.returns
returns c = λ nodes net is in_p in_q.
    let p = c.args.from in
    let q = c.args.to in
    let packet = c.args.packet.now in
    let node : q.node ≡ p.node = search (rules, tests) in
    let there : c.next_at-way.result ≡ Some (Port q.port) = search (rules, tests) in
    let first = rw c.in_default.is at (c.unmet_held.ensures nodes net is in_p) in
    match_map c.unmet_place.result (c.unmet_place.ensures nodes net is in_q)
    (λ room. (node, first, sym (c.next_at-way.ensures.value nodes net is) ∙ there, room))
    (full_moved net p q packet)
