use Rattle.std.proofs.Common.{◌≡◌, Some, None, false, arith, sym, ◌∙◌, rules, tests}
use Rattle.maint_packets.specs.Requests.{request_of}
use Rattle.fabric_trace.proofs.Network.Faces.{not_asked}
use Rattle.trace_check.proofs.UnmetLaws.{asked_some, behind_left, match_map}
use Rattle.trace_check.proofs.network.Network.unmet_leave.Goals as goal

pub returns-then-ne : goal.returns-then-ne
returns-then-ne c = λ nodes net is less. λ end.
    let kind = c.is_switch.ensures nodes net is ∙ end in
    search (rules, tests, kind)

pub returns-then-is_some : goal.returns-then-is_some
returns-then-is_some c = λ nodes net is less.
    asked_some c.args.packet.now c.read_request.result c.read_request.ensures.value
    (sym c.is_some.ensures ∙ c.if-is_some.true)

pub returns : goal.returns
returns c = λ nodes net is less.
    let n = c.args.node in
    let packet = c.args.packet.now in
    let ended : c.is_switch.result ≡ Some false = search (rules, tests) in
    let end = sym (c.is_switch.ensures nodes net is) ∙ ended in
    let none : request_of packet ≡ None = search (rules, tests) in
    match_map c.unmet_held.result
    (c.unmet_held.ensures nodes net is (record { node = less; port = omega arith }))
    (λ first. (end, first, not_asked packet none)) (behind_left net n packet)
