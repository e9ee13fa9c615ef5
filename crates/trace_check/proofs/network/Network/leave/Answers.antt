use Rattle.std.proofs.Common.{◌≡◌, None, Some, arith, false, sym, ◌∙◌, rules, tests}
use Rattle.maint_packets.specs.Requests.{request_of}
use Rattle.fabric_trace.proofs.Network.Faces.{not_asked}
use Rattle.trace_check.proofs.network.Network.leave.Goals as goal

pub returns : goal.returns
returns c = λ nodes net is less.
    let ended : c.is_switch.result ≡ Some false = search (rules, tests) in
    let end = sym (c.is_switch.ensures nodes net is) ∙ ended in
    let none : request_of c.args.packet.now ≡ None = search (rules, tests) in
    let first = c.take_first.ensures nodes net is (record { node = less; port = omega arith }) in (
      (λ yes. (end, first.0.0 yes, not_asked c.args.packet.now none), λ needs. first.0.1 needs.1),
      first.1,
    )
