use Rattle.std.proofs.Common.{◌≡◌, Some, false, arith, sym, ap, ◌∙◌, rules, tests}
use Rattle.fabric_model.specs.Network.{port_of, room_out}
use Rattle.trace_check.proofs.network.Network.unmet_take.Goals as goal

pub returns-then-ne : goal.returns-then-ne
returns-then-ne c = λ nodes net is less passes. λ end.
    let kind = c.is_switch.ensures nodes net is ∙ end in
    search (rules, tests, kind)

pub returns-then-has_room_out : goal.returns-then-has_room_out
returns-then-has_room_out c = λ nodes net is less passes.
    let ended : c.is_switch.result ≡ Some false = search (rules, tests) in
    let room = c.has_room_out.ensures nodes net is (record { node = less; port = omega arith }) in (
      sym (c.is_switch.ensures nodes net is) ∙ ended,
      passes,
      ap (room_out net (port_of c.args.node)) (sym c.prio-prio.ensures.value) ∙ sym room
          ∙ c.if-has_room_out.true,
    )

pub returns-else-has_room_out : goal.returns-else-has_room_out
returns-else-has_room_out c = λ nodes net is less passes.
    let room = c.has_room_out.ensures nodes net is (record { node = less; port = omega arith }) in (
      c.prio-prio.ensures.value,
      ap (room_out net (port_of c.args.node)) (sym c.prio-prio.ensures.value) ∙ sym room
          ∙ c.if-has_room_out.false,
    )
