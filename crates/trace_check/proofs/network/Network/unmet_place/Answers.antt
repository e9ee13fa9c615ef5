use Rattle.std.proofs.Common.{sym, ap, ◌∙◌}
use Rattle.fabric_model.specs.Network.{room_out}
use Rattle.trace_check.proofs.network.Network.unmet_place.Goals as goal

pub returns-then-has_room_out : goal.returns-then-has_room_out
returns-then-has_room_out c = λ nodes net is is_in.
    ap (room_out net c.args.port) (sym c.prio-prio.ensures.value)
    ∙ sym (c.has_room_out.ensures nodes net is is_in) ∙ c.if-has_room_out.true

pub returns-else-has_room_out : goal.returns-else-has_room_out
returns-else-has_room_out c = λ nodes net is is_in. (
  c.prio-prio.ensures.value,
  ap (room_out net c.args.port) (sym c.prio-prio.ensures.value)
      ∙ sym (c.has_room_out.ensures nodes net is is_in) ∙ c.if-has_room_out.false,
)
