use Rattle.std.proofs.Common.{sym, ap, ◌∙◌, subst}
use Rattle.fabric_model.specs.Network.{room_in}
use Rattle.trace_check.specs.Unmet.{first_at_peer, IsFew}
use Rattle.trace_check.proofs.UnmetLaws.{few_held, first_by_peer}
use Rattle.trace_check.proofs.network.Network.unmet_hold.Goals as goal

pub returns-in-Some : goal.returns-in-Some
returns-in-Some c = λ nodes net is links is_in.
    let few = rw c.in-Some.is at (c.unmet_buffers.ensures nodes net is is_in) in
    few_held net c.args.port c.args.packet.now c.in-Some.few
    (subst (λ prio. IsFew net c.args.port prio c.in-Some.few) c.prio-prio.ensures.value few)

pub returns-then-is_first : goal.returns-then-is_first
returns-then-is_first c = λ nodes net is links is_in.
    let q = c.args.port in
    let packet = c.args.packet.now in
    let room = rw c.in_default.is at (c.unmet_buffers.ensures nodes net is is_in) in
    let first = sym (c.first_at_peer-first.ensures nodes net is links is_in)
    ∙ c.is_first.ensures.0 c.if-is_first.true in
    let waits = first_by_peer net q packet
    (ap (first_at_peer net q) (sym c.prio-prio.ensures.value) ∙ first) in (
      waits.0,
      waits.1,
      waits.2,
      ap (room_in net q) (sym c.prio-prio.ensures.value) ∙ room,
    )

pub returns-else-is_first : goal.returns-else-is_first
returns-else-is_first c = λ nodes net is links is_in.
    let q = c.args.port in
    let packet = c.args.packet.now in
    let told = c.first_at_peer-first.ensures nodes net is links is_in
    ∙ ap (first_at_peer net q) c.prio-prio.ensures.value in (
      c.prio-prio.ensures.value,
      (
        told,
        λ same. let yes = c.is_first.ensures.1 (told ∙ same) in cc (yes, c.if-is_first.false),
      ),
    )
