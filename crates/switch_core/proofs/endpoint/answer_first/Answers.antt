use Rattle.std.proofs.Common.{◌≡◌, ◌+◌, min, ap, ◌∙◌, ltb-true}
use Rattle.rio_packets.specs.Fields.{prio_of}
use Rattle.maint_packets.specs.Responses.{response_bytes}
use Rattle.switch_core.proofs.RequestLaws.{answer_prio}
use Rattle.switch_core.proofs.endpoint.answer_first.Goals as goal

pub out_put-requires : goal.out_put-requires
out_put-requires g c =
    let its : prio_of c.copy.result ≡ min (c.args.request.now.prio + 1) 3 =
    ap prio_of
    (c.copy.ensures.same ∙ c.write_response-response.ensures.value
    ∙ ap response_bytes c.answer.ensures.response)
    ∙ answer_prio c.args.registers.now c.args.request.now 0 in
    record { room = rw (c.in_pop.ensures.queued, its) (ltb-true _ 16 c.requires.room) }
