use Rattle.std.proofs.Common.{ℕ, ap, ◌∙◌}
use Rattle.maint_packets.specs.Requests.{request_body}
use Rattle.maint_packets.specs.declared.request.Op.TheVariants as Ops
use Rattle.fabric_script.specs.declared.given_packets.Contents.TheVariants as Of
use Rattle.fabric_model.specs.Network.{sender_id}
use Rattle.fabric_ports.specs.Events.{request_by}
use Rattle.fabric_ports.proofs.EventLaws.{given_form, read_body, write_body}
use Rattle.fabric_ports.proofs.events.packet_of.Goals as goal

pub returns-in-Read : goal.returns-in-Read
returns-in-Read c =
    let given = c.args.given.now in
    let head = c.in-Read.head in
    let device = c.args.device.now in
    given_form given (Of.Read head) device
    (request_body (request_by c.sender_id-source.result given.prio given.large given.dest head.hop
    head.tid head.offset Ops.Read)) c.asked.result c.in-Read.is
    (ap (λ (source : ℕ). request_body (request_by source given.prio given.large given.dest head.hop
    head.tid head.offset Ops.Read)) c.sender_id-source.ensures.value
    ∙ read_body given.node given.prio given.large given.dest head (sender_id device))
    c.asked.ensures

pub returns-in-Write : goal.returns-in-Write
returns-in-Write c =
    let given = c.args.given.now in
    let head = c.in-Write.head in
    let value = c.in-Write.value in
    let device = c.args.device.now in
    given_form given (Of.Write head value) device
    (request_body (request_by c.sender_id-source.result given.prio given.large given.dest head.hop
    head.tid head.offset (Ops.Write value))) c.asked-in-Write.result c.in-Write.is
    (ap (λ (source : ℕ). request_body (request_by source given.prio given.large given.dest head.hop
    head.tid head.offset (Ops.Write value))) c.sender_id-source.ensures.value
    ∙ write_body given.node given.prio given.large given.dest head value (sender_id device))
    c.asked-in-Write.ensures
