use Rattle.std.proofs.Common.{length, ap, ◌∙◌, arith}
use Rattle.link_buffers.specs.Queues.{list_at}
use Rattle.link_buffers.proofs.QueueLemmas.{packet_count_four}
use Rattle.link_buffers.proofs.PriorityLaws.{packet_count-lists_without}
use Rattle.link_port.specs.States.{prios_of}
use Rattle.link_port.specs.Ports.{PortState}
use Rattle.link_port.proofs.port.Port.waiting.Goals as goal

pub returns-clause-exact : goal.returns-clause-exact
returns-clause-exact c =
    let port = c.args.self.now in
    let all =
    packet_count-lists_without (prios_of port.output) port.queued c.bounds.ensures.covered in
    let four = packet_count_four port.queued c.bounds.ensures.sends.four in
    let outstanding =
    c.outstanding.ensures.value
    ∙ ap (λ (p : PortState). length (prios_of p.output)) c.self.view_is in
    let a =
    c.len.ensures.value ∙ ap (λ (p : PortState). length (list_at p.queued 0)) c.self.view_is in
    let b =
    c.len-2.ensures.value
    ∙ ap (λ (p : PortState). length (list_at p.queued 1)) c.self.view_is in
    let d =
    c.len-3.ensures.value
    ∙ ap (λ (p : PortState). length (list_at p.queued 2)) c.self.view_is in
    let e =
    c.len-4.ensures.value
    ∙ ap (λ (p : PortState). length (list_at p.queued 3)) c.self.view_is in
    (λ is. grind arith, λ some. grind arith)
