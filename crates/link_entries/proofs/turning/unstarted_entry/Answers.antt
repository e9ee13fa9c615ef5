use Rattle.std.proofs.Common.{◌≡◌, length, ap, ◌∙◌, arith}
use Rattle.link_buffers.specs.Prelude.{highest}
use Rattle.link_buffers.proofs.PriorityLaws.{length-lists_without}
use Rattle.link_model.specs.Output as out
use Rattle.link_port.specs.Ports.{PortState}
use Rattle.link_port.specs.States.{prios_of}
use Rattle.link_port.specs.Turns.{waiting_in}
use Rattle.link_entries.proofs.TurningLaws.{highest-none, highest-some, waits-none, waits-credit, waits-window}
use Rattle.link_entries.proofs.turning.unstarted_entry.Goals as goal

four_wait : (port : PortState) → length port.queued ≡ 4 → length (waiting_in port) ≡ 4
four_wait port four = length-lists_without (prios_of port.output) port.queued ∙ four

pub returns-then-not-waiting : goal.returns-then-not-waiting
returns-then-not-waiting c = λ w is. (
    let port = c.args.port.now in
    waits-none w (highest (waiting_in port))
    (highest-none (waiting_in port) (four_wait port c.waiting.ensures.port.sends.four)
    (λ some. (let true_is = c.waiting.ensures.exact.1 some in cc))))

pub returns-then-outstanding-lt-WINDOW : goal.returns-then-outstanding-lt-WINDOW
returns-then-outstanding-lt-WINDOW c = λ w is. (
    let port = c.args.port.now in
    let some = highest-some (waiting_in port) (four_wait port c.waiting.ensures.port.sends.four)
    (c.waiting.ensures.exact.0 c.if-not-waiting.false) in
    let many = c.outstanding.ensures.value ∙ ap (λ (o : out.Output). length (prios_of o)) is in
    waits-credit w (highest (waiting_in port)) some.0 some.1 (omega arith))

pub returns-else-outstanding-lt-WINDOW : goal.returns-else-outstanding-lt-WINDOW
returns-else-outstanding-lt-WINDOW c = λ w is. (
    let port = c.args.port.now in
    let some = highest-some (waiting_in port) (four_wait port c.waiting.ensures.port.sends.four)
    (c.waiting.ensures.exact.0 c.if-not-waiting.false) in
    let many = c.outstanding.ensures.value ∙ ap (λ (o : out.Output). length (prios_of o)) is in
    waits-window w (highest (waiting_in port)) some.0 some.1 (omega arith))
