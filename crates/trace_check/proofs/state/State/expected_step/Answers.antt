use Rattle.fabric_model.specs.Steps.{Free, Hold, Linked}
use Rattle.trace_lines.specs.Lines.{Stepped}
use Rattle.trace_check.specs.Expecting.{IsSo}
use Rattle.trace_check.proofs.ExpectLaws.{told_of}
use Rattle.trace_check.proofs.state.State.expected_step.Goals as goal

pub returns-in-Hold-clause-told : goal.returns-in-Hold-clause-told
returns-in-Hold-clause-told c =
    let port = c.in-Hold.port in
    let packet = c.in-Hold.field-1 in
    rw c.in-Hold.is
    (told_of (λ r. IsSo r (Stepped (Linked (Hold port packet)))) c.next_to_hold.result
    (λ r is within. c.next_to_hold.ensures r packet is within))

pub returns-in-Free-clause-told : goal.returns-in-Free-clause-told
returns-in-Free-clause-told c =
    let port = c.in-Free.port in
    let packet = c.in-Free.field-1 in
    rw c.in-Free.is
    (told_of (λ r. IsSo r (Stepped (Linked (Free port packet)))) c.freed.result
    (λ r is within. c.freed.ensures r packet is within))
