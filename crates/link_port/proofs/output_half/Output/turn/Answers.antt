use Rattle.std.proofs.Common.{◌≡◌, ℕ, ◌<◌, Bool, true, false, List, length, Option, Some, None, IfSome, sym, ap, ◌∙◌, subst, arith}
use Rattle.link_sender.specs.declared.answers.Started.{Started}
use Rattle.link_buffers.specs.Queues.{list_at}
use Rattle.link_buffers.specs.Priorities.{count_of, Covers}
use Rattle.link_model.specs.Output.{Turned}
use Rattle.link_port.specs.States.{prios_of}
use Rattle.link_port.specs.Sends.{starting, AreWaiting}
use Rattle.link_port.proofs.output_half.Output.turn.Goals as goal

unstarted_waits : (tells : Bool) (prios : List ℕ) (queued : List (List (List ℕ)))
    → AreWaiting (starting tells None) prios queued
unstarted_waits true prios queued = tt
unstarted_waits false prios queued = tt

waits :
    (tells : Bool) (packet : Option Started) (prios : List ℕ) (queued : List (List (List ℕ)))
    → IfSome packet (λ p. (p.ack < 32) × (p.prio < 4))
    → IfSome packet (λ p. p.place ≡ count_of prios p.prio)
    → IfSome packet (λ p. p.place < length (list_at queued p.prio))
    → AreWaiting (starting tells packet) prios queued
waits tells None prios queued range next some = unstarted_waits tells prios queued
waits tells (Some p) prios queued range next some = record {
  ack = range.0;
  few = range.1;
  next = next;
  waits = some;
}

pub returns-in-Ok-clause-waiting : goal.returns-in-Ok-clause-waiting
returns-in-Ok-clause-waiting c =
    let e = c.turn-next.ensures in
    rw (c.starting.ensures, c.in-Ok.is)
    (waits c.args.tells c.turn-next.result.1 c.in-Ok.state.prios c.args.queued.now e.range e.place
    e.waits)

pub returns-in-RetryStopped-clause-entry : goal.returns-in-RetryStopped-clause-entry
returns-in-RetryStopped-clause-entry c = rw (c.in-RetryStopped.is) (c.restart.ensures None)

-- nothing is outstanding
pub returns-in-RetryStopped-clause-covered : goal.returns-in-RetryStopped-clause-covered
returns-in-RetryStopped-clause-covered c =
    subst (λ (prios : List ℕ). Covers prios c.args.queued.now)
    (sym (ap (λ (t : Turned). prios_of t.state) (c.restart.ensures None))) (λ prio. omega arith)

pub returns-else-asked-clause-entry : goal.returns-else-asked-clause-entry
returns-else-asked-clause-entry c =
    let unasked = sym c.asked.ensures.value ∙ c.if-asked.false in
    rw (c.in-ErrorStopped.is, unasked) (c.request.ensures None)

pub returns-else-asked-clause-covered : goal.returns-else-asked-clause-covered
returns-else-asked-clause-covered c =
    let covers = rw (c.in-ErrorStopped.is) at c.requires.covered in
    subst (λ (prios : List ℕ). Covers prios c.args.queued.now)
    (sym (ap (λ (t : Turned). prios_of t.state) (c.request.ensures None))) covers
