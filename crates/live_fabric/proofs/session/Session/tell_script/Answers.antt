use Rattle.std.proofs.Common.{refl, sym, subst}
use Rattle.live_fabric.specs.declared.session.Session.{Session}
use Rattle.live_fabric.specs.Course.{EventsDone, EventsBreak}
use Rattle.live_fabric.specs.Holding.{LiveHolds, MayBeCarried, MayCollect}
use Rattle.live_fabric.specs.Lines.{Taken}
use Rattle.live_fabric.specs.Served.{events_carried}
use Rattle.live_fabric.specs.Sessions.{SessionHeld, SessionHolds, SessionBreaks, SessionTold, AreServed}
use Rattle.live_fabric.proofs.AnsweringLaws.{on_err, on_each, on_each_err}
use Rattle.live_fabric.proofs.KeptLaws.{kept_as}
use Rattle.live_fabric.proofs.SessionLaws.{told_plain, told_events, breaks_events, may_carry, session_breaks_at_once}
use Rattle.live_fabric.proofs.session.Session.tell_script.Goals as goal

pub returns-in_default-clause-told : goal.returns-in_default-clause-told
returns-in_default-clause-told g c = λ held holds.
    told_plain held c.args.number c.args.line.now c.args.outbox.now c.read_line.new.outbox
    c.args.self.now (record c.args.self.now { live = c.read_line.new.live }) holds
    (c.requires.other held holds)
    refl refl (rw c.in_default.is at (c.in_ok-event.ensures.read held.taken holds.live))

pub returns-in_err-event-clause-breaks : goal.returns-in_err-event-clause-breaks
returns-in_err-event-clause-breaks g c =
    on_err c.from_residual.result
    (λ held holds. session_breaks_at_once held c.args.number c.args.line.now c.args.outbox.now
    c.read_line.new.outbox c.in_err-event.ensures.same)

pub returns-in_err-nodes-clause-breaks : goal.returns-in_err-nodes-clause-breaks
returns-in_err-nodes-clause-breaks g c =
    on_err c.from_residual-in_err-nodes.result
    (λ held holds.
    let read = rw c.in-Some.is at (c.in_ok-event.ensures.read held.taken holds.live) in
    session_breaks_at_once held c.args.number c.args.line.now c.args.outbox.now
    c.read_line.new.outbox read.2)

pub carry_line-requires : goal.carry_line-requires
carry_line-requires g c =
    let held = c.requires.holds.0 in
    let holds = c.requires.holds.1 in
    let session = c.args.self.now in
    let live = c.read_line.new.live in
    let read = rw c.in-Some.is at (c.in_ok-event.ensures.read held.taken holds.live) in
    let kept = kept_as held session (record session { live = live }) holds refl refl read.0 in
    let served = subst (AreServed held) (sym c.as_slice.ensures.value)
    (c.in_ok-nodes.ensures held kept) in (
      held.taken,
      read.0,
      may_carry held c.args.number c.args.line.now session live c.as_slice.result.now
          c.in-Some.event c.args.outbox.now c.read_line.new.outbox holds read served,
      served.1,
    )

pub returns-clause-told : goal.returns-clause-told
returns-clause-told g c =
    let session = c.args.self.now in
    let number = c.args.number in
    let line = c.args.line.now in
    let out = c.args.outbox.now in
    let mid = c.read_line.new.outbox in
    let next = c.carry_line.new.outbox in
    let live = c.read_line.new.live in
    let now : Session = record session { live = c.carry_line.new.live } in
    let event = c.in-Some.event in
    let nodes = c.as_slice.result.now in
    on_each
    (λ going. (taken : Taken) → LiveHolds live taken → MayBeCarried taken event
    → MayCollect taken nodes
    → EventsDone session.quiet taken number (events_carried nodes event) mid next now.live going)
    (λ going. (held : SessionHeld) → SessionHolds session held
    → SessionTold held number line out next now going)
    c.carry_line.result
    (λ going done held holds.
    let read = rw c.in-Some.is at (c.in_ok-event.ensures.read held.taken holds.live) in
    let kept = kept_as held session (record session { live = live }) holds refl refl read.0 in
    told_events held number line session live nodes event out mid holds read
    (subst (AreServed held) (sym c.as_slice.ensures.value) (c.in_ok-nodes.ensures held kept)) next
    now going (c.requires.other held holds) refl refl done)
    c.carry_line.ensures.done

pub returns-clause-breaks : goal.returns-clause-breaks
returns-clause-breaks g c =
    let session = c.args.self.now in
    let number = c.args.number in
    let line = c.args.line.now in
    let out = c.args.outbox.now in
    let mid = c.read_line.new.outbox in
    let next = c.carry_line.new.outbox in
    let live = c.read_line.new.live in
    let event = c.in-Some.event in
    let nodes = c.as_slice.result.now in
    on_each_err
    ((taken : Taken) → LiveHolds live taken → MayBeCarried taken event
    → MayCollect taken nodes
    → EventsBreak session.quiet taken number (events_carried nodes event) mid next)
    ((held : SessionHeld) → SessionHolds session held
    → SessionBreaks held number line out next)
    c.carry_line.result
    (λ breaks held holds.
    let read = rw c.in-Some.is at (c.in_ok-event.ensures.read held.taken holds.live) in
    let kept = kept_as held session (record session { live = live }) holds refl refl read.0 in
    breaks_events held number line session live nodes event out mid holds read
    (subst (AreServed held) (sym c.as_slice.ensures.value) (c.in_ok-nodes.ensures held kept)) next
    (c.requires.other held holds) breaks)
    c.carry_line.ensures.breaks
