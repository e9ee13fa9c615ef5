use Rattle.std.proofs.Common.{◌≡◌, Some, subst}
use Rattle.fabric_script.specs.SetUps.{SetUpLines}
use Rattle.live_fabric.specs.Asking.{IsNoAsk, ask_of}
use Rattle.live_fabric.specs.Holding.{MayBeCarried}
use Rattle.live_fabric.specs.Sessions.{SessionHeld, SessionHolds, AskTold, AskFalls, RequestCarried, RequestBroke}
use Rattle.live_fabric.proofs.AnsweringLaws.{on_err, on_each, on_each_err}
use Rattle.live_fabric.proofs.AskedLaws.{spells_held, ask_taken, ask_refused, ask_breaks, ask_falls_at_once}
use Rattle.live_fabric.proofs.TakenLaws.{may_be_carried}
use Rattle.live_fabric.proofs.session.Session.tell_ask.Goals as goal

pub carry_request-requires : goal.carry_request-requires
carry_request-requires g c =
    let held = c.requires.0 in
    let holds = c.requires.1 in
    let event = c.in-Ok.event in
    let ask = c.in-Ok.ask in
    let spells = spells_held held c.args.self.now c.set_up.result.now c.args.words.now event ask
    holds c.set_up.ensures c.in-Ok.ensures.asks in (
      held,
      holds,
      may_be_carried c.args.self.now.live held.taken c.args.words.now event holds.live spells.0,
      spells.1,
    )

pub returns-in-Ok-clause-told : goal.returns-in-Ok-clause-told
returns-in-Ok-clause-told g c =
    let session = c.args.self.now in
    let number = c.args.number in
    let words = c.args.words.now in
    let event = c.in-Ok.event in
    let ask = c.in-Ok.ask in
    let out = c.args.outbox.now in
    let next = c.carry_request.new.outbox in
    let now = c.carry_request.new.self in
    on_each
    (λ outcome. (held : SessionHeld) → SessionHolds session held → MayBeCarried held.taken event
    → ask_of event ≡ Some ask → RequestCarried held number event ask out next now outcome)
    (λ outcome. (held : SessionHeld) → SessionHolds session held
    → AskTold held number words out next now outcome)
    c.carry_request.result
    (λ outcome carried held holds.
    let spells = spells_held held session c.set_up.result.now words event ask holds
    c.set_up.ensures c.in-Ok.ensures.asks in
    ask_taken held number words out next now event ask outcome spells
    (carried held holds (may_be_carried session.live held.taken words event holds.live spells.0)
    spells.1))
    c.carry_request.ensures.told

pub returns-in-Ok-clause-breaks : goal.returns-in-Ok-clause-breaks
returns-in-Ok-clause-breaks g c =
    let session = c.args.self.now in
    let number = c.args.number in
    let words = c.args.words.now in
    let event = c.in-Ok.event in
    let ask = c.in-Ok.ask in
    let out = c.args.outbox.now in
    let next = c.carry_request.new.outbox in
    on_each_err
    ((held : SessionHeld) → SessionHolds session held → MayBeCarried held.taken event
    → ask_of event ≡ Some ask → RequestBroke held number event ask out next)
    ((held : SessionHeld) → SessionHolds session held → AskFalls held number words out next)
    c.carry_request.result
    (λ broke held holds.
    let spells = spells_held held session c.set_up.result.now words event ask holds
    c.set_up.ensures c.in-Ok.ensures.asks in
    ask_breaks held number words out next event ask spells
    (broke held holds (may_be_carried session.live held.taken words event holds.live spells.0)
    spells.1))
    c.carry_request.ensures.breaks

pub returns-in_err-refuse-in-Err-Refused-clause-breaks :
    goal.returns-in_err-refuse-in-Err-Refused-clause-breaks
returns-in_err-refuse-in-Err-Refused-clause-breaks g c =
    on_err c.from_residual.result
    (λ held holds. ask_falls_at_once held c.args.number c.args.words.now c.args.outbox.now
    c.refuse.new.outbox c.in_err-refuse-in-Err-Refused.ensures.same)

pub returns-in_ok-refuse-in-Err-Refused-clause-told :
    goal.returns-in_ok-refuse-in-Err-Refused-clause-told
returns-in_ok-refuse-in-Err-Refused-clause-told g c = λ held holds.
    ask_refused held c.args.number c.args.words.now c.args.outbox.now c.refuse.new.outbox
    c.args.self.now c.in-Err-Refused.reason holds
    (subst (λ (s : SetUpLines). IsNoAsk s.known c.args.words.now c.in-Err-Refused.reason)
    c.set_up.ensures (c.in-Err-Refused.ensures.refused c.in-Err-Refused.reason (cc)))
    c.in_ok-refuse-in-Err-Refused.ensures.told
