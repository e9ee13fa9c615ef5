use Rattle.std.proofs.Common.{◌≡◌, refl, sym, ap, ◌∙◌, subst}
use Rattle.live_fabric.specs.Asking.{others_than}
use Rattle.live_fabric.specs.Sessions.{RequestCarried}
use Rattle.live_fabric.specs.declared.session.Session.{Session}
use Rattle.live_fabric.proofs.AnsweringLaws.{on_err}
use Rattle.live_fabric.proofs.AskedLaws.{may_ask, beside_are, request_carried, request_broke, request_falls}
use Rattle.live_fabric.proofs.session.Session.carry_request.Goals as goal

pub returns-in_err-nodes-clause-breaks : goal.returns-in_err-nodes-clause-breaks
returns-in_err-nodes-clause-breaks g c =
    on_err c.from_residual.result
    (λ held holds may asks. request_falls held c.args.number c.args.event.now c.args.ask
    c.args.outbox.now)

pub returns-in_err-others-clause-breaks : goal.returns-in_err-others-clause-breaks
returns-in_err-others-clause-breaks g c =
    on_err c.from_residual-in_err-others.result
    (λ held holds may asks. request_falls held c.args.number c.args.event.now c.args.ask
    c.args.outbox.now)

pub carry_ask-requires : goal.carry_ask-requires
carry_ask-requires g c =
    let may = c.requires in
    let ask = c.args.ask in
    let others = c.as_slice-nodes.result.now in
    let at : others ≡ others_than ask.host c.in_ok-nodes.nodes.items =
    c.as_slice-nodes.ensures.value ∙ c.in_ok-others.ensures
    ∙ ap (others_than ask.host) c.as_slice.ensures.value in
    record {
      asks = may.3;
      holds = (
        may.0.taken,
        may.1.live,
        may.2,
        may_ask may.0 c.args.event.now ask c.in_ok-nodes.nodes.items others
            (c.in_ok-nodes.ensures may.0 may.1) at may.2 may.3,
      );
    }

pub returns-in_err-reply-clause-breaks : goal.returns-in_err-reply-clause-breaks
returns-in_err-reply-clause-breaks g c =
    on_err c.from_residual-in_err-reply.result
    (λ held holds may asks.
    let ask = c.args.ask in
    let event = c.args.event.now in
    let nodes = c.in_ok-nodes.nodes.items in
    let others = c.as_slice-nodes.result.now in
    let served = c.in_ok-nodes.ensures held holds in
    let at : others ≡ others_than ask.host nodes =
    c.as_slice-nodes.ensures.value ∙ c.in_ok-others.ensures
    ∙ ap (others_than ask.host) c.as_slice.ensures.value in
    request_broke held c.args.number event ask c.args.self.now others holds
    (beside_are held ask.host nodes others served at) c.args.outbox.now c.carry_ask.new.outbox
    (c.in_err-reply.ensures.breaks held.taken holds.live may
    (may_ask held event ask nodes others served at may asks)))

pub returns-clause-told : goal.returns-clause-told
returns-clause-told g c = λ held holds may asks.
    let ask = c.args.ask in
    let event = c.args.event.now in
    let session = c.args.self.now in
    let now : Session = record session { live = c.carry_ask.new.live } in
    let nodes = c.in_ok-nodes.nodes.items in
    let others = c.as_slice-nodes.result.now in
    let served = c.in_ok-nodes.ensures held holds in
    let at : others ≡ others_than ask.host nodes =
    c.as_slice-nodes.ensures.value ∙ c.in_ok-others.ensures
    ∙ ap (others_than ask.host) c.as_slice.ensures.value in
    subst (λ outcome. RequestCarried held c.args.number event ask c.args.outbox.now
    c.tell_reply.new.outbox now outcome) (sym c.tell_reply.ensures.outcome)
    (request_carried held c.args.number event ask session others holds
    (beside_are held ask.host nodes others served at) now c.args.outbox.now c.carry_ask.new.outbox
    c.tell_reply.new.outbox c.in_ok-reply.reply refl refl
    (c.in_ok-reply.ensures.done held.taken holds.live may
    (may_ask held event ask nodes others served at may asks)) c.tell_reply.ensures.said)
