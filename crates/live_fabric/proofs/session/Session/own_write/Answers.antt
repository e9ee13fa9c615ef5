use Rattle.std.proofs.Common.{refl, sym, subst}
use Rattle.live_fabric.specs.OwnRegisters.{NamesOwn, NamesNoOwn}
use Rattle.live_fabric.specs.declared.asking.AskOutcome.TheVariants.{Refused}
use Rattle.live_fabric.specs.Sessions.{OwnWriteCame}
use Rattle.live_fabric.proofs.NamingLaws.{endpoint_there}
use Rattle.live_fabric.proofs.OwnedLaws.{known_held, own_write_came, own_write_refused}
use Rattle.live_fabric.proofs.session.Session.own_write.Goals as goal

pub own_write-requires : goal.own_write-requires
own_write-requires c =
    let held = c.requires.0 in
    let holds = c.requires.1 in
    let name = c.args.name.now in
    let named = subst (λ known. NamesOwn known name c.in-Ok.node)
    (known_held held c.args.self.now c.set_up.result.now holds c.set_up.ensures)
    c.in-Ok.ensures.named in (
      held.taken,
      holds.live,
      endpoint_there c.args.self.now.live held.taken holds.live name c.in-Ok.node named,
    )

pub returns-in_ok-said-in-Ok : goal.returns-in_ok-said-in-Ok
returns-in_ok-said-in-Ok c = λ held holds.
    let session = c.args.self.now in
    let name = c.args.name.now in
    let node = c.in-Ok.node in
    let named = subst (λ known. NamesOwn known name node)
    (known_held held session c.set_up.result.now holds c.set_up.ensures) c.in-Ok.ensures.named in
    own_write_came held name c.args.offset session (record session { live = c.own_write.new.self })
    holds c.args.value node c.in_ok-said-in-Ok.said refl refl named
    (c.in_ok-said-in-Ok.ensures held.taken holds.live
    (endpoint_there session.live held.taken holds.live name node named))

pub returns-in-Err-Refused : goal.returns-in-Err-Refused
returns-in-Err-Refused c = λ held holds.
    let session = c.args.self.now in
    let name = c.args.name.now in
    let reason = c.in-Err-Refused.reason in
    subst (λ r. OwnWriteCame held name c.args.offset c.args.value session (Refused r))
    (sym c.in-Err-Refused.reason-is)
    (own_write_refused held name c.args.offset c.args.value session reason holds
    (subst (λ known. NamesNoOwn known name reason)
    (known_held held session c.set_up.result.now holds c.set_up.ensures)
    (c.in-Err-Refused.ensures.refused reason (cc))))
