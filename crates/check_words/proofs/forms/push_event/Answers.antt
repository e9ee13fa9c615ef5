use Rattle.std.proofs.Common.{IfSome, subst}
use Rattle.fabric_script.specs.SetUps.{IsRefused}
use Rattle.check_words.proofs.FormLaws.{text-of_event}
use Rattle.check_words.proofs.forms.push_event.Goals as goal

pub returns-in_ok-extend_from_slice-in-Some : goal.returns-in_ok-extend_from_slice-in-Some
returns-in_ok-extend_from_slice-in-Some c =
    let known = c.args.set_up.now.known in
    text-of_event known c.args.text.now c.args.event.now c.event_reason.result.now
    c.in-Some.number c.push_why.result c.args.message.now.items
    c.extend_from_slice.new.self.items c.push_why.new.message.items c.requires
    (subst (λ f. IfSome f (IsRefused known c.args.event.now)) c.in-Some.is
    c.in_ok-number.ensures) c.event_reason.ensures
    c.in_ok-extend_from_slice-in-Some.ensures.items c.push_why.ensures
