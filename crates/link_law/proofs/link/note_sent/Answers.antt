use Rattle.link_law.proofs.Prelude.{◌<◌, List, length, subst, sym, arith, stopped_in_one}
use Rattle.std.proofs.lemmas.Bool.Decides.{nat_tests}
use Rattle.link_machine.specs.Prelude.{Stopped, Note, Sent}
use Rattle.link_law.proofs.Noting.{sent_one, ok_then, err_then}
use Rattle.link_law.proofs.link.note_sent.Goals as goal

pub returns-clause-noted : goal.returns-clause-noted
returns-clause-noted g c =
    let some : 0 < length c.args.chars.now = grind (arith, nat_tests) in
    ok_then c.sent.result
    (subst (λ (notes : List Note). g.W.Watch.grew c.args.watch.now notes c.sent.new.self)
    (sym (sent_one c.args.from c.args.chars.now some)))
    c.sent.ensures.taken

pub returns-clause-stopped : goal.returns-clause-stopped
returns-clause-stopped g c =
    let some : 0 < length c.args.chars.now = grind (arith, nat_tests) in
    err_then c.sent.result
    (λ h. subst (λ (notes : List Note). Stopped g.W.Watch.grew g.W.Watch.cut c.args.watch.now notes
    c.sent.new.self) (sym (sent_one c.args.from c.args.chars.now some))
    (stopped_in_one g.met.W.Watch.is_watch c.args.watch.now
    c.sent.new.self (Sent c.args.from c.args.chars.now) h))
    c.sent.ensures.stopped
