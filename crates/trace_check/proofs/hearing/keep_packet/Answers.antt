use Rattle.std.proofs.Common.{rules}
use Rattle.trace_check.proofs.Sparing.{kept-more, kept-spare}
use Rattle.trace_check.proofs.hearing.keep_packet.Goals as goal

pub returns-in_ok-push_back-clause-kept : goal.returns-in_ok-push_back-clause-kept
returns-in_ok-push_back-clause-kept c = λ came h.
    kept-more c.args.turn c.in-Ok.ack c.from_form-packet.result c.in-Ok.form.now came
    c.args.kept.now.items c.push_back.new.self.items c.args.framer.now.ended c.in-Ok.ensures.event
    (search rules) c.in_ok-push_back.ensures.items h

pub returns-else-is_needed-clause-kept : goal.returns-else-is_needed-clause-kept
returns-else-is_needed-clause-kept c = λ came h.
    kept-spare c.args.turn c.in-Ok.ack c.from_form-packet.result c.in-Ok.form.now came
    c.args.kept.now.items c.args.framer.now.ended c.in-Ok.ensures.event (search rules)
    (search rules) h
