use Rattle.trace_check.proofs.state.State.freed.Goals as goal

pub returns : goal.returns
returns c = λ r packet is is_in.
    c.allowed.ensures (r.runs c.args.port) (c.in_ok-hearing.ensures r is is_in)
