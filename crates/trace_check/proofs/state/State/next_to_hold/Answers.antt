use Rattle.trace_check.proofs.state.State.next_to_hold.Goals as goal

pub returns : goal.returns
returns c = λ r packet is is_in.
    let run = r.runs c.args.port in
    let kept = c.in_ok-hearing.ensures r is is_in in (
      c.next.ensures run kept,
      c.first.ensures run kept,
    )
