use Rattle.std.proofs.Common.{◌∙◌}
use Rattle.trace_check.specs.Sending.{AreToSend}
use Rattle.trace_check.proofs.LackLaws.{first_of}
use Rattle.trace_check.proofs.TableLaws.{table_read}
use Rattle.trace_check.proofs.network.Network.lacking.Goals as goal

pub returns : goal.returns
returns c = λ nodes net is is_in.
    let p = c.args.port in
    let here = c.place_of-place.ensures in
    let waits = table_read is.waiting is_in here c.index.ensures in
    let lends = table_read is.lent is_in here c.index-2.ensures in
    let first = table_read is.waiting is_in here c.index-3.ensures in
    let sends : AreToSend net p c.index.result.now c.index-2.result.now.items
    = record { waits = waits; lends = lends } in (
      c.in_ok-prio.ensures.lacked net p sends,
      c.first.ensures ∙ first_of (net.waiting p) c.index-3.result.now c.in_ok-prio.prio
          c.in_ok-prio.ensures.range first,
    )
