use Rattle.std.proofs.Common.{ap, ◌∙◌}
use Rattle.lane_rows.specs.RowSending.{turned_senders}
use Rattle.lane_rows.proofs.RowLaws.{row_sent}
use Rattle.lane_rows.proofs.sending.send_rows.Goals as goal

pub loop-left-preserved-in_ok-push : goal.loop-left-preserved-in_ok-push
loop-left-preserved-in_ok-push c =
    let lanes = c.loop-left.lanes in
    let next =
    row_sent lanes c.turned-lanes.result _ c.loop-left.groups.items c.push.new.self.items _
    c.loop-left.left.now _ c.in-Some.sent.group c.in-len1-up.len_at_least
    c.loop-left.invariant.have c.loop-left.invariant.rest c.loop-left.invariant.after
    c.in-Some.ensures.group
    (c.turned-lanes.ensures ∙ ap (turned_senders lanes) c.in-Some.ensures.disparity)
    c.in_ok-push.ensures.items in
    record { have = next.0; rest = next.1; after = next.2 }
