use Rattle.std.proofs.Common.{◌≡◌, ◌+◌, ◌==◌, ◌∙◌, ap, count_by, filter, length, nat_lt, List, ℕ}
use Rattle.rio_packets.specs.Fields.{prio_of}
use Rattle.trace_check.proofs.NetworkLaws.{count_is, lane_count, room_is}
use Rattle.trace_check.proofs.TableLaws.{table_read}
use Rattle.trace_check.proofs.network.Network.has_room_out.Goals as goal

pub returns : goal.returns
returns c = λ nodes net is is_in.
    let p = c.args.port in
    let r = c.args.prio in
    let here = c.place_of-place.ensures in
    let waits = table_read is.waiting is_in here c.index.ensures in
    let lends = table_read is.lent is_in here c.index-2.ensures in
    let waiting : c.count.result ≡ length (net.waiting p r)
    = c.count.ensures ∙ lane_count (net.waiting p) r c.requires waits in
    let lent : c.count_of.result ≡ length (filter (λ item. prio_of item.now == r) (net.lent p))
    = c.count_of.ensures
    ∙ ap (λ (l : List (List ℕ)). count_by (λ packet. prio_of packet == r) l) lends
    ∙ count_is r (net.lent p) in
    ap (nat_lt c.count_of.result) c.saturating_sub-room.ensures
    ∙ room_is c.count_of.result c.count.result
    ∙ (λ i. nat_lt (waiting i + lent i) 16)
