use Rattle.std.proofs.Common.{◌≡◌, ◌-◌, refl, ap, ◌∙◌, arith}
use Rattle.link_buffers.specs.Queues.{packet_count}
use Rattle.fabric_model.specs.Network.{held}
use Rattle.fabric_trace.proofs.Network.Lanes.{counted}
use Rattle.trace_check.proofs.TableLaws.{table_read}
use Rattle.trace_check.proofs.network.Network.unmet_buffers.Goals as goal

pub returns : goal.returns
returns c = λ nodes net is is_in.
    let p = c.args.port in
    let here = c.place_of-place.ensures in
    let all = table_read is.buffers is_in here c.index-all.ensures in
    let lists = table_read is.received is_in here c.index.ensures in
    let from = c.from.ensures ∙ all in
    let taken : packet_count c.index.result.now ≡ held net p
    = ap packet_count lists ∙ counted (net.received p) in
    let few = c.if-free-from.false in
    let needed = c.from-2.ensures in (
      refl,
      record {
        free_is = c.free_of-free.ensures ∙ (λ i. from i - taken i);
        all_is = all;
        needed_is = refl;
        few = omega (arith, few, needed);
      },
    )
