use Rattle.std.proofs.Common.{◌≡◌, ◌∙◌, ap, sym, true, rules, tests}
use Rattle.rio_packets.specs.Fields.{prio_of}
use Rattle.fabric_model.specs.Network.{room_out}
use Rattle.trace_check.proofs.NetworkLaws.{lanes_put}
use Rattle.trace_check.proofs.TableLaws.{table_read}
use Rattle.trace_check.proofs.network.Network.put_out.Goals as goal

pub returns : goal.returns
returns c = λ nodes net items is is_in one.
    let yes : c.has_room_out.result ≡ true = search (rules, tests) in
    let here = c.place_of-place.ensures in
    let before = table_read is.waiting is_in here c.index_mut.ensures.value in (
      sym yes ∙ c.has_room_out.ensures nodes net is is_in
          ∙ ap (room_out net c.args.port) c.prio.ensures.value,
      λ put. record {
        count = is.count;
        registers = is.registers;
        buffers = is.buffers;
        received = is.received;
        waiting = lanes_put net.waiting (prio_of c.args.packet) items is.waiting is_in here
            c.in_ok-push.ensures.range before c.in_ok-push.ensures.lists one;
        lent = is.lent;
      },
    )
