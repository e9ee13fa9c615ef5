use Rattle.rio_packets.specs.Fields.{prio_of}
use Rattle.trace_check.proofs.NetworkLaws.{first_both, lanes_taken}
use Rattle.trace_check.proofs.TableLaws.{table_read}
use Rattle.trace_check.proofs.network.Network.take_waiting.Goals as goal

pub returns-then-place-len : goal.returns-then-place-len
returns-then-place-len c = λ nodes net is is_in.
    let packet = c.args.packet.now in
    let r = prio_of packet in
    let here = c.place_of-place.ensures in
    let taken = c.take_first.ensures in
    let before = table_read is.waiting is_in here c.index_mut.ensures.value in
    let both = first_both (net.waiting c.args.port) r packet taken.range before in (
      (λ yes. both.0 (taken.first.0 yes), λ first. taken.first.1 (both.1 first)),
      λ yes. record {
        count = is.count;
        registers = is.registers;
        buffers = is.buffers;
        received = is.received;
        waiting = lanes_taken net.waiting r is.waiting is_in here taken.range before taken.taken;
        lent = is.lent;
      },
    )
