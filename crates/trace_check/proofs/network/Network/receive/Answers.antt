use Rattle.std.proofs.Common.{◌<◌, List, ℕ, ◌∙◌, subst}
use Rattle.rio_packets.specs.Fields.{prio_of}
use Rattle.link_buffers.specs.Queues.{appended}
use Rattle.trace_check.proofs.NetworkLaws.{lanes_put}
use Rattle.trace_check.proofs.TableLaws.{table_read}
use Rattle.trace_check.proofs.network.Network.receive.Goals as goal

pub returns-in_ok-push : goal.returns-in_ok-push
returns-in_ok-push c = λ nodes net items is is_in one.
    let here = c.place_of-place.ensures in
    let same = c.copy.ensures.same in
    let pushed = c.in_ok-push.ensures in
    let before = table_read is.received is_in here c.index_mut.ensures.value in
    record {
      count = is.count;
      registers = is.registers;
      buffers = is.buffers;
      received = lanes_put net.received (prio_of c.args.packet.now) items is.received is_in here
          (subst (λ (p : List ℕ). prio_of p < 4) same pushed.range) before
          (pushed.lists
          ∙ (λ i. appended c.index_mut.result.now (prio_of (same i)) (same i))) one;
      waiting = is.waiting;
      lent = is.lent;
    }
