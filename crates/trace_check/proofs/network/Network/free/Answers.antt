use Rattle.fabric_model.specs.Steps.{behind_first}
use Rattle.trace_check.proofs.NetworkLaws.{first_of_both, lent_set, rest_is}
use Rattle.trace_check.proofs.TableLaws.{table_read}
use Rattle.trace_check.proofs.network.Network.free.Goals as goal

pub returns-then-place-len : goal.returns-then-place-len
returns-then-place-len c = λ nodes net is is_in.
    let items = net.lent c.args.port in
    let here = c.place_of-place.ensures in
    let taken = c.take_lent.ensures in
    let before = table_read is.lent is_in here c.index_mut.ensures.value in
    let both = first_of_both items c.args.packet.now before in (
      (λ yes. both.0 (taken.first.0 yes), λ first. taken.first.1 (both.1 first)),
      λ yes. record {
        count = is.count;
        registers = is.registers;
        buffers = is.buffers;
        received = is.received;
        waiting = is.waiting;
        lent = lent_set net.lent c.take_lent.new.lent (behind_first items) is.lent is_in here
            (rest_is items before taken.taken);
      },
    )
