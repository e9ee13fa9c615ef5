use Rattle.std.proofs.Common.{◌++◌}
use Rattle.trace_check.proofs.NetworkLaws.{lent_set, more_is}
use Rattle.trace_check.proofs.TableLaws.{table_read}
use Rattle.trace_check.proofs.network.Network.lend.Goals as goal

pub returns-in_ok-push_back : goal.returns-in_ok-push_back
returns-in_ok-push_back c = λ nodes net items is is_in one.
    let lent = net.lent c.args.port in
    let here = c.place_of-place.ensures in
    let before = table_read is.lent is_in here c.index_mut.ensures.value in
    record {
      count = is.count;
      registers = is.registers;
      buffers = is.buffers;
      received = is.received;
      waiting = is.waiting;
      lent = lent_set net.lent c.push_back.new.self (lent ++ items) is.lent is_in here
          (more_is lent items before c.in_ok-push_back.ensures.items c.copy.ensures.same one);
    }
