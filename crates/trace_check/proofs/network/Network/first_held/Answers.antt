use Rattle.std.proofs.Common.{◌∙◌}
use Rattle.trace_check.proofs.LackLaws.{first_of}
use Rattle.trace_check.proofs.TableLaws.{table_read}
use Rattle.trace_check.proofs.network.Network.first_held.Goals as goal

pub returns-then-place-len : goal.returns-then-place-len
returns-then-place-len c = λ nodes net is is_in.
    let lists = table_read is.received is_in c.place_of-place.ensures c.index.ensures in
    c.first.ensures
    ∙ first_of (net.received c.args.port) c.index.result.now c.args.prio c.requires lists
