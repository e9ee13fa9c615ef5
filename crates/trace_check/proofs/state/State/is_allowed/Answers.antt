use Rattle.trace_check.specs.Running.{frees_one}
use Rattle.trace_check.proofs.StateLaws.{runs_set}
use Rattle.trace_check.proofs.TableLaws.{table_read}
use Rattle.trace_check.proofs.state.State.is_allowed.Goals as goal

pub returns-then-place-len : goal.returns-then-place-len
returns-then-place-len c = λ r is is_in.
    let run = table_read is.runs is_in c.place_of-place.ensures c.index_mut.ensures.value in
    let had = r.runs c.args.port in (
      c.free.ensures.may had run,
      λ allowed. record {
        links = is.links;
        network = is.network;
        wires = is.wires;
        runs = runs_set c.free.new.self frees_one is.runs is_in c.place_of-place.ensures
            (c.free.ensures.freed had run allowed);
      },
    )
