use Rattle.trace_check.specs.Running.{holds_one}
use Rattle.trace_check.proofs.StateLaws.{runs_set}
use Rattle.trace_check.proofs.TableLaws.{table_read}
use Rattle.trace_check.proofs.state.State.has_come.Goals as goal

pub returns-then-place-len : goal.returns-then-place-len
returns-then-place-len c = λ r is is_in.
    let place = c.place_of-place.result in
    let packet = c.args.packet.now in
    let run = table_read is.runs is_in c.place_of-place.ensures c.index_mut.ensures.value in
    let had = r.runs c.args.port in (
      c.hold.ensures.may had run,
      λ came. record {
        links = is.links;
        network = is.network;
        wires = is.wires;
        runs = runs_set c.hold.new.self
            (λ run. holds_one run packet) is.runs is_in c.place_of-place.ensures
            (c.hold.ensures.held had run came);
      },
    )
