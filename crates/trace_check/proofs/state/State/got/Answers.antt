use Rattle.std.proofs.Common.{Some, sym, ◌∙◌, rules}
use Rattle.trace_check.specs.Running.{run_hears}
use Rattle.trace_check.proofs.AnswerLaws.{got_stands}
use Rattle.trace_check.proofs.StateLaws.{runs_set, wires_taken}
use Rattle.trace_check.proofs.TableLaws.{table_read}
use Rattle.trace_check.proofs.state.State.got.Goals as goal

pub returns : goal.returns
returns c = λ r short is is_in.
    let peer = c.in-Some.peer in
    let chars = c.args.chars.now in
    let wires = c.args.self.now.wires.items in
    let hearings = c.args.self.now.hearings.items in
    let peer_is = is.links.peers.at c.args.port (Some peer) is_in
    (c.peer.ensures.some peer c.in-Some.is) in
    let in_peer = is.links.within peer c.args.port (sym peer_is) in
    let from = c.place_of-from.result in
    let to = c.place_of-to.result in
    let wire = table_read is.wires in_peer c.place_of-from.ensures c.index_mut.ensures.value in
    let run = table_read is.runs is_in c.place_of-to.ensures c.index_mut-2.ensures.value in
    let stands = sym wire ∙ c.take_front.ensures.taken (search rules) in
    got_stands
    (record { peer = peer; behind = c.take_front.new.self; peer_is = sym peer_is; stands = stands })
    (record {
      links = is.links;
      network = is.network;
      wires = wires_taken c.take_front.new.self chars is.wires
          in_peer c.place_of-from.ensures peer_is stands;
      runs = runs_set c.hear.new.self
          (λ run. run_hears run chars) is.runs is_in c.place_of-to.ensures
          (c.in_ok-hear.ensures (r.runs c.args.port) run);
    })
