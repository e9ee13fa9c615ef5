use Rattle.host_enumerate.proofs.Prelude.{[], length, arith, ap, nothing}
use Rattle.host_enumerate.proofs.Devised.{stage_after_all, first_stage}
use Rattle.host_enumerate.proofs.hosts.find_host.Goals as goal

pub find_node-requires : goal.find_node-requires
find_node-requires c =
    let script = c.args.script.now in
    let end = stage_after_all nothing script.names.items [] script.lines.items first_stage
    c.requires.passes in
    let few = end.1.few in
    let named = ap length end.3 in
    let here = ap length c.as_slice.ensures.value in
    omega (arith, few, named, here)
