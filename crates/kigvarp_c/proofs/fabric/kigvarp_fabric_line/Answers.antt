use Rattle.library_calls.specs.FabricLines.{FabricLineDid}
use Rattle.kigvarp_c.proofs.CallLaws.{calls_open}
use Rattle.kigvarp_c.proofs.fabric.kigvarp_fabric_line.Goals as goal

pub returns-clause-does : goal.returns-clause-does
returns-clause-does c =
    let found = c.in-Some.ensures.taken in
    calls_open _ (FabricLineDid c.args.line.now) c.args.fabric.now.handle.fabrics found.0 _
    c.in-Some.opened.value c.deref_mut.result.now c.line-status.new.self c.line-status.result _
    found.1 c.deref_mut.ensures.value c.call_number-2.ensures c.put_fabric.ensures.open
    c.line-status.ensures.did
