use Rattle.library_calls.specs.FabricAsks.{FabricAskDid}
use Rattle.kigvarp_c.proofs.CallLaws.{calls_open}
use Rattle.kigvarp_c.proofs.fabric.kigvarp_fabric_ask.Goals as goal

pub returns-clause-does : goal.returns-clause-does
returns-clause-does c =
    let found = c.in-Some.ensures.taken in
    calls_open _ (FabricAskDid c.args.host.now c.args.ask.now c.ask-status.new.told)
    c.args.fabric.now.handle.fabrics found.0 _
    c.in-Some.opened.value c.deref_mut.result.now c.ask-status.new.self c.ask-status.result _
    found.1 c.deref_mut.ensures.value c.call_number-2.ensures c.put_fabric.ensures.open
    c.ask-status.ensures.did
