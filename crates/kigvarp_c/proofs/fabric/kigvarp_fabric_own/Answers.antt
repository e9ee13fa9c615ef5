use Rattle.library_calls.specs.FabricOwn.{FabricOwnDid}
use Rattle.kigvarp_c.proofs.CallLaws.{calls_open}
use Rattle.kigvarp_c.proofs.fabric.kigvarp_fabric_own.Goals as goal

pub returns-clause-does : goal.returns-clause-does
returns-clause-does c =
    let found = c.in-Some.ensures.taken in
    calls_open _ (FabricOwnDid c.args.name.now c.args.access.now c.own-status.new.told)
    c.args.fabric.now.handle.fabrics found.0 _
    c.in-Some.opened.value c.deref_mut.result.now c.own-status.new.self c.own-status.result _
    found.1 c.deref_mut.ensures.value c.call_number-2.ensures c.put_fabric.ensures.open
    c.own-status.ensures.did
