use Rattle.library_calls.specs.declared.status.CallStatus.TheVariants.{Done}
use Rattle.library_calls.specs.FabricsSeen.{FabricTextTaken}
use Rattle.kigvarp_c.specs.Calls.{Always}
use Rattle.kigvarp_c.proofs.CallLaws.{calls_open}
use Rattle.kigvarp_c.proofs.fabric.kigvarp_fabric_text.Goals as goal

pub returns-clause-does : goal.returns-clause-does
returns-clause-does c =
    let found = c.in-Some.ensures.taken in
    calls_open _ (Always (FabricTextTaken c.args.room.now c.text.new.room c.text.result))
    c.args.fabric.now.handle.fabrics found.0 _ c.in-Some.opened.value
    c.deref_mut.result.now c.text.new.self Done _ found.1 c.deref_mut.ensures.value
    c.call_number-2.ensures
    c.put_fabric.ensures.open c.text.ensures
