use Rattle.library_calls.specs.declared.status.CallStatus.TheVariants.{Done}
use Rattle.library_calls.specs.Chars.{CharTakes}
use Rattle.kigvarp_c.specs.Calls.{Always}
use Rattle.kigvarp_c.proofs.CallLaws.{calls_open}
use Rattle.kigvarp_c.proofs.port_calls.kigvarp_port_take.Goals as goal

pub returns-clause-does : goal.returns-clause-does
returns-clause-does c =
    let found = c.in-Some.ensures.taken in
    calls_open _ (Always (CharTakes c.args.number c.take.new.did)) c.args.port.now.handle.ports
    found.0 _ c.in-Some.opened.value
    c.deref_mut.result.now c.take.new.self Done _ found.1 c.deref_mut.ensures.value
    c.call_number-2.ensures
    c.put_port.ensures.open c.take.ensures
