use Rattle.std.proofs.Common.{sym}
use Rattle.library_calls.specs.declared.status.CallStatus.TheVariants.{Done}
use Rattle.library_calls.specs.States.{StateTells}
use Rattle.kigvarp_c.specs.Calls.{Always}
use Rattle.kigvarp_c.proofs.CallLaws.{calls_open}
use Rattle.kigvarp_c.proofs.port_calls.kigvarp_port_state.Goals as goal

pub returns-clause-does : goal.returns-clause-does
returns-clause-does c =
    let found = c.in-Some.ensures.taken in
    calls_open _ (Always (StateTells c.state.new.told)) c.args.port.now.handle.ports found.0 _
    c.in-Some.opened.value
    c.deref.result.now c.in-Some.opened.value Done _ found.1 c.deref.ensures c.call_number-2.ensures
    c.put_port.ensures.open (c.state.ensures, sym c.deref.ensures)
