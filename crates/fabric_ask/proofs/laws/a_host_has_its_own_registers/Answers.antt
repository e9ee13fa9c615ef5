use Rattle.fabric_ask.proofs.Owning.{made_own, seen_own, own_ready}
use Rattle.fabric_ask.proofs.laws.a_host_has_its_own_registers.Goals as goal

pub returns-clause-made : goal.returns-clause-made
returns-clause-made c = λ host device s lines kind is never made. made_own host device kind s lines
    is never made

pub returns-clause-seen : goal.returns-clause-seen
returns-clause-seen c = λ host device s lines kind is never. seen_own host device kind s lines never

pub returns-clause-ready : goal.returns-clause-ready
returns-clause-ready c = own_ready
