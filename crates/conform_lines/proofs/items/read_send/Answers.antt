use Rattle.port_lines.specs.declared.requests.PortRequest.TheVariants.{Send}
use Rattle.conform_lines.proofs.items.read_send.Goals as goal

pub returns-in-Err : goal.returns-in-Err
returns-in-Err c = λ packet asks.
    let reads = rw c.in-Err.is at c.in_ok-request.ensures in
    reads.0 (Send packet) asks
