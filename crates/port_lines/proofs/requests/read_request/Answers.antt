use Rattle.fabric_script.specs.Lines.{words_of}
use Rattle.port_lines.proofs.RequestLaws.{fault_asks_nothing}
use Rattle.port_lines.proofs.requests.read_request.Goals as goal

pub returns-in_ok-why-in-Err : goal.returns-in_ok-why-in-Err
returns-in_ok-why-in-Err c =
    let fault = rw c.in-Err.is at c.in_ok-request.ensures in (
      fault_asks_nothing c.in-Err.fault (words_of c.args.line.now) fault,
      fault,
      c.in_ok-why-in-Err.ensures,
    )
