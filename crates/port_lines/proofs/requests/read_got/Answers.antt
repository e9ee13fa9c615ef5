use Rattle.fabric_script.specs.Words.{words_left}
use Rattle.port_lines.proofs.FaultLaws.{got_fault}
use Rattle.port_lines.proofs.requests.read_got.Goals as goal

pub returns-in-Err : goal.returns-in-Err
returns-in-Err c =
    let first = rw c.in-Err.is at c.in_ok-chars.ensures in
    got_fault (words_left c.args.words) c.in-Err.fault first.0 first.1 first.2
