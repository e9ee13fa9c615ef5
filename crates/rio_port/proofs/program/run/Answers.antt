use Rattle.std.proofs.Common.{false}
use Rattle.rio_chars.proofs.UnlessLaws.{WritesUnless-then}
use Rattle.rio_port.proofs.program.run.Goals as goal

pub returns : goal.returns
returns g c =
    let logged = c.serve_words-status.ensures.says in
    record {
      status = c.serve_words-status.result.status;
      did = c.serve_words-status.ensures.did;
      number_is = c.status_number.ensures;
      failed = c.say_unless.result;
      log = logged.log;
      unlogged = logged.none;
      says = WritesUnless-then false _ _ _ _ _ _ _ _ _ _ logged.says c.say_unless.ensures;
    }
