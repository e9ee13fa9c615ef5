use Rattle.std.proofs.Common.{rules}
use Rattle.rio_conform.proofs.program.run.Goals as goal

pub returns : goal.returns
returns g c = record {
  name = c.serve_words-verdict.result.0.now;
  verdict = c.serve_words-verdict.result.1;
  did = c.serve_words-verdict.ensures.did;
  number_is = c.verdict_number.ensures;
  failed = c.report.ensures.0;
  details = c.as_slice.result.now;
  says = c.report.ensures.1;
  none_of_a_pass = search rules;
}
