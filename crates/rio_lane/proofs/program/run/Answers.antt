use Rattle.rio_lane.proofs.program.run.Goals as goal

pub returns : goal.returns
returns g c = record {
  status = c.serve_words-status.result;
  did = c.serve_words-status.ensures;
  number_is = c.status_number.ensures;
}
