use Rattle.rio_follow.proofs.program.run.Goals as goal

pub returns : goal.returns
returns g c = record {
  end = c.follow_words-end.result;
  did = c.follow_words-end.ensures;
  number_is = c.end_number.ensures;
}
