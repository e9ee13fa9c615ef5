use Rattle.std.proofs.Common.{refl, sym, ◌∙◌}
use Rattle.conform_lines.specs.Stimuli.{stimulus_text}
use Rattle.rio_conform.specs.Plays.{played_by}
use Rattle.rio_conform.proofs.PlayLaws.{Fails-answer, Fails-request, told_flushed}
use Rattle.rio_conform.proofs.playing.play_line.Goals as goal

pub returns-in-Err-clause-fails : goal.returns-in-Err-clause-fails
returns-in-Err-clause-fails g c =
    Fails-request c.args.strict c.args.line.now c.args.trial.now.port c.args.trial.now.judge
    _ _ _ _ _ _ c.in-Err.failing c.in-Err.ensures.fails

pub returns-in-Ok-answer_line-clause-right : goal.returns-in-Ok-answer_line-clause-right
returns-in-Ok-answer_line-clause-right g c =
    let line = c.args.line.now in
    let request = c.in-Ok.request in
    let right = c.in-Ok-answer_line.ensures.right in
    record {
      played =
          played_by c.args.trial.now.port c.answer_line.new.trial.judge line request
          right.answer;
      is = record {
        request = request;
        came = right.answer;
        next = c.answer_line.new.trial.judge;
        reads = c.in-Ok.ensures.reads;
        answer = right.is_answer;
        passes = right.passes;
        is = refl;
      };
      stands = c.in-Ok-answer_line.ensures.port;
      judged = refl;
      told =
          told_flushed c.args.outbox.now c.write_stimulus.new.outbox c.flush.new.self
          (stimulus_text line request) c.write_stimulus.ensures c.flush.ensures.written;
      fine = sym c.failed.ensures ∙ c.if-failed.false;
      empty = c.flush.ensures.empty;
      came = right.came;
    }

pub returns-in-Err-answer_line-clause-fails : goal.returns-in-Err-answer_line-clause-fails
returns-in-Err-answer_line-clause-fails g c =
    let line = c.args.line.now in
    let request = c.in-Ok.request in
    let text = stimulus_text line request in
    Fails-answer c.args.strict line c.args.trial.now.port c.args.trial.now.judge c.args.outbox.now
    c.flush.new.self _ _ _ _ c.in-Err-answer_line.failing
    record {
      request = request;
      reads = c.in-Ok.ensures.reads;
      told =
          told_flushed c.args.outbox.now c.write_stimulus.new.outbox c.flush.new.self text
          c.write_stimulus.ensures c.flush.ensures.written;
      fine = sym c.failed.ensures ∙ c.if-failed.false;
      empty = c.flush.ensures.empty;
    }
    c.in-Err-answer_line.ensures.fails
