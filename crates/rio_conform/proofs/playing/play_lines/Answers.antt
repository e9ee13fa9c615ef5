use Rattle.std.proofs.Common.{◌-◌, length, map, sym, ◌∙◌, subst}
use Rattle.std.specs.String.{string_bytes}
use Rattle.rio_conform.specs.Plays.{Plays}
use Rattle.rio_conform.proofs.PlayLaws.{front_text, count_of_texts, no_texts, SoFar-begin, SoFar-more, SoFar-fails, SoFar-passes}
use Rattle.rio_conform.proofs.playing.play_lines.Goals as goal

pub loop-left-init : goal.loop-left-init
loop-left-init g c = record {
  so_far =
      SoFar-begin c.args.strict c.args.outbox.now c.args.trial.now.port c.args.trial.now.judge
      (g.S.Source.left c.args.source.now)
      (map string_bytes c.args.lines.now) c.args.trial.now.input c.requires.input;
  fine = c.requires.fine;
  empty = c.requires.empty;
}

pub returns-in-Err-clause-plays : goal.returns-in-Err-clause-plays
returns-in-Err-clause-plays g c =
    let h = c.loop-left.invariant in
    let lines = map string_bytes c.args.lines.now in
    let left = c.loop-left.left.now in
    let split = front_text string_bytes left c.line-item.result c.as_bytes-line.result.now
    c.line-item.is c.in-len1-up.len_at_least
    (c.as_bytes-line.ensures.value ∙ c.as_str.ensures.value) in
    subst (λ v. Plays c.args.strict c.args.trial.now.port c.args.trial.now.judge lines v
    (g.S.Source.left c.args.source.now)
    (g.S.Source.left c.play_line.new.source) c.args.outbox.now.written
    c.play_line.new.outbox.written) (sym c.verdict_of.ensures)
    (SoFar-fails c.args.strict c.args.outbox.now c.args.trial.now.port c.args.trial.now.judge
    (g.S.Source.left c.args.source.now) lines
    _ _ h.so_far split c.play_line.new.outbox c.play_line.new.trial.input c.in-Err.failing
    (length c.args.lines.now - length left) c.requires.empty
    (count_of_texts string_bytes c.args.lines.now left)
    c.in-Err.ensures.fails)

pub loop-left-preserved : goal.loop-left-preserved
loop-left-preserved g c =
    let h = c.loop-left.invariant in
    let lines = map string_bytes c.args.lines.now in
    let left = c.loop-left.left.now in
    let split = front_text string_bytes left c.line-item.result c.as_bytes-line.result.now
    c.line-item.is c.in-len1-up.len_at_least
    (c.as_bytes-line.ensures.value ∙ c.as_str.ensures.value) in
    let right = c.in_default-play_line.ensures.right in
    record {
      so_far =
          SoFar-more c.args.strict c.args.outbox.now c.args.trial.now.port c.args.trial.now.judge
          (g.S.Source.left c.args.source.now) lines _ _ h.so_far split right;
      fine = right.fine;
      empty = right.empty;
    }

pub returns-clause-plays : goal.returns-clause-plays
returns-clause-plays g c =
    let h = c.loop-left.invariant in
    SoFar-passes c.args.strict c.args.outbox.now c.args.trial.now.port c.args.trial.now.judge
    (g.S.Source.left c.args.source.now)
    (map string_bytes c.args.lines.now) h.so_far
    (no_texts string_bytes c.loop-left.left.now c.in_default.len_below)
    c.requires.empty h.fine h.empty
