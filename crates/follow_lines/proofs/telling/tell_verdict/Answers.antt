use Rattle.std.proofs.Common.{[], inl, inr, refl, ◌∙◌}
use Rattle.follow_lines.proofs.TellingLaws.{has_written, untold}
use Rattle.follow_lines.proofs.telling.tell_verdict.Goals as goal

pub returns-in-Ok : goal.returns-in-Ok
returns-in-Ok g c = (
  c.as_bytes.result.now,
  inl (c.as_bytes.ensures.value ∙ c.in-Ok.ensures),
  c.tell_line.ensures.told,
  has_written c.args.verdict c.verdict_end.result c.tell_line.result c.tell_line.new.outbox
      (inl c.verdict_end.ensures) c.tell_line.ensures.end c.tell_line.ensures.empty,
)

pub returns-in-Err : goal.returns-in-Err
returns-in-Err g c =
    let none = untold c.args.verdict c.tell_line-in-Err.result c.args.outbox.now
    c.tell_line-in-Err.new.outbox c.tell_line-in-Err.ensures.told c.tell_line-in-Err.ensures.end
    c.tell_line-in-Err.ensures.empty in
    ([], inr (refl, none.0), none.1, none.2)
