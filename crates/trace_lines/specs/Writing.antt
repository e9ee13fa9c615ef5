-- What is added to a trace that is written.
use Rattle.std.specs.Prelude.{◌≡◌, List}
use Rattle.rio_chars.specs.Written.{Writes}
use Rattle.trace_lines.specs.Counts.{with_lines_counted}
use Rattle.trace_lines.specs.Lines.{TraceLine}
use Rattle.trace_lines.specs.Text.{trace_text}
use Rattle.trace_lines.specs.declared.writer.TraceWriter.{TraceWriter}

-- These lines were told, in order, and nothing else, and those of packets were counted. Outbox and
-- names are those of before.
pub record Adds {K : Type 0} (old new : TraceWriter K) (lines : List TraceLine) : Type 0 where
  pub same : new.outbox.ghost_name ≡ old.outbox.ghost_name
  pub names : new.names.now ≡ old.names.now
  pub writes : Writes old.outbox.now new.outbox.now (trace_text old.names.now lines)
  pub counts : new.counts ≡ with_lines_counted old.counts lines
