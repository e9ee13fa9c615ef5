use Rattle.std.proofs.Common.{refl, ◌∙◌}
use Rattle.rio_port.proofs.LogLaws.{AddsLog-then, logs_same}
use Rattle.rio_port.proofs.ServingLaws.{unserved}
use Rattle.rio_port.proofs.serving.serve.Goals as goal

pub returns-in_default-clause-serves : goal.returns-in_default-clause-serves
returns-in_default-clause-serves g c =
    unserved _ _ _ _ _ _ c.without_memory.ensures.status

pub returns-clause-logs : goal.returns-clause-logs
returns-clause-logs g c =
    let new = c.in-Ok.ensures in
    let asked = c.write.ensures.asked ∙ new.asked in
    AddsLog-then _ _ _ _ _ _ _ _ _ _
    (AddsLog-then _ _ _ _ _ _ _ _ _ _
    (logs_same _ _ _ _ _ _ _ _ _ new.asked new.fine c.write.ensures.logs)
    (logs_same _ _ _ _ _ _ _ _ _ asked refl c.serve_lines-status.ensures.logs))
    (logs_same _ _ _ _ _ _ _ _ _
    (c.end.ensures.asked ∙ c.serve_lines-status.ensures.asked ∙ asked) c.end.ensures.failed
    c.write-2.ensures.logs)
