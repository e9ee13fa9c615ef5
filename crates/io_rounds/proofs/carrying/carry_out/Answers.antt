use Rattle.std.proofs.KnownBytes.{Appends-nil}
use Rattle.io_rounds.proofs.DriveLaws.{driven_nothing}
use Rattle.io_rounds.proofs.carrying.carry_out.Goals as goal

pub returns-in_err-traced-clause-no_memory : goal.returns-in_err-traced-clause-no_memory
returns-in_err-traced-clause-no_memory g c =
    λ is. driven_nothing c.args.script.now.script.names.items c.args.script.now.script.lines.items
    c.args.script.now.lines.items _ _ (Appends-nil _)

pub returns-in_err-course-clause-no_memory : goal.returns-in_err-course-clause-no_memory
returns-in_err-course-clause-no_memory g c =
    λ is. driven_nothing c.args.script.now.script.names.items c.args.script.now.script.lines.items
    c.args.script.now.lines.items _ _ (Appends-nil _)

pub returns-in_err-buffer-clause-no_memory : goal.returns-in_err-buffer-clause-no_memory
returns-in_err-buffer-clause-no_memory g c =
    λ is. driven_nothing c.args.script.now.script.names.items c.args.script.now.script.lines.items
    c.args.script.now.lines.items _ _ (Appends-nil _)
