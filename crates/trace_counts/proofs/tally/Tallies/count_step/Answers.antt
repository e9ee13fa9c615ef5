use Rattle.std.proofs.Common.{subst}
use Rattle.trace_lines.specs.declared.lines.NetworkStep.{NetworkStep}
use Rattle.trace_counts.specs.declared.sums.LineKind.TheVariants.{MoveIn}
use Rattle.trace_counts.specs.Counts.{with_step}
use Rattle.trace_counts.specs.Room.{PortsHaveRoom}
use Rattle.trace_counts.proofs.RoomLaws.{on_err, room-before}
use Rattle.trace_counts.proofs.tally.Tallies.count_step.Goals as goal

pub returns-in_err-raise-in-Move-clause-too_many : goal.returns-in_err-raise-in-Move-clause-too_many
returns-in_err-raise-in-Move-clause-too_many c =
    on_err c.from_residual.result (λ room. c.in_err-raise-in-Move.ensures.too_many
    (room-before _ c.in-Move.to MoveIn (subst (λ (s : NetworkStep). PortsHaveRoom
    (with_step c.args.self.now s)) c.in-Move.is room)))
