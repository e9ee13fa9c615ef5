use Rattle.std.proofs.Common.{subst}
use Rattle.rio_framer.specs.declared.events.Told.{Told}
use Rattle.rio_framer.specs.Giving.{listed, events_by}
use Rattle.trace_counts.specs.Sums.{noted_all}
use Rattle.trace_counts.specs.Room.{SumsHaveRoom}
use Rattle.trace_counts.proofs.RoomLaws.{on_err, room-ended}
use Rattle.trace_counts.proofs.sums.Sums.note.Goals as goal

pub returns-in_err-note_ended-in-Ends-clause-too_many :
    goal.returns-in_err-note_ended-in-Ends-clause-too_many
returns-in_err-note_ended-in-Ends-clause-too_many c =
    let ended = c.args.framer.now.ended in
    on_err c.from_residual.result (λ room. c.in_err-note_ended-in-Ends.ensures.too_many
    (room-ended c.args.self.now ended c.in-Ends.symbol (subst (λ (t : Told). SumsHaveRoom
    (noted_all c.args.self.now (listed (events_by t ended).first (events_by t ended).second)))
    c.in-Ends.is room)))
