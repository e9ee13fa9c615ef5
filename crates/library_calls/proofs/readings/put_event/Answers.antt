use Rattle.std.proofs.Common.{◌≡◌, length, arith}
use Rattle.library_calls.proofs.ReadingLaws.{stand_more, stand_beyond, stand_length}
use Rattle.library_calls.proofs.readings.put_event.Goals as goal
use Rattle.library_calls.proofs.readings.put_event.Goals.{then-at-room, else-at-room}

pub returns-clause-puts : goal.returns-clause-puts
returns-clause-puts c = λ before begun h.
    let room = c.args.room.now in
    let at = c.args.events.now in
    let same : length room ≡ length begun = stand_length before begun room at h in
    elim c.if-at-room.branch [
      | then-at-room w ↦ rw w.room-is (stand_more before begun room at c.args.told
          (omega (arith, w.if-at-room.true, same)) h)
      | else-at-room w ↦ rw w.room-is (stand_beyond before begun room at c.args.told
          (omega (arith, w.if-at-room.false, same)) h)
    ]
