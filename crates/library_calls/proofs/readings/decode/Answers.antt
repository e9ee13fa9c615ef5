use Rattle.std.proofs.Common.{ℕ, sym, ap, subst}
use Rattle.rio_framer.specs.Framing.{Framing}
use Rattle.library_calls.specs.Wires.{wire_chars}
use Rattle.library_calls.specs.Readings.{TellsReading}
use Rattle.library_calls.proofs.ReadingLaws.{reading_told}
use Rattle.library_calls.proofs.readings.decode.Goals as goal

pub returns : goal.returns
returns c =
    let read = c.read_events-did in
    let room = c.args.room.now in (
      c.if-numbers-gt-MOST.false,
      subst (λ (cut : ℕ). TellsReading (wire_chars c.args.numbers.now) room read.new.room
          (record { events = read.result; cut = cut })) (sym c.cut_number-did.ensures)
          (reading_told c.args.numbers.now c.new-framer.result.place read.new.framer.place room
          read.new.room read.result (ap (λ (f : Framing). f.place) c.new-framer.ensures)
          read.ensures.place read.ensures.events),
    )
