use Rattle.library_calls.proofs.ClockCounts.{ClocksSeen-by}
use Rattle.library_calls.proofs.open_port.OpenPort.clock.Goals as goal

pub returns-then-not-take_clocks : goal.returns-then-not-take_clocks
returns-then-not-take_clocks c = (
  (c.if-numbers-gt-RUN.false, c.if-room-numbers.false),
  ClocksSeen-by c.args.numbers.now c.args.room.now c.take_clocks.new.room
      c.take_clocks.new.told _ _ c.take_clocks.new.clocked c.self.view_is
      c.take_clocks.ensures.taken,
  c.take_clocks.ensures.less c.if-not-take_clocks.true,
)

pub returns : goal.returns
returns c = (
  (c.if-numbers-gt-RUN.false, c.if-room-numbers.false),
  ClocksSeen-by c.args.numbers.now c.args.room.now c.take_clocks.new.room
      c.take_clocks.new.told _ _ c.take_clocks.new.clocked c.self.view_is
      c.take_clocks.ensures.taken,
  c.take_clocks.ensures.all c.if-not-take_clocks.false,
)
