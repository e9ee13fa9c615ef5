use Rattle.std.proofs.Common.{ℕ, ◌-◌, length, get_or, take, drop, arith}
use Rattle.library_calls.proofs.ReadingLaws.{first_number}
use Rattle.library_calls.proofs.ClockCounts.{IsClocked-begin, IsClocked-more}
use Rattle.library_calls.proofs.clocks.take_clocks.Goals as goal

pub loop-left-init : goal.loop-left-init
loop-left-init c =
    IsClocked-begin c.args.numbers.now c.args.room.now c.args.told.now c.args.clocked.now
    c.requires.none

pub take_clock-requires : goal.take_clock-requires
take_clock-requires c =
    let h = c.loop-left.invariant in
    let some = c.in-len1-up.len_at_least in
    let few = c.requires.few in
    let count = h.count in
    let held = h.held in
    let freed = h.freed in
    let fired = h.fired in record {
      place =
          let room = c.requires.room in let long = c.loop-left.auto.room in
          omega (arith, count, some, room, long);
      clocks = omega (arith, count, some, few);
      held = omega (arith, held, some, few);
      freed = omega (arith, freed, some, few);
      fired = omega (arith, fired, some, few);
    }

pub loop-left-preserved : goal.loop-left-preserved
loop-left-preserved c =
    let left = c.loop-left.left.now in
    let first : ℕ = get_or left 0 0 in
    let rest = take (length left - 1) (drop 1 left) in
    let did = c.if-not-take_clock.false in
    IsClocked-more c.args.numbers.now c.args.room.now c.loop-left.room c.take_clock.new.room left
    rest first c.loop-left.told c.take_clock.new.told c.args.clocked.now c.loop-left.clocked
    c.take_clock.new.clocked c.loop-left.invariant
    (first_number left 0 c.in-len1-up.len_at_least) (c.take_clock.ensures.adds did)
    (c.take_clock.ensures.stands did)
