use Rattle.std.proofs.Common.{◌≤◌, length, get_or, rules, arith}
use Rattle.library_calls.proofs.ReadingLaws.{first_number, ReadsOn-begin, ReadsOn-more, ReadsOn-end}
use Rattle.library_calls.proofs.readings.read_events.Goals as goal

pub loop-left-init : goal.loop-left-init
loop-left-init c = ReadsOn-begin c.args.framer.now.place c.args.numbers.now c.args.room.now

pub put_told-requires-clause-few : goal.put_told-requires-clause-few
put_told-requires-clause-few c =
    let h = c.loop-left.invariant in
    omega (arith, h.counted, h.few, c.requires, c.in-len1-up.len_at_least)

pub overflow_add-place : goal.overflow_add-place
overflow_add-place c =
    let h = c.loop-left.invariant in
    omega (arith, h.counted, c.requires, c.in-len1-up.len_at_least)

pub loop-left-preserved : goal.loop-left-preserved
loop-left-preserved c =
    let left = c.loop-left.left.now in
    let run = c.read_run-told in
    ReadsOn-more (get_or left 0 0) c.put_told.new.events c.wire_char.result run.result.1
    run.new.self c.loop-left.invariant (first_number left 0 c.in-len1-up.len_at_least)
    c.wire_char.ensures run.ensures.told run.ensures.state c.put_told.ensures.few
    c.put_told.ensures.puts

pub returns : goal.returns
returns c =
    let few : length c.loop-left.left.now ≤ 0 = search rules in
    let ends = ReadsOn-end few c.loop-left.invariant in
    record { place = ends.0; events = ends.1 }
