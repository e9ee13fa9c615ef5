use Rattle.std.proofs.Common.{◌≡◌, ◌≤◌, ◌+◌, ◌-◌, length, get_or, take, drop, ap, rules, arith}
use Rattle.rio_chars.specs.declared.chars.Char.{Char}
use Rattle.rio_chars.proofs.SpacedLaws.{front_one}
use Rattle.fabric_ports.proofs.OutsidePorts.{taking_begins, taking_more, taking_ends}
use Rattle.fabric_ports.proofs.outside.take_chars.Goals as goal

pub loop-left-init : goal.loop-left-init
loop-left-init g c = record {
  taking = taking_begins c.args.port c.args.end.now c.args.chars.now c.args.replies.now.items
      c.args.writer.now;
  room = c.requires.room;
}

pub loop-left-preserved : goal.loop-left-preserved
loop-left-preserved g c =
    let left = c.loop-left.left.now in
    let first : Char = get_or left 0 _ in
    let rest = take (length left - 1) (drop 1 left) in
    let is = front_one left _ c.in-len1-up.len_at_least in
    let both = ap length is in
    let one : length left ≡ length rest + 1 = omega (arith, both) in
    let room = c.loop-left.invariant.room in
    let few = c.put_reply.ensures.few in
    let same = c.put_reply.ensures.capacity in
    record {
      taking = taking_more first rest c.take_char-reply.result c.loop-left.invariant.taking is
          c.take_char-reply.ensures.state c.take_char-reply.ensures.reply
          c.take_char-reply.ensures.told c.put_reply.ensures.items;
      room = omega (arith, room, few, same, one);
    }

pub returns-clause-state : goal.returns-clause-state
returns-clause-state g c =
    let few : length c.loop-left.left.now ≤ 0 = search rules in
    (taking_ends c.loop-left.invariant.taking few).state

pub returns-clause-replies : goal.returns-clause-replies
returns-clause-replies g c =
    let few : length c.loop-left.left.now ≤ 0 = search rules in
    (taking_ends c.loop-left.invariant.taking few).answered

pub returns-clause-told : goal.returns-clause-told
returns-clause-told g c =
    let few : length c.loop-left.left.now ≤ 0 = search rules in
    (taking_ends c.loop-left.invariant.taking few).told
