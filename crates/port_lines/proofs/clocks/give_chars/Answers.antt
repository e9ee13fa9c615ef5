use Rattle.std.proofs.Common.{◌≡◌, ◌≤◌, ◌+◌, ◌-◌, length, get_or, take, drop, refl, sym, ap, rules, arith}
use Rattle.std.specs.VecDeque.{deque_len, deque_capacity}
use Rattle.rio_chars.specs.declared.chars.Char.{Char}
use Rattle.rio_chars.proofs.SpacedLaws.{front_one}
use Rattle.port_lines.specs.Clocks.{clocked_at, clocks}
use Rattle.port_lines.proofs.ClockLaws.{AreGiven-begin, AreGiven-clock, AreGiven-end, clocks-none, room-left}
use Rattle.port_lines.proofs.clocks.give_chars.Goals as goal

pub loop-left-init : goal.loop-left-init
loop-left-init g c = record {
  given =
      AreGiven-begin (clocks (clocked_at c.args.settings c.args.port.now
      c.args.clocking.now.waiting.items c.args.clocking.now.patience_left) c.args.chars.now)
      c.args.given.now.items c.requires.none refl;
  places = c.requires.places;
  room = let room = c.requires.room in omega (arith, room);
  burst = let room = c.requires.room in omega (arith, room);
}

pub loop-left-preserved : goal.loop-left-preserved
loop-left-preserved g c =
    let left = c.loop-left.left.now in
    let first : Char = get_or left 0 _ in
    let rest = take (length left - 1) (drop 1 left) in
    let is = front_one left _ c.in-len1-up.len_at_least in
    let both = ap length is in
    let one : length left ≡ length rest + 1 = omega (arith, both) in
    let inv = c.loop-left.invariant in
    let places = inv.places in
    let long = c.push_reserved.ensures.len in
    let same = c.push_reserved.ensures.capacity in
    let before = c.loop-left.clocking in
    let after = c.give_char-c.new.clocking in
    let cap = c.give_char-c.ensures.capacity in
    let room = room-left (deque_len before.waiting) (deque_len after.waiting)
    (length left) (length rest) (deque_capacity before.waiting) c.give_char-c.ensures.few
    inv.room inv.burst one in
    let burst = inv.burst in
    record {
      given =
          AreGiven-clock _
          (clocked_at c.args.settings c.loop-left.port before.waiting.items before.patience_left)
          (clocked_at c.args.settings c.give_char-c.new.port after.waiting.items
          after.patience_left)
          left rest c.loop-left.given.items c.push_reserved.new.self.items first
          c.give_char-c.result inv.given is c.give_char-c.ensures.stands
          c.give_char-c.ensures.given c.push_reserved.ensures.items c.give_char-c.ensures.text;
      places = omega (arith, places, long, same, one);
      room = omega (arith, room, cap);
      burst = omega (arith, burst, cap, one);
    }

pub returns-clause-stands : goal.returns-clause-stands
returns-clause-stands g c =
    let few : length c.loop-left.left.now ≤ 0 = search rules in
    let at = clocked_at c.args.settings c.loop-left.port c.loop-left.clocking.waiting.items
    c.loop-left.clocking.patience_left in
    sym (AreGiven-end at c.loop-left.invariant.given
    (clocks-none at c.loop-left.left.now few)).0

pub returns-clause-given : goal.returns-clause-given
returns-clause-given g c =
    let few : length c.loop-left.left.now ≤ 0 = search rules in
    let at = clocked_at c.args.settings c.loop-left.port c.loop-left.clocking.waiting.items
    c.loop-left.clocking.patience_left in
    sym (AreGiven-end at c.loop-left.invariant.given
    (clocks-none at c.loop-left.left.now few)).1

pub returns-clause-text : goal.returns-clause-text
returns-clause-text g c =
    let few : length c.loop-left.left.now ≤ 0 = search rules in
    let at = clocked_at c.args.settings c.loop-left.port c.loop-left.clocking.waiting.items
    c.loop-left.clocking.patience_left in
    (AreGiven-end at c.loop-left.invariant.given
    (clocks-none at c.loop-left.left.now few)).2
