use Rattle.std.proofs.Common.{◌≡◌, ◌∷◌, [], ◌++◌, ◌+◌, ◌≤◌, ap, length, length-append, rules, arith}
use Rattle.live_fabric.proofs.AddedLaws.{few_pieces}
use Rattle.live_fabric.proofs.set_up_text.SetUpText.add.Goals as goal

pub overflow_cast-self : goal.overflow_cast-self
overflow_cast-self c =
    let few = few_pieces c.args.line.now in
    let small : c.piece_count.result ≤ 16777217 =
    omega (arith, few, c.piece_count.ensures, c.requires) in
    search rules

pub overflow_add-self : goal.overflow_add-self
overflow_add-self c =
    let few = few_pieces c.args.line.now in
    let before = c.args.self.now.each_has_a_feed in
    let small : c.args.self.now.count + c.piece_count.result ≤ 33554434 =
    omega (arith, few, before, c.piece_count.ensures, c.requires) in
    search rules

pub invariant_of-self-2 : goal.invariant_of-self-2
invariant_of-self-2 c =
    let few = few_pieces c.args.line.now in
    let before = c.args.self.now.each_has_a_feed in
    let first : c.extend_from_slice.new.self.items ≡ c.args.self.now.bytes.items
    ++ c.args.line.now = search rules in
    let second : c.push.new.self.items ≡ c.extend_from_slice.new.self.items ++ 10 ∷ [] =
    search rules in
    let long = ap length first in
    let longer = ap length second in
    let parts = length-append c.args.self.now.bytes.items c.args.line.now in
    let more = length-append c.extend_from_slice.new.self.items (10 ∷ []) in
    record {
      each_has_a_feed =
          omega (arith, few, before, long, longer, parts, more, c.piece_count.ensures);
    }
