use Rattle.std.proofs.Common.{◌≡◌, ◌+◌, ◌<◌, ◌≤◌, ◌∷◌, [], ap, length, length-append, length-take-le, refl, rules, arith}
use Rattle.fabric_script.specs.SetUps.{SetUpLines}
use Rattle.live_lines.specs.Lines.{with_feed}
use Rattle.live_fabric.specs.Answers.{bytes_with}
use Rattle.live_fabric.proofs.AddedLaws.{held_set_up, takes_added}
use Rattle.live_fabric.proofs.live.Live.take_set_up.Goals as goal

pub invariant_of-self-then-is_some : goal.invariant_of-self-then-is_some
invariant_of-self-then-is_some c =
    let few = c.args.self.now.few in
    let same : c.read_added.new.set_up ≡ c.args.self.now.set_up = search rules in
    let links = ap (λ (s : SetUpLines). length s.known.links) same in
    let grows = c.in_ok-add.ensures.grows in
    let cut = ap length c.cut_back.ensures.bytes in
    let long = length-take-le c.len-before.result c.add.new.self.bytes.items
    (omega (arith, grows, c.len-before.ensures)) in
    record { few = omega (arith, few, links, cut, long, c.len-before.ensures) }

pub returns-else-is_some : goal.returns-else-is_some
returns-else-is_some c = λ taken holds.
    let old = c.args.self.now in
    let line = c.args.line.now in
    let room : length old.text.bytes.items + length line < 16777216 = search rules in
    let parts = length-append old.text.bytes.items (with_feed line) in
    let feed = length-append line (10 ∷ []) in
    let within : length (bytes_with old line) ≤ 16777216 = omega (arith, room, parts, feed) in
    let bytes = c.in_ok-add.ensures.bytes in
    let count = c.in_ok-add.ensures.count in
    takes_added old _ line taken c.in_ok-reason.reason holds (search rules) within bytes count
    (c.in_ok-reason.ensures.read old.text.bytes.items (held_set_up old taken holds)
    (search rules) bytes (search rules))
    refl refl
