use Rattle.std.proofs.Common.{◌≡◌, ◌<◌, ◌-◌, suc, [], length, take, ap, sym, ◌∙◌, subst, arith, rules}
use Rattle.std.specs.Io.KnownBytes.{Consumes}
use Rattle.live_lines.specs.Feeds.{inside_after}
use Rattle.live_lines.proofs.FeedLaws.{nil_inside, inside_front, read_on, end_stays, feed_read, first_set}
use Rattle.live_lines.proofs.feed_at_end.FeedAtEndSource.read.Goals as goal
use Rattle.live_lines.proofs.feed_at_end.FeedAtEndSource.read.Goals.{then-not-self-via-then-not-self, then-not-self-via-else-not-self+then-is_empty}

pub returns-then-count-gt0-clause-bytes : goal.returns-then-count-gt0-clause-bytes
returns-then-count-gt0-clause-bytes g c =
    let count = c.in_ok-count.count in
    let piece = c.read.new.piece in
    let up : suc (count - 1) ≡ count = omega arith in
    let within : count - 1 < length piece = search rules in
    let last = inside_front c.args.self.now.inside piece (count - 1) within in (
      read_on c.args.self.now.inside _ (g.S.Source.left c.args.self.now.source)
          (g.S.Source.left c.read.new.self) (take count piece) c.in_ok-count.ensures.bytes.0
          (ap (λ n. inside_after c.args.self.now.inside (take n piece)) (sym up) ∙ last),
      λ none. absurd (omega arith),
    )

pub returns-then-not-self-clause-bytes : goal.returns-then-not-self-clause-bytes
returns-then-not-self-clause-bytes g c =
    let count = c.in_ok-count.count in
    let none : count ≡ 0 = omega arith in
    let inside = c.args.self.now.inside in
    let new = g.S.Source.left c.read.new.self in
    let nothing = subst (λ n. Consumes (g.S.Source.left c.args.self.now.source) new
    (take n c.read.new.piece)) none c.in_ok-count.ensures.bytes.0 in (
      read_on inside inside (g.S.Source.left c.args.self.now.source) new [] nothing
          (nil_inside inside),
      λ zero some. elim c.then-not-self.branch [
        | then-not-self-via-then-not-self w ↦
            rw w.if-not-self.true (end_stays new (c.in_ok-count.ensures.bytes.1 none some))
        | then-not-self-via-else-not-self+then-is_empty w ↦
            absurd (grind (arith, w.is_empty.ensures, w.if-is_empty.true))
      ],
    )

pub returns-clause-bytes : goal.returns-clause-bytes
returns-clause-bytes g c =
    let count = c.in_ok-count.count in
    let none : count ≡ 0 = omega arith in
    let new = g.S.Source.left c.read.new.self in
    let old = g.S.Source.left c.args.self.now.source in
    let some : 0 < length c.read.new.piece =
    grind (arith, c.is_empty.ensures, c.if-is_empty.false) in
    let nothing = subst (λ n. Consumes old new (take n c.read.new.piece)) none
    c.in_ok-count.ensures.bytes.0 in
    let fed = feed_read old new nothing (c.in_ok-count.ensures.bytes.1 none some) in (
      rw (c.if-not-self.false, first_set c.read.new.piece some) fed,
      λ one. absurd (omega arith),
    )
