use Rattle.std.proofs.Common.{◌++◌, take, subst, ap, ◌∙◌, arith}
use Rattle.std.proofs.lemmas.Bool.{ltb-true, ltb-false}
use Rattle.live_lines.specs.Lines.{HasNoFeed}
use Rattle.live_lines.proofs.PieceLaws.{piece_is, split_feed, split_none}
use Rattle.live_lines.proofs.input.LineReader.take_piece.Goals as goal

pub returns-clause-feed : goal.returns-clause-feed
returns-clause-feed c = λ has_feed.
    let n = c.before_feed-count.result in
    let piece = piece_is _ _ _ _ _ c.min.result n c.deref.ensures.value c.self.view_is
    c.self.invariant (omega (arith, c.min.ensures)) c.before_feed-count.ensures.within in
    let less = ltb-true _ _ has_feed in (
      take n c.args.self.now,
      subst HasNoFeed piece.front c.before_feed-count.ensures.no_feed,
      omega (arith, piece.long, less, piece.all, c.min.ensures),
      c.in_ok-extend_from_slice.ensures.items
          ∙ ap (λ l. c.args.line.now.items ++ l) piece.front,
      split_feed _ _ _ _ _ c.min.result n c.from.result c.deref.ensures.value c.self.view_is
          piece.within piece.inside (omega (arith, less, piece.all))
          (c.before_feed-count.ensures.feed less) (rw has_feed at c.from.ensures),
    )

pub returns-clause-none : goal.returns-clause-none
returns-clause-none c = λ has_feed.
    let n = c.before_feed-count.result in
    let piece = piece_is _ _ _ _ _ c.min.result n c.deref.ensures.value c.self.view_is
    c.self.invariant (omega (arith, c.min.ensures)) c.before_feed-count.ensures.within in
    let all = ltb-false _ _ has_feed in (
      take n c.args.self.now,
      subst HasNoFeed piece.front c.before_feed-count.ensures.no_feed,
      omega (arith, piece.long, all, piece.all, piece.few, piece.left, c.min.ensures),
      c.in_ok-extend_from_slice.ensures.items
          ∙ ap (λ l. c.args.line.now.items ++ l) piece.front,
      split_none _ c.args.self.now _ _ n c.from.result c.self.view_is
          (rw has_feed at c.from.ensures),
    )
