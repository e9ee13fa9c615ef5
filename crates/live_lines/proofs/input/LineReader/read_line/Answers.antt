use Rattle.std.proofs.Common.{◌≡◌, ◌≢◌, length, length-append, ◌∙◌, arith}
use Rattle.std.proofs.lemmas.List.Elements.{All-append}
use Rattle.live_lines.proofs.InputLaws.{taken_more, line_longer, line_whole, some_bytes, all_taken, long_line}
use Rattle.live_lines.proofs.input.LineReader.read_line.Goals as goal

pub returns-then-not-branch-clause-stops : goal.returns-then-not-branch-clause-stops
returns-then-not-branch-clause-stops g c =
    let h = c.loop-self.invariant in
    let more = taken_more _ _ _ c.args.self.now c.loop-self.line.items c.loop-self.self
    c.has_more.new.self h.read c.in_ok-has_more.ensures.read in
    let none = c.in_ok-has_more.ensures.none c.if-not-branch.true in (
      more.0,
      more.1,
      (
        none.0,
        all_taken _ c.loop-self.line.items c.has_more.new.self more.2 none.1
            h.no_feed,
        c.in_ok-has_more.ensures.counts ∙ h.counts,
      ),
    )

pub returns-in_default-clause-stops : goal.returns-in_default-clause-stops
returns-in_default-clause-stops g c =
    let h = c.loop-self.invariant in
    let more = taken_more (g.S.Source.left c.args.source.now) (g.S.Source.left c.loop-self.source)
    (g.S.Source.left c.has_more.new.source) c.args.self.now c.loop-self.line.items
    c.loop-self.self c.has_more.new.self h.read c.in_ok-has_more.ensures.read in (
      more.0,
      more.1,
      (
        c.in_ok-has_more.ensures.counts ∙ h.counts,
        some_bytes _ c.loop-self.line.items c.has_more.new.self more.2
            (c.in_ok-has_more.ensures.more c.if-not-branch.false),
      ),
    )

pub returns-then-has_feed-clause-line : goal.returns-then-has_feed-clause-line
returns-then-has_feed-clause-line g c =
    let h = c.loop-self.invariant in
    let piece = c.in-Ok.ensures.feed c.if-has_feed.true in
    record {
      no_feed = rw piece.3 (All-append (λ byte. byte ≢ 10) c.loop-self.line.items piece.0
          h.no_feed piece.1);
      within = rw piece.3 (omega (arith, piece.2, length-append c.loop-self.line.items piece.0));
    }

pub returns-then-has_feed-clause-read : goal.returns-then-has_feed-clause-read
returns-then-has_feed-clause-read g c =
    let h = c.loop-self.invariant in
    let more = taken_more _ _ _ c.args.self.now c.loop-self.line.items c.loop-self.self
    c.has_more.new.self h.read c.in_ok-has_more.ensures.read in
    let piece = c.in-Ok.ensures.feed c.if-has_feed.true in (
      more.0,
      more.1,
      line_whole _ c.loop-self.line.items c.has_more.new.self piece.0
          c.take_piece.new.self c.take_piece.new.line.items more.2 piece.4 piece.3,
    )

pub loop-self-preserved : goal.loop-self-preserved
loop-self-preserved g c =
    let h = c.loop-self.invariant in
    let more = taken_more (g.S.Source.left c.args.source.now) (g.S.Source.left c.loop-self.source)
    (g.S.Source.left c.has_more.new.source) c.args.self.now c.loop-self.line.items
    c.loop-self.self c.has_more.new.self h.read c.in_ok-has_more.ensures.read in
    let piece = c.in-Ok.ensures.none c.if-has_feed.false in
    record {
      read = (
        more.0,
        more.1,
        line_longer _ c.loop-self.line.items c.has_more.new.self piece.0
            c.take_piece.new.self c.take_piece.new.line.items more.2 piece.4 piece.3,
      );
      no_feed = rw piece.3 (All-append (λ byte. byte ≢ 10) c.loop-self.line.items piece.0
          h.no_feed piece.1);
      within = rw piece.3 (omega (
        arith,
        h.within,
        piece.2,
        length-append c.loop-self.line.items piece.0,
      ));
      counts = c.in_ok-has_more.ensures.counts ∙ h.counts;
    }

pub returns-clause-stops : goal.returns-clause-stops
returns-clause-stops g c =
    let h = c.loop-self.invariant in
    let just : length c.loop-self.line.items ≡ 4194305 = omega (arith, h.within) in
    let long =
    long_line c.args.self.now h.read.0 c.loop-self.line.items c.loop-self.self h.read.2 h.no_feed
    just in
    (h.read.0, h.read.1, (long.0, long.1, h.counts))
