use Rattle.std.proofs.Common.{sym, ◌∙◌, arith}
use Rattle.std.proofs.lemmas.Bool.{ltb-true, ltb-false}
use Rattle.live_lines.proofs.PieceLaws.{left_some, left_none}
use Rattle.live_lines.proofs.input.LineReader.has_more.Goals as goal
use Rattle.live_lines.proofs.input.LineReader.has_more.Goals.{then-self+in_ok-fill, else-self}

pub returns-clause-more : goal.returns-clause-more
returns-clause-more g c = λ more none.
    let s = c.self-2 in
    left_some s.inside.bytes.items s.inside.begin s.inside.end
    (omega (arith, s.invariant.0, s.invariant.2)) (ltb-true _ _ more) (s.view_is ∙ none)

pub returns-clause-none : goal.returns-clause-none
returns-clause-none g c = λ more.
    let s = c.self-2 in
    let none = sym s.view_is ∙ left_none s.inside.bytes.items s.inside.begin s.inside.end
    (omega (arith, s.invariant.0, s.invariant.2)) (ltb-false _ _ more) in (
      elim c.if-self.branch [
        | then-self+in_ok-fill w ↦ rw w.source-is (w.in_ok-fill.ensures.end (sym w.self-is ∙ none))
        | else-self w ↦ absurd (left_some c.self.inside.bytes.items c.self.inside.begin
            c.self.inside.end (omega (arith, c.self.invariant.0, c.self.invariant.2))
            (omega (arith, w.if-self, c.self.invariant.1)) (c.self.view_is ∙ sym w.self-is ∙ none))
      ],
      none,
    )
