use Rattle.std.proofs.Common.{◌++◌, [], ◌∷◌, refl, sym, subst}
use Rattle.trace_check.specs.Taken.{AreTaken}
use Rattle.trace_check.proofs.NetworkLaws.{if_ok_map}
use Rattle.trace_check.proofs.TakeLaws.{no_look}
use Rattle.trace_check.proofs.checker.Checker.take_line.Goals as goal

pub returns-in-Begun-clause-taken : goal.returns-in-Begun-clause-taken
returns-in-Begun-clause-taken c = rw c.in-Begun.is (λ texts text spelled are. record {
  front = texts;
  text = text;
  split = refl;
  spelled = spelled;
  goes = c.requires.going;
  read = are;
})

pub returns-in_default-clause-taken : goal.returns-in_default-clause-taken
returns-in_default-clause-taken c =
    if_ok_map c.check.result c.check.ensures.read (λ _ reads texts text spelled are.
    subst (λ w.
    AreTaken c.args.self.now.set_up c.check.new.self.reader (texts ++ text ∷ []) w)
    (sym c.check.ensures.kept.2)
    (λ rest. reads texts rest text spelled (no_look c.args.line rest c.in_default.not-Begun)
    (are rest)))

pub returns-in_default-clause-hit : goal.returns-in_default-clause-hit
returns-in_default-clause-hit c = λ hit told.
    let hits = c.check.ensures.hit hit told in (
      hits.0,
      λ texts text spelled are rest. hits.1 texts rest text spelled
          (no_look c.args.line rest c.in_default.not-Begun) (are rest),
    )

pub returns-in_default-clause-told : goal.returns-in_default-clause-told
returns-in_default-clause-told c = λ hit told texts text spelled are rest.
    c.check.ensures.told hit told texts rest text spelled (are rest)
