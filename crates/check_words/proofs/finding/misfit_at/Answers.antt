use Rattle.std.proofs.Common.{◌+◌, IfSome, length, sym, ◌∙◌, subst, eqb-true}
use Rattle.check_words.specs.Misfits.{IsBadWord}
use Rattle.check_words.proofs.MisfitLaws.{empty_word, misfit_word, too_many}
use Rattle.check_words.proofs.finding.misfit_at.Goals as goal

pub returns-then-is_empty : goal.returns-then-is_empty
returns-then-is_empty c = λ text of_kind there.
    empty_word c.args.set_up.now.known text c.args.word.now (c.args.i + 1)
    (eqb-true (length c.args.word.now) 0 (sym c.is_empty.ensures ∙ c.if-is_empty.true)) there

pub returns-in_default : goal.returns-in_default
returns-in_default c = λ text of_kind there.
    too_many c.args.set_up.now.known text c.args.kind c.args.i c.args.word.now of_kind
    (sym c.part_at.ensures ∙ c.in_default.is) there

pub returns-in-Some-2 : goal.returns-in-Some-2
returns-in-Some-2 c = λ text of_kind there.
    let known = c.args.set_up.now.known in
    misfit_word known text c.args.kind c.args.i c.in-Some.part c.args.word.now
    c.in-Some-2.fault of_kind (sym c.part_at.ensures ∙ c.in-Some.is) there
    (subst (λ f. IfSome f (IsBadWord known c.in-Some.part c.args.word.now)) c.in-Some-2.is
    c.in_ok-fault.ensures)
