use Rattle.std.proofs.Common.{IfSome, sym, subst}
use Rattle.check_words.specs.Misfits.{IsBadWord}
use Rattle.check_words.proofs.finding.word_fault.Goals as goal

pub returns-in-Character : goal.returns-in-Character
returns-in-Character c =
    subst (λ p. IfSome c.character_fault.result
    (IsBadWord c.args.set_up.now.known p c.args.word.now)) (sym c.in-Character.is)
    (c.character_fault.ensures c.args.set_up.now.known)

pub returns-in-Number : goal.returns-in-Number
returns-in-Number c =
    subst (λ p. IfSome c.number_fault.result
    (IsBadWord c.args.set_up.now.known p c.args.word.now)) (sym c.in-Number.is)
    (c.number_fault.ensures c.args.set_up.now.known)

pub returns-in-EventKind : goal.returns-in-EventKind
returns-in-EventKind c =
    subst (λ p. IfSome c.event_kind_fault.result
    (IsBadWord c.args.set_up.now.known p c.args.word.now)) (sym c.in-EventKind.is)
    (c.event_kind_fault.ensures c.args.set_up.now.known)
