use Rattle.std.proofs.Common.{eqb-true, length, ◌∙◌, sym, subst, ◌+◌, rules}
use Rattle.fabric_script.specs.Lines.{words_of}
use Rattle.fabric_script.proofs.AdviceLaws.{IsBehind, behind_word, behind_contains, empty_is}
use Rattle.fabric_script.proofs.advice.has_empty_word.Goals as goal

pub returns-then-is_empty : goal.returns-then-is_empty
returns-then-is_empty c = λ _.
    behind_contains (words_of c.args.text.now) c.loop.counter c.loop.words.words
    (λ none. search (rules, c.is_done.ensures))
    (sym c.word.ensures.word ∙ empty_is c.word.result.now
    (eqb-true (length c.word.result.now) 0 (sym c.is_empty.ensures ∙ c.if-is_empty.true)))
    c.loop.invariant

pub loop-preserved : goal.loop-preserved
loop-preserved c =
    subst (λ left. IsBehind (words_of c.args.text.now) (c.loop.counter + 1) left.words)
    (sym c.word.ensures.rest)
    (behind_word (words_of c.args.text.now) c.loop.counter c.loop.words
    (λ none. search (rules, c.is_done.ensures)) c.loop.invariant)
