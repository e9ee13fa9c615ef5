use Rattle.std.proofs.Common.{◌+◌, sym, subst, rules}
use Rattle.fabric_script.specs.Lines.{words_of}
use Rattle.fabric_script.proofs.AdviceLaws.{IsBehind, behind_word}
use Rattle.fabric_script.proofs.advice.has_words.Goals as goal

pub loop-preserved : goal.loop-preserved
loop-preserved c =
    subst (λ left. IsBehind (words_of c.args.text.now) (c.loop.counter + 1) left.words)
    (sym c.word.ensures.rest)
    (behind_word (words_of c.args.text.now) c.loop.counter c.loop.words
    (λ none. search (rules, c.is_done.ensures)) c.loop.invariant)
