use Rattle.std.proofs.Common.{◌≡◌, ◌≢◌, [], ◌+◌, sym, subst, ap, rules, arith, length}
use Rattle.fabric_script.specs.Lines.{words_of}
use Rattle.fabric_script.proofs.AdviceLaws.{IsBehind, behind_none, behind_word, misspelled_at, some_left}
use Rattle.fabric_script.proofs.advice.advise_word.Goals as goal

pub loop-i-init : goal.loop-i-init
loop-i-init c =
    let all = words_of c.args.text.now in
    let same : c.new-words.result.words ≡ all = ap (λ left. left.words) c.new-words.ensures in
    let some : c.new-words.result.words ≢ [] = λ none.
    let zero : length c.new-words.result.words ≡ 0 = ap length none in
    let long : length c.new-words.result.words ≡ length all = ap length same in
    omega (arith, zero, long, c.requires.count) in
    subst (λ left. IsBehind all 1 left.words) (sym c.word.ensures.rest)
    (behind_word all 0 c.new-words.result some
    (subst (IsBehind all 0) (sym same) (behind_none all)))

pub returns-then-not-is_spelled : goal.returns-then-not-is_spelled
returns-then-not-is_spelled c =
    misspelled_at c.args.text.now c.args.form c.fields-field-items.result.now c.loop-i.i
    c.loop-i.words.words c.word-in-loop-i.result.now c.kind-kind.result c.requires.form c.requires.count
    c.fields-field-items.ensures.fields c.loop-i-test.true c.loop-i.invariant
    c.word-in-loop-i.ensures.word c.kind-kind.ensures (c.is_spelled.ensures (search rules))

pub loop-i-preserved : goal.loop-i-preserved
loop-i-preserved c =
    subst (λ left. IsBehind (words_of c.args.text.now) (c.loop-i.i + 1 + 1) left.words)
    (sym c.word-in-loop-i.ensures.rest)
    (behind_word (words_of c.args.text.now) (c.loop-i.i + 1) c.loop-i.words
    (some_left c.args.text.now c.args.form c.fields-field-items.result.now c.loop-i.i
    c.loop-i.words.words c.requires.count c.fields-field-items.ensures.fields c.loop-i-test.true
    c.loop-i.invariant) c.loop-i.invariant)
