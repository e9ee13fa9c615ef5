use Rattle.std.proofs.Common.{◌+◌, sym, ap, ◌∙◌}
use Rattle.fabric_script.specs.Lines.{words_of}
use Rattle.fabric_script.specs.Words.{first_word, words_left}
use Rattle.check_words.proofs.KindLaws.{no_line_begins}
use Rattle.check_words.proofs.MisfitLaws.{all_taken, behind_first, next_behind, next_there}
use Rattle.check_words.proofs.finding.misfit_in.Goals as goal

pub returns-in_default : goal.returns-in_default
returns-in_default c = λ names line same.
    no_line_begins c.split_word.result.0.now c.in_default.ensures names line
    (same ∙ ap first_word c.split_word.ensures)

pub loop-i-init : goal.loop-i-init
loop-i-init c =
    behind_first (words_of c.args.text.now) c.split_word.result.0.now
    (words_left c.split_word.result.1) c.split_word.ensures

pub returns-in_default-left : goal.returns-in_default-left
returns-in_default-left c =
    let words = words_of c.args.text.now in
    c.end_at.ensures c.args.set_up.now.known c.args.text.now
    (c.in-Some.ensures ∙ sym (ap first_word c.split_word.ensures))
    (all_taken words (c.loop-i.i + 1) (words_left c.loop-i.left) c.loop-i.invariant
    (ap words_left c.in_default-left.is))

pub returns-then-ne : goal.returns-then-ne
returns-then-ne c =
    let words = words_of c.args.text.now in
    c.in_ok-found.ensures c.args.text.now
    (c.in-Some.ensures ∙ sym (ap first_word c.split_word.ensures))
    (next_there words (c.loop-i.i + 1) (words_left c.loop-i.left)
    c.split_word-in-loop-i.result.0.now (words_left c.split_word-in-loop-i.result.1)
    c.loop-i.invariant (ap words_left c.in-Some-left.is ∙ c.split_word-in-loop-i.ensures))

pub loop-i-preserved : goal.loop-i-preserved
loop-i-preserved c =
    let words = words_of c.args.text.now in
    next_behind words (c.loop-i.i + 1) (words_left c.loop-i.left)
    c.split_word-in-loop-i.result.0.now (words_left c.split_word-in-loop-i.result.1)
    c.loop-i.invariant (ap words_left c.in-Some-left.is ∙ c.split_word-in-loop-i.ensures)
