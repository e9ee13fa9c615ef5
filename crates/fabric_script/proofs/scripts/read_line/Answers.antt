use Rattle.std.proofs.Common.{sym, ap, ◌∙◌, length, refl}
use Rattle.fabric_script.specs.LineWords.{line_saying}
use Rattle.fabric_script.specs.Words.{first_word}
use Rattle.fabric_script.proofs.ReadLaws.{reads_no_form, behind_first, reads_hit, says_made, reads_refused}
use Rattle.fabric_script.proofs.scripts.read_line.Goals as goal

pub returns-in_default : goal.returns-in_default
returns-in_default c =
    let none = c.in_default.ensures in
    let first = c.word.ensures.word ∙ ap (λ l. first_word l.words) c.new-words.ensures in
    reads_no_form c.args.known.now c.args.text.now (λ form e. none form (e ∙ sym first))

pub line_saying-line-requires : goal.line_saying-line-requires
line_saying-line-requires c =
    let behind = behind_first c.args.text.now c.in-Some.form c.word.result.now c.new-words.result
    c.word.new.self c.new-words.ensures c.word.ensures.word c.word.ensures.rest c.in-Some.ensures in
    let made = says_made c.args.known.now c.args.text.now c.in-Some.form c.word.new.self
    c.take_words.new.words c.in_ok-values.values.items c.as_mut_slice.result.now
    (line_saying c.in-Some.form (length c.args.known.now.names) c.as_mut_slice.result.now)
    c.requires.orderly behind c.in_ok-values.ensures
    (sym c.end.ensures ∙ c.in_default-end.is) c.as_mut_slice.ensures.value refl in
    made.0

pub returns-in-Some-end : goal.returns-in-Some-end
returns-in-Some-end c =
    let behind = behind_first c.args.text.now c.in-Some.form c.word.result.now c.new-words.result
    c.word.new.self c.new-words.ensures c.word.ensures.word c.word.ensures.rest c.in-Some.ensures in
    reads_hit c.args.known.now c.args.text.now c.in-Some.form c.word.new.self
    c.take_words.new.words c.in_ok-values.values.items c.in-Some-end.reason c.requires.orderly
    behind c.in_ok-values.ensures (sym c.end.ensures ∙ c.in-Some-end.is)

pub returns-in-Some-refusal : goal.returns-in-Some-refusal
returns-in-Some-refusal c =
    let behind = behind_first c.args.text.now c.in-Some.form c.word.result.now c.new-words.result
    c.word.new.self c.new-words.ensures c.word.ensures.word c.word.ensures.rest c.in-Some.ensures in
    let made = says_made c.args.known.now c.args.text.now c.in-Some.form c.word.new.self
    c.take_words.new.words c.in_ok-values.values.items c.as_mut_slice.result.now
    c.line_saying-line.result c.requires.orderly behind c.in_ok-values.ensures
    (sym c.end.ensures ∙ c.in_default-end.is) c.as_mut_slice.ensures.value c.line_saying-line.ensures in
    let hit = c.in-Some-refusal.ensures in
    reads_refused c.args.known.now c.args.text.now c.line_saying-line.result c.in-Some-refusal.reason
    c.requires.orderly made.1 hit.0 hit.1

pub returns : goal.returns
returns c =
    let behind = behind_first c.args.text.now c.in-Some.form c.word.result.now c.new-words.result
    c.word.new.self c.new-words.ensures c.word.ensures.word c.word.ensures.rest c.in-Some.ensures in
    let made = says_made c.args.known.now c.args.text.now c.in-Some.form c.word.new.self
    c.take_words.new.words c.in_ok-values.values.items c.as_mut_slice.result.now
    c.line_saying-line.result c.requires.orderly behind c.in_ok-values.ensures
    (sym c.end.ensures ∙ c.in_default-end.is) c.as_mut_slice.ensures.value c.line_saying-line.ensures in
    record { says = made.1; free = c.in-None.ensures }
