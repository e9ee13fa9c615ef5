use Rattle.std.proofs.Common.{◌++◌, List, ℕ, map, sym, ◌∙◌, ap}
use Rattle.std.proofs.lemmas.List.{append-nil}
use Rattle.rio_chars.specs.CharText.{char_text_of}
use Rattle.fabric_script.specs.Words.{words_left}
use Rattle.trace_lines.proofs.FieldLaws.{no_chars}
use Rattle.trace_lines.proofs.ReadLaws.{bytes_more, some_chars, texts_more}
use Rattle.trace_lines.proofs.fields.read_chars.Goals as goal

pub loop-left-preserved : goal.loop-left-preserved
loop-left-preserved c =
    let before = c.loop-left.invariant in
    let old = c.loop-left.chars.items in
    let new = c.push.new.self.items in
    let found = c.in_ok-found.found in
    let char = c.in_ok-found.ensures.char in
    let all = c.in_ok-push.ensures.items in
    record {
      texts = texts_more old new found c.split_word.result.0.now (words_left c.split_word.result.1)
          _
          (ap (λ (l : List (List ℕ)). map char_text_of old ++ l)
          (sym c.split_word.ensures ∙ sym (ap words_left c.in-Some.is)) ∙ before.texts) char.1 all;
      bytes = bytes_more old new found before.bytes char.0 all;
    }

pub returns-in_err-found-clause-none : goal.returns-in_err-found-clause-none
returns-in_err-found-clause-none c = λ is.
    let old = c.loop-left.chars.items in
    no_chars old c.split_word.result.0.now (words_left c.split_word.result.1) _
    c.in_err-found.ensures.none
    (ap (λ (l : List (List ℕ)). map char_text_of old ++ l)
    (sym c.split_word.ensures ∙ sym (ap words_left c.in-Some.is)) ∙ c.loop-left.invariant.texts)

pub returns-clause-words : goal.returns-clause-words
returns-clause-words c =
    let old = c.loop-left.chars.items in
    sym c.loop-left.invariant.texts
    ∙ ap (λ left. map char_text_of old ++ words_left left) c.in_default.is
    ∙ append-nil (map char_text_of old)

pub returns-clause-some : goal.returns-clause-some
returns-clause-some c =
    let old = c.loop-left.chars.items in
    some_chars c.args.text.now old (sym c.loop-left.invariant.texts
    ∙ ap (λ left. map char_text_of old ++ words_left left) c.in_default.is
    ∙ append-nil (map char_text_of old))
