use Rattle.std.proofs.Common.{◌++◌, List, ℕ, map, sym, ◌∙◌, ap}
use Rattle.std.proofs.lemmas.List.{append-nil}
use Rattle.rio_chars.specs.CharText.{char_text_of}
use Rattle.fabric_script.specs.Words.{words_left}
use Rattle.trace_lines.proofs.FieldLaws.{no_chars}
use Rattle.trace_lines.proofs.ReadLaws.{bytes_more, texts_more}
use Rattle.outside_lines.proofs.reading.read_chars.Goals as goal

pub loop-left-preserved : goal.loop-left-preserved
loop-left-preserved c =
    let before = c.loop-left.invariant in
    let old = c.loop-left.chars.items in
    let new = c.push.new.self.items in
    let char = c.in-Some-read_char.ensures in
    let all = c.in_ok-push.ensures.items in
    record {
      texts = texts_more old new c.in-Some-read_char.c c.split_word.result.0.now
          (words_left c.split_word.result.1) _
          (ap (λ (l : List (List ℕ)). map char_text_of old ++ l)
          (sym c.split_word.ensures ∙ sym (ap words_left c.in-Some.is)) ∙ before.texts)
          char.text all;
      bytes = bytes_more old new c.in-Some-read_char.c before.bytes char.byte all;
    }

pub returns-in_default-read_char : goal.returns-in_default-read_char
returns-in_default-read_char c =
    let old = c.loop-left.chars.items in
    no_chars old c.split_word.result.0.now (words_left c.split_word.result.1) _
    c.in_default-read_char.ensures.none
    (ap (λ (l : List (List ℕ)). map char_text_of old ++ l)
    (sym c.split_word.ensures ∙ sym (ap words_left c.in-Some.is)) ∙ c.loop-left.invariant.texts)

pub returns : goal.returns
returns c =
    let old = c.loop-left.chars.items in (
      c.loop-left.invariant.bytes,
      sym c.loop-left.invariant.texts
          ∙ ap (λ left. map char_text_of old ++ words_left left) c.in_default.is
          ∙ append-nil (map char_text_of old),
    )
