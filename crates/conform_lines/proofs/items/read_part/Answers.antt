use Rattle.std.proofs.Common.{◌<◌, ◌^◌, inl, inr, ◌∷◌, length, refl, ap, sym, ◌∙◌, subst, rules, arith}
use Rattle.fabric_script.specs.Words.{words_left}
use Rattle.conform_lines.specs.Items.{SpellsLinkBytes}
use Rattle.conform_lines.proofs.ItemLaws.{first_same, no_part, part_ends, part_within, rest_same}
use Rattle.conform_lines.proofs.items.read_part.Goals as goal

pub returns-in_default-read_number : goal.returns-in_default-read_number
returns-in_default-read_number c =
    let words = words_left c.args.words in
    let here = ap words_left c.in-Some.is ∙ c.split_word.ensures in
    no_part _ words refl (λ part h.
    c.in_default-read_number.ensures h.from (omega (arith, (part_ends words part h).0))
    (first_same here h.words_are))

pub returns-in_default-read_number-2 : goal.returns-in_default-read_number-2
returns-in_default-read_number-2 c =
    let words = words_left c.args.words in
    let here = ap words_left c.in-Some.is ∙ c.split_word.ensures in
    let next = ap words_left c.in-Some-rest.is ∙ c.split_word-2.ensures in
    no_part _ words refl (λ part h.
    c.in_default-read_number-2.ensures h.to (omega (arith, (part_ends words part h).1))
    (first_same next (rest_same here h.words_are)))

pub returns-in_default-2 : goal.returns-in_default-2
returns-in_default-2 c =
    let words = words_left c.args.words in
    let here = ap words_left c.in-Some.is ∙ c.split_word.ensures in
    let next = ap words_left c.in-Some-rest.is ∙ c.split_word-2.ensures in
    let none = rw c.in_default-2.is at c.in_ok-bytes.ensures in
    no_part _ words refl (λ part h.
    none h.bytes
    (subst (λ ws. SpellsLinkBytes ws h.bytes) (sym (rest_same next (rest_same here h.words_are)))
    h.spells))

pub returns-in_default-get : goal.returns-in_default-get
returns-in_default-get c =
    let words = words_left c.args.words in
    let first = c.split_word.result.0.now in
    let last = c.split_word-2.result in
    let is = ap words_left c.in-Some.is ∙ c.split_word.ensures
    ∙ ap (λ ws. first ∷ ws) (ap words_left c.in-Some-rest.is ∙ c.split_word-2.ensures) in
    let from_fits : c.in-Some-read_number.from < 2 ^ 32 = search rules in
    let to_fits : c.in-Some-read_number-2.to < 2 ^ 32 = search rules in
    no_part _ words refl (λ part h.
    let within = part_within words (words_left last.1) first last.0.now part
    c.in-Some-2.bytes.items c.in-Some-read_number.from c.in-Some-read_number-2.to is
    c.in-Some-read_number.ensures c.in-Some-read_number-2.ensures from_fits to_fits
    (rw c.in-Some-2.is at c.in_ok-bytes.ensures) h in
    elim c.in_default-get.ensures.lookup.0 [
      | inl low ↦ omega (arith, low, within.0)
      | inr long ↦ omega (arith, long, within.1, ap length c.as_slice.ensures.value)
    ])
