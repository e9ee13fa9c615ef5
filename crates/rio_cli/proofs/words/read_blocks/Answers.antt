use Rattle.std.proofs.Common.{◌≡◌, ◌++◌, ◌∷◌, [], List, length, sym, ap, subst, ◌∙◌, append-nil, append_assoc, refl, arith}
use Rattle.rio_chars.specs.CharText.{char_text_of}
use Rattle.rio_chars.specs.declared.chars.Char.{Char}
use Rattle.rio_cli.specs.Decoding.{AreTexts}
use Rattle.rio_cli.proofs.WordLaws.{AreTexts-append, words-blank, words-next, no_words}
use Rattle.rio_cli.proofs.words.read_blocks.Goals as goal

pub loop-left-init : goal.loop-left-init
loop-left-init c = ([], refl, subst (λ (cs : List Char). AreTexts [] cs) (sym c.requires) tt)

pub loop-left-preserved-then-parts_words : goal.loop-left-preserved-then-parts_words
loop-left-preserved-then-parts_words c =
    let h = c.loop-left.invariant in
    let next =
    words-blank c.loop-left.left.now c.in-len1-up.len_at_least
    (c.parts_words.ensures c.if-parts_words.true) in
    (h.0, h.1 ∙ ap (λ ws. h.0 ++ ws) next, h.2)

pub loop-left-preserved : goal.loop-left-preserved
loop-left-preserved c =
    let h = c.loop-left.invariant in
    let read = c.in-Some.read in
    let next =
    words-next c.loop-left.left.now read c.in-len4-up.len_at_least
    (c.parts_words-in-len1-up.ensures c.if-not-parts_words.false) c.in-Some.ensures.text in (
      h.0 ++ char_text_of read ∷ [],
      h.1 ∙ ap (λ ws. h.0 ++ ws) next ∙ sym (append_assoc h.0 (char_text_of read ∷ []) _),
      subst (λ (cs : List Char). AreTexts (h.0 ++ char_text_of read ∷ []) cs)
          (sym c.in_ok-push.ensures.items)
          (AreTexts-append h.0 (char_text_of read ∷ []) c.loop-left.chars.items (read ∷ []) h.2
          (c.in-Some.ensures.byte, refl, tt)),
    )

pub returns : goal.returns
returns c = λ is.
    let h = c.loop-left.invariant in
    let left = c.loop-left.left.now in
    let none : length left ≡ 0 = omega (arith, c.in_default.len_below) in
    let all = h.1 ∙ ap (λ ws. h.0 ++ ws) (no_words left none) ∙ append-nil h.0 in
    subst (λ ws. AreTexts ws c.loop-left.chars.items) (sym all) h.2
