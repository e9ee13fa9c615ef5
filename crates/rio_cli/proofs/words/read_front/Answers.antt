use Rattle.std.proofs.Common.{◌≡◌, ◌++◌, ◌∷◌, [], get_or, sym, ap, ◌∙◌, append-nil, append_assoc, refl, rules}
use Rattle.rio_chars.specs.CharText.{char_text_of}
use Rattle.rio_cli.proofs.WordLaws.{AreTexts-append, words-turn}
use Rattle.rio_cli.proofs.words.read_front.Goals as goal

pub loop-left-init : goal.loop-left-init
loop-left-init c = ([], [], sym (append-nil _), refl, tt)

pub loop-left-preserved : goal.loop-left-preserved
loop-left-preserved c =
    let h = c.loop-left.invariant in
    let read = c.in-Some.read in
    let space : get_or c.loop-left.left.now 3 0 ≡ 32 = search rules in
    let turn =
    words-turn c.loop-left.left.now read c.in-32.len_at_least space c.in-Some.ensures.text in (
      h.0 ++ read ∷ [],
      h.1 ++ char_text_of read ∷ [],
      c.in_ok-push.ensures.items ∙ ap (λ xs. xs ++ read ∷ []) h.2 ∙ append_assoc _ h.0 (read ∷ []),
      h.3 ∙ ap (λ ws. h.1 ++ ws) turn ∙ sym (append_assoc h.1 (char_text_of read ∷ []) _),
      AreTexts-append h.1 (char_text_of read ∷ []) h.0 (read ∷ []) h.4
          (c.in-Some.ensures.byte, refl, tt),
    )
