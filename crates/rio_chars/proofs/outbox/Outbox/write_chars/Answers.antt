use Rattle.std.proofs.Common.{◌≡◌, ◌≤◌, ◌-◌, ℕ, [], ◌∷◌, ◌++◌, List, length, get_or, take, drop, refl, sym, ap, subst, ◌∙◌, append_assoc, append-nil, take-append-drop, arith}
use Rattle.std.proofs.lemmas.List.{take_rest}
use Rattle.rio_chars.specs.CharText.{char_text_of, spaced_chars}
use Rattle.rio_chars.specs.Written.{Outgoing, Writes}
use Rattle.rio_chars.specs.declared.chars.Char.{Char}
use Rattle.rio_chars.proofs.SpacedLaws.{spaced_chars-append, spaced_chars-one, front_one}
use Rattle.rio_chars.proofs.WrittenLaws.{Writes-nil, Writes-then}
use Rattle.rio_chars.proofs.outbox.Outbox.write_chars.Goals as goal

-- one character more was told, at the front of those that are left
one_told : {a b c : Outgoing} {text : List ℕ} (done chars left : List Char) (d : Char)
    → chars ≡ done ++ left
    → 1 ≤ length left
    → Writes a b (spaced_chars done) → text ≡ 32 ∷ char_text_of (get_or left 0 d)
    → Writes b c text
    → (more : List Char) × (chars ≡ more ++ take (length left - 1) (drop 1 left))
    × Writes a c (spaced_chars more)
one_told {a} {b} {c} {text} done chars left d e some told is more =
    let first : Char = get_or left 0 d in
    let here = subst (Writes b c) (is ∙ sym (spaced_chars-one first)) more in (
      done ++ first ∷ [],
      e
          ∙ ap (λ l. done ++ l) (front_one left d some)
          ∙ sym (append_assoc done (first ∷ []) (take (length left - 1) (drop 1 left))),
      rw (spaced_chars-append done (first ∷ []))
          (Writes-then (spaced_chars done) (spaced_chars (first ∷ [])) told here),
    )

pub loop-left-init : goal.loop-left-init
loop-left-init g c = ([], refl, Writes-nil c.args.self.now)

pub loop-left-preserved-then-count-gt0 : goal.loop-left-preserved-then-count-gt0
loop-left-preserved-then-count-gt0 g c =
    let h = c.loop-left.invariant in
    let left = c.loop-left.left.now in
    let run = c.write_data-count.result in
    let Whole : List Char → Type 0 =
    λ done. Writes c.args.self.now c.write_data-count.new.self
    (spaced_chars done) in (
      h.0 ++ take run left,
      h.1
          ∙ ap (λ l. h.0 ++ l) (sym (take-append-drop run left))
          ∙ sym (append_assoc h.0 (take run left) (drop run left))
          ∙ ap (λ l. h.0 ++ take run left ++ l) (sym (take_rest left run)),
      rw (spaced_chars-append h.0 (take run left))
          (Writes-then (spaced_chars h.0) (spaced_chars (take run left)) h.2
          c.write_data-count.ensures.text),
    )

pub loop-left-preserved : goal.loop-left-preserved
loop-left-preserved g c =
    let h = c.loop-left.invariant in
    let none : c.write_data-count.result ≡ 0 = omega (arith, c.if-count-gt0.false) in
    let nothing =
    subst (λ n. Writes c.loop-left.self
    c.write_data-count.new.self (spaced_chars (take n c.loop-left.left.now))) none
    c.write_data-count.ensures.text in
    let told =
    subst (Writes c.args.self.now c.write_data-count.new.self)
    (append-nil (spaced_chars h.0))
    (Writes-then (spaced_chars h.0) [] h.2 nothing) in
    one_told h.0 c.args.chars.now c.loop-left.left.now _ h.1 c.in-len1-up.len_at_least told
    c.spaced_char.ensures c.write_short.ensures
