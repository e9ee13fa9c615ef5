-- Numbers of characters are written one after another.
use Rattle.std.proofs.Common.{◌≡◌, ℕ, ◌+◌, ◌<◌, ◌≤◌, List, [], ◌∷◌, ◌++◌, length, get_or, slice_set, map, take, drop, sym, ap, ◌∙◌, append_assoc, add-one, arith, drop-cons}
use Rattle.std.proofs.lemmas.Grind.{common_steps}
use Rattle.std.proofs.lemmas.List.{map_more, set_at}
use Rattle.rio_chars.specs.declared.chars.Char.{Char}
use Rattle.library_calls.specs.Wires.{char_wire}

-- a number more is written behind those before it
pub wires-more : (chars : List Char) (room old : List ℕ) (i v : ℕ) (d : Char)
    → i < length chars → length chars ≤ length old
    → room ≡ map char_wire (take i chars) ++ drop i old → v ≡ char_wire (get_or chars i d)
    → slice_set room i v ≡ map char_wire (take (i + 1) chars) ++ drop (i + 1) old
wires-more chars room old i v d within few is e =
    let front = map char_wire (take i chars) in
    let size : length front ≡ i = grind (arith, common_steps) in
    let some : i < length old = omega arith in
    let behind : drop i old ≡ get_or old i 0 ∷ drop (i + 1) old =
    rw (add-one, drop-cons old i 0) in
    ap (λ (r : List ℕ). slice_set r i v) (is ∙ ap (λ (r : List ℕ). front ++ r) behind)
    ∙ set_at front (get_or old i 0) (drop (i + 1) old) v i size
    ∙ sym (append_assoc front (v ∷ []) (drop (i + 1) old))
    ∙ ap (λ (w : ℕ). (front ++ w ∷ []) ++ drop (i + 1) old) e
    ∙ ap (λ (r : List ℕ). r ++ drop (i + 1) old) (sym (map_more char_wire chars i d within))
