-- Data characters in front of others, whose bytes are copied.
use Rattle.std.proofs.Common.{◌≡◌, ℕ, zero, suc, ◌<◌, List, [], ◌∷◌, ◌++◌, length, ◌≤◌, ◌+◌, ◌-◌, take, drop, get_or, sym, ap, ◌∙◌, arith, take-append-drop}
use Rattle.std.proofs.lemmas.List.{map-append}
use Rattle.std.proofs.Math.Seq.{take-add}
use Rattle.std.proofs.lemmas.Slice.{take-put_mid}
use borrow.Rule.Slice.PartMut.{put_mid}
use Rattle.link_model.specs.Prelude.{Char, Data, data_chars}
use Rattle.rio_framer.specs.Parts.{StartsWithData}

pub copied-all : (bytes : List ℕ) (chars : List Char) (n : ℕ)
    → data_chars (take n bytes) ≡ take n chars
    → chars ≡ data_chars (take n bytes) ++ drop n chars
copied-all bytes chars n is =
    sym (take-append-drop n chars) ∙ ap (λ (cs : List Char). cs ++ drop n chars) (sym is)

-- the first is data
pub data-first : (n : ℕ) (chars : List Char) (d : Char) → 0 < n → StartsWithData n chars
    → (byte : ℕ) × (get_or chars 0 d ≡ Data byte)
data-first n chars d some starts =
    first starts.bytes (drop n chars) chars (omega (arith, starts.many)) starts.is
  where
    first : (xs : List ℕ) (rest chars : List Char) → 0 < length xs → chars ≡ data_chars xs ++ rest
        → (byte : ℕ) × (get_or chars 0 d ≡ Data byte)
    first [] rest chars h is = absurd (omega arith)
    first (x ∷ xs) rest chars h is = (x, ap (λ (cs : List Char). get_or cs 0 d) is)

-- so one is copied, where the copy stops at what is no data
pub some-copied : (i : ℕ) (chars : List Char) (d : Char) → StartsWithData 8 chars
    → ((byte : ℕ) → get_or chars i d ≡ Data byte → ⊥) → 0 < i
some-copied zero chars d starts stops =
    let first = data-first 8 chars d (omega arith) starts in absurd (stops first.0 first.1)
some-copied (suc i) chars d starts stops = omega arith

-- a block more is copied
pub copied-block : (bytes block : List ℕ) (chars : List Char) (i j : ℕ) → i ≤ j → i ≤ length bytes
    → length block ≡ j - i → data_chars (take i bytes) ≡ take i chars
    → data_chars block ≡ take (j - i) (drop i chars)
    → data_chars (take j (put_mid i (j - i) bytes block)) ≡ take j chars
copied-block bytes block chars i j order within size so_far is =
    let whole : i + (j - i) ≡ j = omega arith in
    ap data_chars (take-put_mid i (j - i) bytes block j (omega (arith, size)) within)
    ∙ map-append (λ (byte : ℕ). Data byte) (take i bytes) block
    ∙ ap (λ (cs : List Char). cs ++ data_chars block) so_far
    ∙ ap (λ (cs : List Char). take i chars ++ cs) is
    ∙ sym (take-add i (j - i) chars) ∙ ap (λ (n : ℕ). take n chars) whole
