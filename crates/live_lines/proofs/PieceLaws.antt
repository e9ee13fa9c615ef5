-- Pieces of a line: the bytes before a line feed, of those that were read and are left.
use Rattle.std.proofs.Common.{◌≡◌, ℕ, ◌+◌, ◌-◌, ◌<◌, ◌≤◌, List, [], ◌∷◌, ◌++◌, length, take, drop, slice_index, refl, sym, ap, ◌∙◌, subst, append_assoc, arith}
use Rattle.std.specs.List.{between}
use Rattle.std.proofs.lemmas.List.{take-append-drop, take-take, drop-drop, drop_more, get_or-take, length-take-le, length-drop}
use Rattle.std.proofs.lemmas.Slice.{between_is}
use Rattle.live_lines.specs.Lines.{with_feed}

-- the bytes that are left
abbrev left_of : List ℕ → ℕ → ℕ → List ℕ
left_of items begin end = drop begin (take end items)

-- a front of what is looked at is one of what is left
pub piece_front : (items : List ℕ) (begin last end n : ℕ) → last ≤ end → n ≤ last - begin
    → take n (between begin last items) ≡ take n (left_of items begin end)
piece_front items begin last end n within few =
    take-take n (last - begin) (drop begin items) few
    ∙ sym (ap (take n) (sym (between_is items begin end))
    ∙ take-take n (end - begin) (drop begin items) (omega (arith, within, few)))

pub left_length : (items : List ℕ) (begin end : ℕ) → end ≤ length items
    → length (left_of items begin end) ≡ end - begin
left_length items begin end within =
    length-drop begin (take end items)
    ∙ ap (λ n. n - begin) (length-take-le end items within)

-- what is left is a front and what is left behind it
pub piece_none : (items : List ℕ) (begin end n : ℕ)
    → left_of items begin end
    ≡ take n (left_of items begin end) ++ left_of items (begin + n) end
piece_none items begin end n =
    sym (take-append-drop n (left_of items begin end))
    ∙ ap (λ l. take n (left_of items begin end) ++ l) (drop-drop n begin (take end items))

-- the same with a line feed between them
pub piece_feed : (items : List ℕ) (begin last end n : ℕ) → last ≤ end → end ≤ length items
    → n < last - begin → slice_index (between begin last items) n ≡ 10
    → left_of items begin end
    ≡ with_feed (take n (left_of items begin end)) ++ left_of items (begin + (n + 1)) end
piece_feed items begin last end n within_end within few is_feed =
    sym (take-append-drop n left)
    ∙ ap (λ l. front ++ l) (drop_more left n 0 (omega (arith, long, within_end, few)))
    ∙ ap (λ byte. front ++ byte ∷ drop (n + 1) left) at
    ∙ ap (λ l. front ++ 10 ∷ l) (drop-drop (n + 1) begin (take end items))
    ∙ sym (append_assoc front (10 ∷ []) (left_of items (begin + (n + 1)) end))
  where
    left : List ℕ
    left = left_of items begin end

    front : List ℕ
    front = take n left

    long : length left ≡ end - begin
    long = left_length items begin end within

    at : slice_index left n ≡ 10
    at =
        ap (λ l. slice_index l n) (sym (between_is items begin end))
        ∙ get_or-take (end - begin) (drop begin items) n 0 (omega (arith, within_end, few))
        ∙ sym (get_or-take (last - begin) (drop begin items) n 0 few)
        ∙ is_feed

-- bytes are left
pub left_some : (items : List ℕ) (begin end : ℕ) → end ≤ length items → begin < end
    → left_of items begin end ≡ [] → ⊥
left_some items begin end within less none =
    let short : length (left_of items begin end) ≡ 0 = ap length none in
    omega (arith, left_length items begin end within, short)

nil_of : (bytes : List ℕ) → length bytes ≡ 0 → bytes ≡ []
nil_of [] short = refl
nil_of (byte ∷ bytes) short = absurd (omega (arith, short))

-- none are left
pub left_none : (items : List ℕ) (begin end : ℕ) → end ≤ length items → end ≤ begin
    → left_of items begin end ≡ []
left_none items begin end within few =
    nil_of (left_of items begin end) (omega (arith, left_length items begin end within))

-- how many bytes are looked at
pub looked_length : (items : List ℕ) (begin most : ℕ) → begin + most ≤ length items
    → length (between begin (begin + most) items) ≡ most
looked_length items begin most within =
    length-take-le (begin + most - begin) (drop begin items)
    (omega (arith, length-drop begin items, within))
    ∙ omega arith

-- A piece of what is left now: so many bytes are looked at, and the front of them is taken.
pub record IsPiece (items looked now : List ℕ) (begin end most n : ℕ) : Type 0 where
  pub within : begin + most ≤ end
  pub inside : end ≤ length items
  pub all : length (between begin (begin + most) looked) ≡ most
  pub few : n ≤ most
  pub left : length now ≡ end - begin
  pub front : take n (between begin (begin + most) looked) ≡ take n now
  pub long : length (take n now) ≡ n

pub piece_is : (items looked now : List ℕ) (begin end most n : ℕ) → looked ≡ items
    → left_of items begin end ≡ now
    → (length items ≡ 65536) × (begin ≤ end) × (end ≤ 65536) → most ≤ end - begin
    → n ≤ length (between begin (begin + most) looked)
    → IsPiece items looked now begin end most n
piece_is items looked now begin end most n same is holds within least = record {
  within = within_end;
  inside = inside;
  all = all;
  few = few;
  left = left;
  front =
      ap (λ l. take n (between begin (begin + most) l)) same
      ∙ piece_front items begin (begin + most) end n within_end (omega (arith, few))
      ∙ ap (take n) is;
  long = length-take-le n now (omega (arith, left, few, within));
}
  where
    within_end : begin + most ≤ end
    within_end = omega (arith, within, holds.1)

    inside : end ≤ length items
    inside = omega (arith, holds.0, holds.2)

    all : length (between begin (begin + most) looked) ≡ most
    all =
        ap (λ l. length (between begin (begin + most) l)) same
        ∙ looked_length items begin most (omega (arith, within_end, inside))

    few : n ≤ most
    few = omega (arith, least, all)

    left : length now ≡ end - begin
    left = ap length (sym is) ∙ left_length items begin end inside

-- what is left now is the front, its line feed, and what is left behind
pub split_feed : (items looked now : List ℕ) (begin end most n one : ℕ) → looked ≡ items
    → left_of items begin end ≡ now → begin + most ≤ end → end ≤ length items → n < most
    → slice_index (between begin (begin + most) looked) n ≡ 10 → one ≡ 1
    → now ≡ with_feed (take n now) ++ left_of items (begin + (n + one)) end
split_feed items looked now begin end most n one same is within within_end few is_feed just =
    subst (λ l. l ≡ with_feed (take n l) ++ left_of items (begin + (n + one)) end) is
    (subst (λ k. left_of items begin end
    ≡ with_feed (take n (left_of items begin end)) ++ left_of items (begin + (n + k)) end)
    (sym just)
    (piece_feed items begin (begin + most) end n within within_end (omega (arith, few))
    (sym (ap (λ l. slice_index (between begin (begin + most) l) n) same) ∙ is_feed)))

-- the same with no line feed
pub split_none : (items now : List ℕ) (begin end n nil : ℕ)
    → left_of items begin end ≡ now → nil ≡ 0
    → now ≡ take n now ++ left_of items (begin + (n + nil)) end
split_none items now begin end n nil is just =
    subst (λ l. l ≡ take n l ++ left_of items (begin + (n + nil)) end) is
    (subst (λ k. left_of items begin end
    ≡ take n (left_of items begin end) ++ left_of items (begin + k) end)
    (omega (arith, just)) (piece_none items begin end n))
