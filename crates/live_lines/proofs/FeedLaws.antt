-- Input whose last line has a line feed.
use Rattle.std.proofs.Common.{◌≡◌, ℕ, zero, suc, ◌<◌, Bool, true, false, not, nat_eq, Option, Some, None, List, [], ◌∷◌, ◌++◌, length, take, slice_index_or, slice_set, refl, sym, ap, ◌∙◌, append_assoc, arith}
use Rattle.std.specs.Prelude.{if◌then◌else◌, codes}
use Rattle.std.specs.Io.KnownBytes.{Consumes, IsAtEnd}
use Rattle.live_lines.specs.Feeds.{inside_after, with_last_feed, left_with_feed}

inside_append : (inside : Bool) (a b : List ℕ)
    → inside_after inside (a ++ b) ≡ inside_after (inside_after inside a) b
unfolding inside_after
inside_append inside [] b = refl
inside_append inside (byte ∷ a) b = inside_append (not (nat_eq byte 10)) a b

-- the last of some bytes at the front tells whether they end within a line
pub inside_front : (inside : Bool) (bytes : List ℕ) (n : ℕ) → n < length bytes
    → inside_after inside (take (suc n) bytes) ≡ not (nat_eq (slice_index_or bytes n 0) 10)
unfolding inside_after
inside_front inside [] n within = absurd (omega arith)
inside_front inside (byte ∷ bytes) zero within = refl
inside_front inside (byte ∷ bytes) (suc n) within =
    inside_front (not (nat_eq byte 10)) bytes n (omega arith)

abbrev feed_of : Bool → List ℕ
feed_of inside = if inside then codes "\n" else []

-- bytes were read that are not the last
pub read_on : (inside next : Bool) (old new : Option (List ℕ)) (bytes : List ℕ)
    → Consumes old new bytes → inside_after inside bytes ≡ next
    → Consumes (left_with_feed inside old) (left_with_feed next new) bytes
read_on inside next None new bytes more is = more
read_on inside next (Some xs) None bytes more is = more
read_on inside next (Some xs) (Some ys) bytes more is =
    ap (with_last_feed inside) more
    ∙ append_assoc bytes ys (feed_of (inside_after inside (bytes ++ ys)))
    ∙ ap (λ b. bytes ++ (ys ++ feed_of b))
    (inside_append inside bytes ys ∙ ap (λ b. inside_after b ys) is)

pub nil_inside : (inside : Bool) → inside_after inside [] ≡ inside
unfolding inside_after
nil_inside inside = refl

-- nothing is left, and no line is to be ended
pub end_stays : (new : Option (List ℕ)) → IsAtEnd new → IsAtEnd (left_with_feed false new)
unfolding inside_after
end_stays None end = end
end_stays (Some ys) end = ap (with_last_feed false) end

-- nothing is left, and the line feed is read that lacks
pub feed_read : (old new : Option (List ℕ)) → Consumes old new [] → IsAtEnd new
    → Consumes (left_with_feed true old) (left_with_feed false new) (10 ∷ [])
unfolding inside_after
feed_read None new more end = more
feed_read (Some xs) None more end = more
feed_read (Some xs) (Some ys) more end =
    ap (with_last_feed true) (more ∙ end) ∙ sym (ap (λ l. 10 ∷ with_last_feed false l) end)

pub first_set : (bytes : List ℕ) → 0 < length bytes → take 1 (slice_set bytes 0 10) ≡ 10 ∷ []
first_set [] some = absurd (omega arith)
first_set (byte ∷ bytes) some = refl
