-- What a source in memory gives.
use Rattle.std.proofs.Common.{◌≡◌, ◌<◌, ◌+◌, ◌-◌, ℕ, List, [], ◌++◌, length, take, drop, sym, ap, ◌∙◌, arith, min, take-append-drop}
use Rattle.std.proofs.lemmas.List.{drop_all, drop-drop}

-- what is left begins with what is given
pub given_front : (bytes : List ℕ) (begin count : ℕ)
    → drop begin bytes ≡ take count (drop begin bytes) ++ drop (begin + count) bytes
given_front bytes begin count =
    sym (ap (λ l. take count (drop begin bytes) ++ l) (sym (drop-drop count begin bytes))
    ∙ take-append-drop count (drop begin bytes))

-- nothing is given to a piece that is not empty only where nothing is left
pub given_end : (bytes : List ℕ) (begin count room : ℕ) → count ≡ min room (length bytes - begin)
    → 0 < room → count ≡ 0 → drop (begin + count) bytes ≡ []
given_end bytes begin count room is some none = drop_all (begin + count) bytes (omega arith)
