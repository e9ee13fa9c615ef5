-- How the loops over the register go on.
use Rattle.std.proofs.Common.{◌≡◌, ℕ, suc, ◌+◌, ◌-◌, ◌<◌, List, [], ◌∷◌, ◌++◌, refl, subst, arith}
use Rattle.rio_packets.specs.Register.{shifted, shifted_times, fed, fed_all}

-- one shift more, of those that are left
pub one_shift_more : (n k r : ℕ) → k < n
    → shifted_times (n - (k + 1)) (shifted r) ≡ shifted_times (n - k) r
unfolding shifted_times
one_shift_more n k r below =
    let P : ℕ → Type 0 = λ m. shifted_times (n - (k + 1)) (shifted r) ≡ shifted_times m r in
    let e : suc (n - (k + 1)) ≡ n - k = omega arith in
    subst P e refl

-- bytes are fed one after another
pub fed_all-append : (r : ℕ) (xs ys : List ℕ) → fed_all r (xs ++ ys) ≡ fed_all (fed_all r xs) ys
fed_all-append r [] ys = refl
fed_all-append r (x ∷ xs) ys = fed_all-append (fed r x) xs ys
