-- What loops over the words of a line go over.
use Rattle.std.proofs.Common.{◌≡◌, ◌==◌, ℕ, Bool, false, List}
use denote.Param.Members.{Mut}
use denote.Ref.{Bor}
use Rattle.std.specs.Fn.{CalledAt}
use Rattle.std.specs.List.{slice_split}
use Rattle.std.specs.Iterator.{Yields}
use Rattle.std.specs.Slice.Iter.{split_rest, split_done, split_callee, split_steps}
use Rattle.std.proofs.lemmas.Iterator.{YieldsList}
use Rattle.std.proofs.lemmas.Iterator.Splits.{YieldsList-from_slice_split}

pub words-road : {F : Type 0} {g : Mut F (Bor ℕ × Unit {0}) Bool} {f : F} {s : _} (bytes : List ℕ)
    (xs : List (Bor (List ℕ))) (t : _) → Yields (split_steps g) s xs t → split_rest s ≡ bytes
    → split_done s ≡ false → split_callee s ≡ f
    → ((x : ℕ) (b : Bool) (q : F) → CalledAt g f x b q → (q ≡ f) × (b ≡ (x == 32)))
    → YieldsList (split_steps g) (λ x. x.now) s (slice_split (λ byte. byte == 32) bytes)
words-road {g} bytes xs t yields rest done closure calls =
    YieldsList-from_slice_split g (λ b. b == 32) bytes rest done closure calls
