-- When a count of faults rose in a call.
use Rattle.std.specs.Prelude.{ℕ, ◌-◌, ◌^◌, ◌<◌, ◌≤◌, ◌⊎◌, ◌≡◌, Bool, true}

-- the count is greater after the call than before, or stands at the greatest count, 2^64 - 1, after
-- it
abbrev pub Rose : ℕ → ℕ → Type 0
Rose before after = (before < after) ⊎ (2 ^ 64 - 1 ≤ after)

-- a value that has failed had failed before the call, or the count rose in it
abbrev pub FailedBy : Bool → ℕ → Bool → ℕ → Type 0
FailedBy failed before failed_after after =
    failed_after ≡ true → (failed ≡ true) ⊎ Rose before after
