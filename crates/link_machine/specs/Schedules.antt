-- Schedules: how what is done is put together from parts. What is done is a list of things, each of
-- which leads from a state to the next. A part says of a state and of a list of things whether they
-- are done from there.
use Rattle.std.specs.Prelude.{◌≡◌, ◌++◌, Bool, true, false, List, [], MatchBool}

-- one part and then another, which begins in the state to which the first leads
abbrev pub NextOf : {S T : Type 0}
    → (S → List T → S) → (S → List T → Type 0) → (S → List T → Type 0) → S → List T → Type 0
NextOf {S} {T} go First Then state all =
    (first : List T) × (rest : List T) × (all ≡ first ++ rest)
    × First state first × Then (go state first) rest

-- a part where a test holds, and else nothing
abbrev pub WhereOf : {S T : Type 0} → (S → Bool) → (S → List T → Type 0) → S → List T → Type 0
WhereOf test Part state all = MatchBool (test state) (Part state all) (all ≡ [])

-- exactly the things that a function names
abbrev pub Is : {S T : Type 0} → (S → List T) → S → List T → Type 0
Is things state all = all ≡ things state

-- A part again and again, as long as a test holds. Where another test holds after it, a last part
-- is done instead of more.
pub data LoopOf {S T : Type 0} (go : S → List T → S) (test : S → Bool) (Part : S → List T → Type 0)
    (leaves : S → Bool) (Last : S → List T → Type 0) : S → List T → Type 0 where
  LoopRests : {s : S} {all : List T} → test s ≡ false → all ≡ []
      → LoopOf go test Part leaves Last s all
  LoopGoesOn : {s : S} {all : List T} (first rest : List T)
      → test s ≡ true → Part s first → all ≡ first ++ rest → leaves (go s first) ≡ false
      → LoopOf go test Part leaves Last (go s first) rest → LoopOf go test Part leaves Last s all
  LoopLeaves : {s : S} {all : List T} (first rest : List T)
      → test s ≡ true → Part s first → all ≡ first ++ rest → leaves (go s first) ≡ true
      → Last (go s first) rest → LoopOf go test Part leaves Last s all
