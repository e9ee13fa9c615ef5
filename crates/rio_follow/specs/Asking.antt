-- What the words after the program's name ask for.
use Rattle.std.specs.Prelude.{◌≡◌, ℕ, List, [], ◌∷◌, true, false, codes}
use Rattle.rio_follow.specs.declared.request.FollowRequest.{FollowRequest}

-- two words ask for a report
abbrev pub AsksReport : List ℕ → List ℕ → Type 0
AsksReport kind form = (kind ≡ codes "--report") × (form ≡ codes "tap")

-- the words ask that a trace is followed, whether `ok` is told, and whether a report is written
abbrev pub AskFollow : List (List ℕ) → FollowRequest → Type 0
AskFollow [] request = request ≡ record { tell = false; report = false }
AskFollow (word ∷ []) request =
    (word ≡ codes "tell") × (request ≡ record { tell = true; report = false })
AskFollow (kind ∷ form ∷ []) request =
    AsksReport kind form × (request ≡ record { tell = false; report = true })
AskFollow (word ∷ kind ∷ form ∷ []) request =
    (word ≡ codes "tell") × AsksReport kind form × (request ≡ record { tell = true; report = true })
AskFollow (word ∷ kind ∷ form ∷ more ∷ words) request = ⊥

-- the words ask that reactions are judged
abbrev pub AskReactions : List (List ℕ) → Type 0
AskReactions (word ∷ []) = word ≡ codes "reactions"
AskReactions words = ⊥
