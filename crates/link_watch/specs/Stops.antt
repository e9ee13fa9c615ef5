-- What a watch promises of notes, and one that stopped before it had taken in all of a call.
use Rattle.std.specs.Prelude.{◌≡◌, List, [], ◌∷◌, ◌++◌}
use Rattle.link_watch.specs.declared.note.Note.{Note}

-- A watch that takes in nothing is what it was. Notes that are taken in after others are taken in
-- behind them. It may stop before anything of a note.
pub record IsWatch {W : Type 0} (grew : W → List Note → W → Type 0) (cut : W → Note → W → Type 0)
    : Type 0 where
  pub none : (w : W) → grew w [] w
  pub on : (w next last : W) (first rest : List Note) → grew w first next → grew next rest last
      → grew w (first ++ rest) last
  pub cut_none : (w : W) (note : Note) → cut w note w

-- the watch stopped within the first of the notes that are left, if there is one
abbrev pub CutAtFirst : {W : Type 0} → (W → Note → W → Type 0) → W → List Note → W → Type 0
CutAtFirst cut mid [] new = new ≡ mid
CutAtFirst cut mid (note ∷ notes) new = cut mid note new

-- the watch grew by a front of the notes, and then stopped within the next one, if there is one
pub record Stopped {W : Type 0} (grew : W → List Note → W → Type 0) (cut : W → Note → W → Type 0)
    (old : W) (notes : List Note) (new : W) : Type 0 where
  pub front : List Note
  pub rest : List Note
  pub whole : notes ≡ front ++ rest
  pub mid : W
  pub grown : grew old front mid
  pub cut_at : CutAtFirst cut mid rest new
