-- What stands in the room that a caller gives.
use Rattle.std.specs.Prelude.{◌≡◌, ℕ, List, ◌++◌, length, min, take, drop}

-- the front of the room was written over, and what stood behind it stands there still
abbrev pub laid_over : {X : Type 0} → List X → List X → List X
laid_over front room = front ++ drop (length front) room

-- the same behind so many places that stay
abbrev pub laid_at : ℕ → List ℕ → List ℕ → List ℕ
laid_at at front room = take at room ++ laid_over front (drop at room)

-- A front of a text was taken, as much of it as has room, and stands in the room.
pub record TextTaken (text room room_after : List ℕ) (count : ℕ) : Type 0 where
  pub much : count ≡ min (length text) (length room)
  pub room_is : room_after ≡ laid_over (take count text) room
