-- The answers of a device, in the bytes that it gives.
use Rattle.std.specs.Prelude.{◌≡◌, ◌≢◌, ℕ, List, ◌++◌, All, Option, codes}
use Rattle.std.specs.List.{flat_map}
use Rattle.std.specs.Io.KnownBytes.{Consumes, IsAtEnd}
use Rattle.live_lines.specs.Lines.{IsLine, HasNoFeed, with_feed}

-- An answer: lines, of which none is `ok`, and the line `ok` behind them, each with its line feed.
pub record IsDeviceAnswer (answer : List ℕ) : Type 0 where
  pub lines : List (List ℕ)
  pub are_lines : All (λ line. IsLine line) lines
  pub none_ends : All (λ line. line ≢ codes "ok") lines
  pub answer_is : answer ≡ flat_map with_feed lines ++ codes "ok\n"

-- This came: it was read behind the bytes that waited before, and these wait now.
pub record Came (left left_after : Option (List ℕ)) (pending pending_after came : List ℕ)
    : Type 0 where
  pub taken : List ℕ
  pub read : Consumes left left_after taken
  pub are : pending ++ taken ≡ came ++ pending_after

-- No answer is in this: lines, of which none is `ok`, and bytes behind them without a line feed.
pub record HasNoAnswer (came : List ℕ) : Type 0 where
  pub lines : List (List ℕ)
  pub are_lines : All (λ line. IsLine line) lines
  pub none_ends : All (λ line. line ≢ codes "ok") lines
  pub behind : List ℕ
  pub no_feed : HasNoFeed behind
  pub came_is : came ≡ flat_map with_feed lines ++ behind

-- The device ended: this was read behind the bytes that waited before, and no answer is in them.
pub record EndsEarly (left left_after : Option (List ℕ)) (pending : List ℕ) : Type 0 where
  pub at_end : IsAtEnd left_after
  pub taken : List ℕ
  pub read : Consumes left left_after taken
  pub none : HasNoAnswer (pending ++ taken)
