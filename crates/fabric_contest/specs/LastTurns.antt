-- What came of the last turn of each of two hosts, and how many turns of each went on.
use Rattle.std.specs.Prelude.{ℕ, ◌+◌, List, [], ◌∷◌}
use Rattle.link_watch.specs.declared.side.Side.{Side}
use Rattle.link_watch.specs.declared.side.Side.TheVariants.{A, B}
use Rattle.contest_machine.specs.declared.stages.Turn.{Turn}
use Rattle.contest_machine.specs.Turns.{walker_turned, came_of, Both, turn_of}
use Rattle.contest_machine.specs.Going.{going_in_turn}
use Rattle.fabric_contest.specs.declared.contest.Contest.{Contest}

-- with one more turn
abbrev pub lasts_after : Both → Turn × Turn → Side → Turn × Turn
lasts_after both lasts A =
    (came_of both.first (walker_turned both.first both.registers).walker, lasts.1)
lasts_after both lasts B =
    (lasts.0, came_of both.second (walker_turned both.second both.registers).walker)

-- with all these
abbrev pub lasts_after_turns : Both → Turn × Turn → List Side → Turn × Turn
lasts_after_turns both lasts [] = lasts
lasts_after_turns both lasts (side ∷ turns) =
    lasts_after_turns (turn_of both side) (lasts_after both lasts side) turns

-- of the code
abbrev pub lasts_of : Contest → Turn × Turn
lasts_of contest = (contest.first.last, contest.second.last)

-- ---- how many went on

-- with one more turn
abbrev pub goings_after : Both → ℕ × ℕ → Side → ℕ × ℕ
goings_after both goings side =
    (goings.0 + going_in_turn both A side, goings.1 + going_in_turn both B side)

-- with all these
abbrev pub goings_after_turns : Both → ℕ × ℕ → List Side → ℕ × ℕ
goings_after_turns both goings [] = goings
goings_after_turns both goings (side ∷ turns) =
    goings_after_turns (turn_of both side) (goings_after both goings side) turns

-- of the code
abbrev pub goings_of : Contest → ℕ × ℕ
goings_of contest = (contest.first.going, contest.second.going)
