-- Lines of bursts, and what is read back of them.
use Rattle.std.specs.Prelude.{ℕ, List, [], ◌∷◌, ◌++◌, map}
use Rattle.rio_chars.specs.declared.chars.Char.{Char}
use Rattle.code_groups.specs.Streams.{HaveGroups}
use Rattle.live_lines.specs.Lines.{HasNoFeed, with_feed}
use Rattle.rio_lane.specs.LaneAnswers.{joined_chars, burst_chars}

-- each is of characters that have groups
abbrev pub AllHaveGroups : List (List Char) → Type 0
AllHaveGroups [] = Unit {0}
AllHaveGroups (burst ∷ bursts) = HaveGroups burst × AllHaveGroups bursts

-- none of them has a line feed in it
abbrev pub HaveNoFeeds : List (List ℕ) → Type 0
HaveNoFeeds [] = Unit {0}
HaveNoFeeds (line ∷ lines) = HasNoFeed line × HaveNoFeeds lines

-- lines, each with its line feed
abbrev pub fed_lines : List (List ℕ) → List ℕ
fed_lines [] = []
fed_lines (line ∷ lines) = with_feed line ++ fed_lines lines

-- the lines of bursts, and those of the same with an idle before and after each
abbrev pub burst_lines : List (List Char) → List (List ℕ)
burst_lines bursts = map joined_chars bursts

abbrev pub idle_lines : List (List Char) → List (List ℕ)
idle_lines bursts = map (λ burst. joined_chars (burst_chars burst)) bursts
