-- When an answer may differ from the right one.
use Rattle.std.specs.Prelude.{◌≡◌, ℕ, ◌+◌, ◌≤◌, Bool, true, false, MatchBool, List, [], ◌∷◌, ◌++◌, All, map}
use Rattle.link_model.specs.Places.{Place}
use Rattle.link_model.specs.Prelude.{place_start}
use Rattle.fabric_script.specs.Scripts.{pieces_of}
use Rattle.port_lines.specs.declared.requests.PortRequest.{PortRequest}
use Rattle.port_lines.specs.declared.requests.PortRequest.TheVariants.{Got, Turn, TimeOut, Send, Take, State, Reset, Clock}
use Rattle.conform_lines.specs.declared.counting.Counted.{Counted}
use Rattle.conform_lines.specs.declared.judging.Leeway.{Leeway}
use Rattle.conform_lines.specs.declared.judging.Owed.{Owed}
use Rattle.conform_lines.specs.Counting.{AnswerCounts, LinesComeTo}

-- How far a scenario is: where readers stand of what the right answers send, and of what the device
-- sends; how many turns were asked for; and what the device has not sent yet.
pub record JudgeState : Type 0 where
  pub right : Place
  pub came : Place
  pub turns : ℕ
  pub owed : List Owed

-- before the first line
abbrev pub judge_start : JudgeState
judge_start = record { right = place_start; came = place_start; turns = 0; owed = [] }

-- what a line that asks for this bears on what is allowed: the turns that it asks for, and whether
-- it asks for a state, which is the device's own
abbrev pub bears : ℕ → Bool → Leeway
bears turns is_state = record { turns = turns; is_state = is_state }

-- a row for each
abbrev pub leeway_of : PortRequest → Leeway
leeway_of (Got chars) = bears 0 false
leeway_of (Turn count) = bears count false
leeway_of TimeOut = bears 0 false
leeway_of (Send packet) = bears 0 false
leeway_of Take = bears 0 false
leeway_of State = bears 0 true
leeway_of Reset = bears 0 false
leeway_of (Clock chars) = bears 0 false

-- it is due since so many turns
abbrev pub owed_since : ℕ → Counted → Owed
owed_since turns counted = record { turns = turns; counted = counted }

-- A device sends the first of what it owes, in order, and nothing else: this is owed still.
abbrev pub Pays : List Owed → List Counted → List Owed → Type 0
Pays owed [] left = left ≡ owed
Pays [] (counted ∷ sent) left = ⊥
Pays (first ∷ owed) (counted ∷ sent) left = (first.counted ≡ counted) × Pays owed sent left

-- how many turns late something may be sent
abbrev pub most_late : ℕ
most_late = 8

-- what is owed, without since when
abbrev pub counted_of : List Owed → List Counted
counted_of owed = map (λ (o : Owed). o.counted) owed

-- nothing is owed that is later
abbrev pub IsInTime : ℕ → List Owed → Type 0
IsInTime turns owed = All (λ (o : Owed). turns ≤ o.turns + most_late) owed

-- the other lines of an answer are the same, unless they are those of a state
abbrev pub SaysAlike : Leeway → List ℕ → List ℕ → Type 0
SaysAlike its right came = MatchBool its.is_state (Unit {0}) (came ≡ right)

-- This answer, to a line that bears so much, is allowed for the right one: its other lines are the
-- same, and the device sends what the right answers have sent, in order, each at most so many turns
-- late.
pub record IsAllowedAnswer (its : Leeway) (right came : List ℕ) (at next : JudgeState)
    : Type 0 where
  pub right_counts : AnswerCounts
  pub came_counts : AnswerCounts
  pub right_comes : LinesComeTo at.right (pieces_of right) right_counts
  pub came_comes : LinesComeTo at.came (pieces_of came) came_counts
  pub says : SaysAlike its right_counts.other came_counts.other
  pub right_place : next.right ≡ right_counts.place
  pub came_place : next.came ≡ came_counts.place
  pub turns : next.turns ≡ at.turns + its.turns
  pub pays : Pays (at.owed ++ map (owed_since next.turns) right_counts.sent) came_counts.sent
      next.owed
  pub in_time : IsInTime next.turns next.owed

-- how far a scenario is behind an answer that comes to this, if nothing is owed
abbrev pub judged_by : Leeway → JudgeState → AnswerCounts → JudgeState
judged_by its at counts = record {
  right = counts.place;
  came = counts.place;
  turns = at.turns + its.turns;
  owed = [];
}
