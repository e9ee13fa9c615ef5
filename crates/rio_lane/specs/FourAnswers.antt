-- What is answered of a line on four lanes.
use Rattle.std.specs.Prelude.{◌≡◌, ℕ, List, ◌++◌, Option, Some, None, codes}
use Rattle.rio_chars.specs.declared.chars.Char.{Char}
use Rattle.lane_rows.specs.Rows.{burst_rows}
use Rattle.lane_rows.specs.RowHearing.{HearsRows}
use Rattle.lane_rows.specs.RowSending.{rows_from, after_rows}
use Rattle.lane_rows.specs.declared.hearing.FourReceivers.{FourReceivers}
use Rattle.rio_lane.specs.declared.ends.LaneEnds.{LaneEnds}
use Rattle.rio_lane.specs.LaneAnswers.{LaneAnswer, lane_says, text_words, AnsweredAs, SpellSent, SpellGroups, joined_groups, joined_chars}

-- The rows of a burst, and the senders' disparities after them; or the line is refused.
abbrev pub four_answer : LaneEnds → Option (List Char) → LaneAnswer
four_answer ends None = lane_says ends (codes "refused character\n")
four_answer ends (Some chars) =
    lane_says (record ends { senders = after_rows ends.senders (burst_rows chars) })
    (joined_groups (rows_from ends.senders (burst_rows chars)) ++ codes "\n")

abbrev pub SendsLanes : LaneEnds → List ℕ → LaneAnswer → Type 0
SendsLanes ends text answer =
    AnsweredAs (SpellSent (text_words text)) (λ read. answer ≡ four_answer ends read)

-- What the lanes hear of groups in rows, and the lanes after them; or the line is refused.
abbrev pub FourHeard : ℕ → LaneEnds → Option (List ℕ) → LaneAnswer → Type 0
FourHeard commas ends None answer = answer ≡ lane_says ends (codes "refused group\n")
FourHeard commas ends (Some groups) answer = (heard : List Char) × (to : FourReceivers)
    × HearsRows commas ends.receivers groups to heard
    × (answer ≡ lane_says (record ends { receivers = to }) (joined_chars heard ++ codes "\n"))

abbrev pub HearsLanes : ℕ → LaneEnds → List ℕ → LaneAnswer → Type 0
HearsLanes commas ends text answer =
    AnsweredAs (SpellGroups (text_words text)) (λ read. FourHeard commas ends read answer)
