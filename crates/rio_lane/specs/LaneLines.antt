-- Lines, one after another, and their answers.
use Rattle.std.specs.Prelude.{◌≡◌, ◌≢◌, ℕ, ◌⊎◌, List, [], ◌∷◌, ◌++◌, codes}
use Rattle.rio_lane.specs.declared.ends.LaneEnds.{LaneEnds}
use Rattle.rio_lane.specs.declared.ends.LaneTask.{LaneTask}
use Rattle.rio_lane.specs.declared.ends.LaneWay.{LaneWay}
use Rattle.rio_lane.specs.declared.ends.LaneWay.TheVariants.{Sends, Hears, Aligns, SendsRows, HearsRows}
use Rattle.rio_lane.specs.Tasks.{task_head, task_way}
use Rattle.rio_lane.specs.FourAnswers.{SendsLanes, HearsLanes}
use Rattle.rio_lane.specs.LaneAnswers.{LaneAnswer, lane_says, SendsText, HearsText, HearsBits}

-- what is coded of a line, in the way of the task
abbrev pub CodesText : LaneWay → ℕ → List ℕ → LaneEnds → List ℕ → LaneAnswer → Type 0
CodesText Sends commas head ends text answer = SendsText head ends text answer
CodesText Hears commas head ends text answer = HearsText commas head ends text answer
CodesText Aligns commas head ends text answer = HearsBits commas ends text answer
CodesText SendsRows commas head ends text answer = SendsLanes ends text answer
CodesText HearsRows commas head ends text answer = HearsLanes commas ends text answer

-- The answer of a line: what stands after the head of the task is coded, and a line that does not
-- begin with it is passed on.
abbrev pub AnswersLane : LaneTask → ℕ → LaneEnds → List ℕ → LaneAnswer → Type 0
AnswersLane task commas ends line answer =
    ((text : List ℕ) × (line ≡ task_head task ++ text)
    × CodesText (task_way task) commas (task_head task) ends text answer)
    ⊎ (((text : List ℕ) → line ≢ task_head task ++ text)
    × (answer ≡ lane_says ends (line ++ codes "\n")))

-- more is said before an answer
abbrev pub after_said : List ℕ → LaneAnswer → LaneAnswer
after_said text answer = lane_says answer.ends (text ++ answer.text)

-- the answers of lines, one after another
abbrev pub AnswersLanes : LaneTask → ℕ → LaneEnds → List (List ℕ) → LaneAnswer → Type 0
AnswersLanes task commas ends [] answer = answer ≡ lane_says ends []
AnswersLanes task commas ends (line ∷ lines) answer = (first : LaneAnswer) × (last : LaneAnswer)
    × AnswersLane task commas ends line first × AnswersLanes task commas first.ends lines last
    × (answer ≡ after_said first.text last)
