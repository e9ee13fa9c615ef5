-- A scenario that is played: what a device is asked, and what it has to answer.
use Rattle.std.specs.Prelude.{◌≡◌, ℕ, List, [], ◌∷◌, ◌++◌, Bool, true, false, Option, Ok, Err, length}
use Rattle.std.specs.Io.KnownBytes.{Consumes, Appends, IsAtEnd}
use Rattle.rio_chars.specs.Written.{Outgoing, Writes}
use Rattle.port_lines.specs.Clocks.{ClockedState}
use Rattle.port_lines.specs.Lines.{asked_answer}
use Rattle.port_lines.specs.declared.requests.PortRequest.{PortRequest}
use Rattle.port_lines.specs.declared.faults.RequestRefusal.{RequestRefusal}
use Rattle.conform_lines.specs.Stimuli.{ReadsStimulus, stimulus_text}
use Rattle.conform_lines.specs.Tolerances.{JudgeState, IsAllowedAnswer, leeway_of}
use Rattle.rio_conform.specs.declared.verdict.Verdict.{Verdict}
use Rattle.rio_conform.specs.declared.verdict.Verdict.TheVariants.{Passes, Differs, Ended, Misspelled, Stopped}
use Rattle.rio_conform.specs.declared.playing.Failing.{Failing}
use Rattle.rio_conform.specs.declared.playing.Failing.TheVariants as TheFailing
use Rattle.rio_conform.specs.Answers.{IsDeviceAnswer, Came, HasNoAnswer, EndsEarly}

-- An answer passes for the right one: strictly only if it is the same, and else if it is allowed
-- for it.
abbrev pub PassesAnswer : Bool → PortRequest → (right came : List ℕ) → (at next : JudgeState)
    → Type 0
PassesAnswer true request right came at next = (came ≡ right) × (next ≡ at)
PassesAnswer false request right came at next =
    IsAllowedAnswer (leeway_of request) right came at next

-- where a port stands behind some lines, how far the judge is, what a device is asked by them, and
-- answers that pass
pub record Played : Type 0 where
  pub port : ClockedState
  pub judged : JudgeState
  pub asked : List ℕ
  pub answers : List ℕ

-- of a line that asks for this, and is answered so
abbrev pub played_by : ClockedState → JudgeState → List ℕ → PortRequest → List ℕ → Played
played_by port judged line request answer = record {
  port = (asked_answer port (Ok request)).stands;
  judged = judged;
  asked = stimulus_text line request;
  answers = answer;
}

-- of a line of a scenario
pub record IsPlayed (strict : Bool) (port : ClockedState) (at : JudgeState) (line : List ℕ)
    (played : Played) : Type 0 where
  pub request : PortRequest
  pub came : List ℕ
  pub next : JudgeState
  pub reads : ReadsStimulus line (Ok request)
  pub answer : IsDeviceAnswer came
  pub passes : PassesAnswer strict request (asked_answer port (Ok request)).text came at next
  pub is : played ≡ played_by port next line request came

-- nothing is asked
abbrev pub played_none : ClockedState → JudgeState → Played
played_none port at = record { port = port; judged = at; asked = []; answers = [] }

-- one behind another
abbrev pub played_then : Played → Played → Played
played_then first last = record {
  port = last.port;
  judged = last.judged;
  asked = first.asked ++ last.asked;
  answers = first.answers ++ last.answers;
}

-- of lines, one after another
abbrev pub ArePlayed : Bool → ClockedState → JudgeState → List (List ℕ) → Played → Type 0
ArePlayed strict port at [] played = played ≡ played_none port at
ArePlayed strict port at (line ∷ lines) played = (first : Played) × (last : Played)
    × IsPlayed strict port at line first
    × ArePlayed strict first.port first.judged lines last
    × (played ≡ played_then first last)

-- the scenario goes on with this line
abbrev pub ScenarioGoesOn : List (List ℕ) → List (List ℕ) → List ℕ → ℕ → Type 0
ScenarioGoesOn lines done line count = (rest : List (List ℕ)) × (lines ≡ done ++ line ∷ rest)
    × (count ≡ length done)

-- the device gave these bytes, and perhaps more
abbrev pub DeviceGave : Option (List ℕ) → Option (List ℕ) → List ℕ → Type 0
DeviceGave left left_after bytes = (behind : List ℕ) × Consumes left left_after (bytes ++ behind)

-- the device ended: it gave these bytes, and behind them no answer
pub record DeviceEnded (left left_after : Option (List ℕ)) (before : List ℕ) : Type 0 where
  pub at_end : IsAtEnd left_after
  pub came : List ℕ
  pub gave : Consumes left left_after (before ++ came)
  pub none : HasNoAnswer came

-- A line was asked after others that ask this: what it asks for, and what was written.
pub record WasAsked (line : List ℕ) (written written_after : Option (List ℕ)) (before : List ℕ)
    : Type 0 where
  pub request : PortRequest
  pub reads : ReadsStimulus line (Ok request)
  pub wrote : Appends written written_after (before ++ stimulus_text line request)

-- The answer of the next line, which asks for this, is an answer, and does not pass.
pub record AnswersWrong (strict : Bool) (port : ClockedState) (at : JudgeState)
    (request : PortRequest) (left left_after : Option (List ℕ)) (before : List ℕ) : Type 0 where
  pub came : List ℕ
  pub answer : IsDeviceAnswer came
  pub gave : DeviceGave left left_after (before ++ came)
  pub wrong : (next : JudgeState)
      → ¬ PassesAnswer strict request (asked_answer port (Ok request)).text came at next

-- What a verdict says of the lines, if the answers of these passed: a row for each.
abbrev pub VerdictSays : Bool → Verdict → List (List ℕ) → List (List ℕ) → Played
    → Option (List ℕ) → Option (List ℕ) → Option (List ℕ) → Option (List ℕ) → Type 0
VerdictSays strict Passes lines done played left left_after written written_after =
    (lines ≡ done) × DeviceGave left left_after played.answers
    × Appends written written_after played.asked
VerdictSays strict (Differs count) lines done played left left_after written written_after =
    (line : List ℕ) × ScenarioGoesOn lines done line count
    × (asked : WasAsked line written written_after played.asked)
    × AnswersWrong strict played.port played.judged asked.request left left_after played.answers
VerdictSays strict (Ended count) lines done played left left_after written written_after =
    (line : List ℕ) × ScenarioGoesOn lines done line count
    × WasAsked line written written_after played.asked
    × DeviceEnded left left_after played.answers
VerdictSays strict (Misspelled count) lines done played left left_after written written_after =
    (line : List ℕ) × ScenarioGoesOn lines done line count
    × ((refusal : RequestRefusal) × ReadsStimulus line (Err refusal))
VerdictSays strict (Stopped status) lines done played left left_after written written_after =
    Unit {0}

-- Lines were played from this port on, and the verdict is true of them.
pub record Plays (strict : Bool) (port : ClockedState) (at : JudgeState) (lines : List (List ℕ))
    (verdict : Verdict) (left left_after : Option (List ℕ))
    (written written_after : Option (List ℕ)) : Type 0 where
  pub done : List (List ℕ)
  pub played : Played
  pub are_played : ArePlayed strict port at done played
  pub says : VerdictSays strict verdict lines done played left left_after written written_after

-- The answer of a line passes: what was told, what was read, and where the port stands then.
pub record PlaysRight (strict : Bool) (line : List ℕ) (port port_after : ClockedState)
    (at next : JudgeState) (out out_after : Outgoing) (left left_after : Option (List ℕ))
    (pending pending_after : List ℕ) : Type 0 where
  pub played : Played
  pub is : IsPlayed strict port at line played
  pub stands : port_after ≡ played.port
  pub judged : next ≡ played.judged
  pub told : Writes out out_after played.asked
  pub fine : out_after.failed ≡ false
  pub empty : out_after.waiting ≡ []
  pub came : Came left left_after pending pending_after played.answers

-- Of an answer that passes for the right one this came.
pub record AnswerPasses (strict : Bool) (request : PortRequest) (right : List ℕ)
    (at next : JudgeState) (left left_after : Option (List ℕ)) (pending pending_after : List ℕ)
    : Type 0 where
  pub answer : List ℕ
  pub is_answer : IsDeviceAnswer answer
  pub came : Came left left_after pending pending_after answer
  pub passes : PassesAnswer strict request right answer at next

-- Why what came does not pass.
abbrev pub AnswerFails : Bool → Failing → PortRequest → List ℕ → JudgeState
    → Option (List ℕ) → Option (List ℕ) → List ℕ → List ℕ → Type 0
AnswerFails strict TheFailing.Differs request right at left left_after pending pending_after =
    (came : List ℕ) × IsDeviceAnswer came × Came left left_after pending pending_after came
    × ((next : JudgeState) → ¬ PassesAnswer strict request right came at next)
AnswerFails strict TheFailing.Ended request right at left left_after pending pending_after =
    EndsEarly left left_after pending
AnswerFails strict TheFailing.Misspelled request right at left left_after pending pending_after =
    ⊥
AnswerFails strict (TheFailing.Stopped status) request right at left left_after pending
    pending_after = Unit {0}

-- why a line is not asked
abbrev pub RequestFails : Failing → List ℕ → Type 0
RequestFails TheFailing.Differs line = ⊥
RequestFails TheFailing.Ended line = ⊥
RequestFails TheFailing.Misspelled line =
    (refusal : RequestRefusal) × ReadsStimulus line (Err refusal)
RequestFails (TheFailing.Stopped status) line = Unit {0}

-- a line was told, and nothing of it waits
pub record StimulusTold (line : List ℕ) (out out_after : Outgoing) : Type 0 where
  pub request : PortRequest
  pub reads : ReadsStimulus line (Ok request)
  pub told : Writes out out_after (stimulus_text line request)
  pub fine : out_after.failed ≡ false
  pub empty : out_after.waiting ≡ []

-- why the answer of a line does not pass, or why it is not asked
abbrev pub Fails : Bool → Failing → List ℕ → ClockedState → JudgeState → Outgoing → Outgoing
    → Option (List ℕ) → Option (List ℕ) → List ℕ → List ℕ → Type 0
Fails strict TheFailing.Differs line port at out out_after left left_after pending pending_after =
    (told : StimulusTold line out out_after)
    × AnswerFails strict TheFailing.Differs told.request
    (asked_answer port (Ok told.request)).text at left left_after pending pending_after
Fails strict TheFailing.Ended line port at out out_after left left_after pending pending_after =
    StimulusTold line out out_after × EndsEarly left left_after pending
Fails strict TheFailing.Misspelled line port at out out_after left left_after pending
    pending_after = (refusal : RequestRefusal) × ReadsStimulus line (Err refusal)
Fails strict (TheFailing.Stopped status) line port at out out_after left left_after pending
    pending_after = Unit {0}

abbrev pub failing_verdict : Failing → ℕ → Verdict
failing_verdict TheFailing.Differs count = Differs count
failing_verdict TheFailing.Ended count = Ended count
failing_verdict TheFailing.Misspelled count = Misspelled count
failing_verdict (TheFailing.Stopped status) count = Stopped status
