-- A device that answers as the tables say.
use Rattle.std.specs.Prelude.{◌≡◌, ℕ, List, [], ◌∷◌, ◌++◌, Ok}
use Rattle.port_lines.specs.Clocks.{ClockedState}
use Rattle.port_lines.specs.Lines.{asked_answer}
use Rattle.port_lines.specs.declared.requests.PortRequest.{PortRequest}
use Rattle.conform_lines.specs.Stimuli.{ReadsStimulus}
use Rattle.rio_conform.specs.declared.verdict.Verdict.{Verdict}
use Rattle.rio_conform.specs.declared.verdict.Verdict.TheVariants.{Passes, Differs, Ended, Misspelled, Stopped}

-- What a device gives is, one after another, the answers that the tables give from this port on to
-- what these lines ask for, and perhaps more. Each line asks for something.
abbrev pub GivesRightAnswers : ClockedState → List (List ℕ) → List ℕ → Type 0
GivesRightAnswers port [] given = Unit {0}
GivesRightAnswers port (line ∷ lines) given = (request : PortRequest)
    × ReadsStimulus line (Ok request) × (rest : List ℕ)
    × (given ≡ (asked_answer port (Ok request)).text ++ rest)
    × GivesRightAnswers (asked_answer port (Ok request)).stands lines rest

-- a scenario passes, unless the program itself ended
abbrev pub PassesOrStops : Verdict → Type 0
PassesOrStops Passes = Unit {0}
PassesOrStops (Differs count) = ⊥
PassesOrStops (Ended count) = ⊥
PassesOrStops (Misspelled count) = ⊥
PassesOrStops (Stopped status) = Unit {0}
