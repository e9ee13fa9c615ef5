-- The report on a scenario, and the exit status.
use Rattle.std.specs.Prelude.{◌≡◌, ℕ, List, ◌++◌, Option, Some, None, codes}
use Rattle.live_lines.specs.declared.status.LiveStatus.{LiveStatus}
use Rattle.live_lines.specs.Statuses.{status_value, message_of}
use Rattle.rio_conform.specs.declared.verdict.Verdict.{Verdict}
use Rattle.rio_conform.specs.declared.verdict.Verdict.TheVariants.{Passes, Differs, Ended, Misspelled, Stopped}

abbrev pub verdict_value : Verdict → ℕ
verdict_value Passes = 0
verdict_value (Differs count) = 1
verdict_value (Ended count) = 1
verdict_value (Misspelled count) = 2
verdict_value (Stopped status) = status_value status

-- what stands before the name of a scenario
abbrev pub report_word : Verdict → List ℕ
report_word Passes = codes "ok - "
report_word (Differs count) = codes "not ok - "
report_word (Ended count) = codes "not ok - "
report_word (Misspelled count) = codes "Bail out! "
report_word (Stopped status) = codes "Bail out! "

-- how the program is used, in a line
abbrev pub conform_usage : List ℕ
conform_usage = codes "usage: rio_conform [--strict] BUFFERS NAME LINE .., with 4 to 30 buffers\n"

-- how the program ended, if nothing is known of the device
abbrev pub stopped_by : Verdict → Option LiveStatus
stopped_by Passes = None
stopped_by (Differs count) = None
stopped_by (Ended count) = None
stopped_by (Misspelled count) = None
stopped_by (Stopped status) = Some status

-- the line of a verdict on the scenario of this name, and what there is to tell besides; or how the
-- program ended
abbrev pub report_by : Option LiveStatus → Verdict → List ℕ → List ℕ → List ℕ
report_by None verdict name details = report_word verdict ++ name ++ codes "\n" ++ details
report_by (Some status) verdict name details =
    message_of (codes "rio_conform: ") conform_usage status

-- the report
abbrev pub report_text : Verdict → List ℕ → List ℕ → List ℕ
report_text verdict name details = report_by (stopped_by verdict) verdict name details

-- nothing more is told of a scenario that passes
abbrev pub HasDetails : Verdict → List ℕ → List ℕ → Type 0
HasDetails Passes before after = after ≡ before
HasDetails (Differs count) before after = Unit {0}
HasDetails (Ended count) before after = Unit {0}
HasDetails (Misspelled count) before after = Unit {0}
HasDetails (Stopped status) before after = Unit {0}
