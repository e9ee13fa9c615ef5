-- What the whole program does.
use Rattle.std.specs.Prelude.{◌≡◌, ℕ, ◌≤◌, ◌⊎◌, List, [], ◌∷◌, ◌++◌, Option, Bool, true, false, codes, map}
use Rattle.std.specs.Fmt.{decimal}
use Rattle.std.specs.String.{string_bytes}
use Rattle.std.specs.Io.KnownBytes.{Keeps}
use Rattle.rio_chars.specs.Unless.{WritesUnless}
use Rattle.port_lines.specs.Clocks.{new_clocked, plain_settings}
use Rattle.live_lines.specs.declared.status.LiveStatus.{LiveStatus}
use Rattle.live_lines.specs.declared.status.LiveStatus.TheVariants.{Words}
use Rattle.live_lines.specs.Asked.{AnswersQuestion}
use Rattle.program_start.specs.Questions.{AsksNoQuestion}
use Rattle.rio_conform.specs.declared.program.Asked.{Asked}
use Rattle.rio_conform.specs.declared.verdict.Verdict.{Verdict}
use Rattle.rio_conform.specs.declared.verdict.Verdict.TheVariants.{Stopped}
use Rattle.conform_lines.specs.Tolerances.{judge_start}
use Rattle.rio_conform.specs.Plays.{Plays}
use Rattle.rio_conform.specs.Report.{verdict_value, report_text, HasDetails}

-- what words ask for: a scenario by its name and its lines, played to a device with so many buffers
pub record PlayAsked : Type 0 where
  pub strict : Bool
  pub buffers : ℕ
  pub name : List ℕ
  pub lines : List (List ℕ)

-- a number of buffers, the name of a scenario, and its lines
abbrev pub AsksPlain : List (List ℕ) → PlayAsked → Type 0
AsksPlain words asked = (4 ≤ asked.buffers) × (asked.buffers ≤ 30)
    × (words ≡ decimal asked.buffers ∷ asked.name ∷ asked.lines)

-- the word before them by which each answer has to be the same
abbrev pub strict_words : Bool → List (List ℕ)
strict_words true = codes "--strict" ∷ []
strict_words false = []

-- the words after the program's name ask for it
abbrev pub AsksPlay : List (List ℕ) → PlayAsked → Type 0
AsksPlay words asked = (rest : List (List ℕ)) × (words ≡ strict_words asked.strict ++ rest)
    × AsksPlain rest asked

-- what a program asks for that has read its words
abbrev pub play_asked : Asked → PlayAsked
play_asked asked = record {
  strict = asked.strict;
  buffers = asked.buffers;
  name = asked.name.now;
  lines = map string_bytes asked.lines.now;
}

abbrev pub AsksNoPlay : List (List ℕ) → Type 0
AsksNoPlay words = (asked : PlayAsked) → ¬ AsksPlay words asked

-- how the program is used, on several lines
abbrev pub conform_help : List ℕ
conform_help = codes "usage: rio_conform [--strict] BUFFERS NAME LINE .. < ANSWERS > LINES 2> REPORT\n\n"
    ++ codes "Asks a device the lines of a scenario, and says whether it answered each as a port\n"
    ++ codes "with 4 to 30 receive buffers does: with --strict byte for byte, and else but for\n"
    ++ codes "status symbols, idles, causes, port status, and what comes at most 8 turns late. A\n"
    ++ codes "line is one of rio_port, or puts characters on the wire:\n\n"
    ++ codes "accepted ACK FREE             a control symbol, and so retry, not-accepted, status,\n"
    ++ codes "                              response, start, stomp, end, restart, request, reset\n"
    ++ codes "                              and multicast; ACK and FREE may be left out\n"
    ++ codes "packet ACK send PRIO ..       a packet; spoiled has a wrong bit\n"
    ++ codes "part FROM TO ACK send ..      some of its bytes\n"
    ++ codes "data HEX                      bytes\n\n"
    ++ codes "docs/conformance.md has the form of a scenario, and docs/live.md that of the other\n"
    ++ codes "lines.\n"

-- The words ask a question, and it was answered; or they have the lines of a scenario of this name,
-- which were played; or they ask for nothing, and nothing was read or written.
abbrev pub ConformDid : List (List ℕ) → List ℕ → Verdict → Option (List ℕ) → Option (List ℕ)
    → Option (List ℕ) → Option (List ℕ) → ℕ → ℕ → Type 0
ConformDid words name verdict left left_after written written_after write_faults
    write_faults_after =
    ((status : LiveStatus) × AnswersQuestion (codes "rio_conform") conform_help words status
    written written_after write_faults write_faults_after × (verdict ≡ Stopped status))
    ⊎ (((asked : PlayAsked) × AsksPlay words asked × (name ≡ asked.name)
    × AsksNoQuestion words
    × Plays asked.strict (new_clocked (plain_settings asked.buffers)) judge_start asked.lines
    verdict left left_after written written_after)
    ⊎ (AsksNoPlay words × AsksNoQuestion words × (verdict ≡ Stopped Words)
    × Keeps written written_after × Keeps left left_after))

-- It ends with the number of a verdict, and the report says it; nothing more is told of a scenario
-- that passes.
pub record ConformRan {S : Type 0} {K : Type 0} {M : Type 0} (words : List (List ℕ)) (number : ℕ)
    (left : S → Option (List ℕ)) (source source_after : S)
    (written : K → Option (List ℕ)) (write_faults : K → ℕ) (sink sink_after : K)
    (said : M → Option (List ℕ)) (say_faults : M → ℕ) (messages messages_after : M) : Type 0 where
  pub name : List ℕ
  pub verdict : Verdict
  pub did : ConformDid words name verdict (left source) (left source_after) (written sink)
      (written sink_after) (write_faults sink) (write_faults sink_after)
  pub number_is : number ≡ verdict_value verdict
  pub failed : Bool
  pub details : List ℕ
  pub says : WritesUnless false (said messages) (say_faults messages) failed (said messages_after)
      (say_faults messages_after) (report_text verdict name details)
  pub none_of_a_pass : HasDetails verdict [] details
