-- What the program writes.
use Rattle.std.specs.Prelude.{◌≡◌, ◌≤◌, ℕ, ◌⊎◌, List, ◌++◌, Option, codes, length}
use Rattle.std.specs.Fmt.{decimal}
use Rattle.std.specs.Io.KnownBytes.{Appends, Consumes, IsAtEnd, Keeps}
use Rattle.rio_chars.specs.Fronts.{AppendsFront}
use Rattle.link_model.specs.declared.event.Event.{Event}
use Rattle.fabric_script.specs.declared.lines.Numbered.{Numbered}
use Rattle.fabric_script.specs.declared.ports.PortRef.{PortRef}
use Rattle.fabric_script.specs.Scripts.{IsScript, RefusedAt}
use Rattle.fabric_replay.specs.Replaying.{ReplayedWhole, ReplayedUndetected, ReplayedFront}
use Rattle.rio_chars.specs.declared.chars.Char.{Char}
use Rattle.script_input.specs.Inputs.{IsRefusedInput}
use Rattle.trace_check.specs.Outcomes.{HasUnlawful}
use Rattle.rio_cli.specs.Checking.{HasTrace, ChecksTrace, ChecksFront}
use Rattle.rio_cli.specs.Numbering.{HasHost, IsRefusedFor, Numbers, FindsLock, NumbersFront}
use Rattle.io_script.specs.IoScripts.{IsIoRefused}
use Rattle.rio_cli.specs.Accessing.{HasAccesses, CarriesOut, CarriesFront}
use Rattle.rio_cli.specs.Contesting.{HasHosts, IsRefusedForTwo, Contests, ContestsFront}
use Rattle.rio_cli.specs.Decoding.{SpellsChars, BadWordAt, Decodes, DecodesFront}
use Rattle.rio_cli.specs.declared.status.Status.{Status}
use Rattle.rio_cli.specs.declared.status.Status.TheVariants.{Script, Unlawful}
use Rattle.rio_cli.specs.Inputs.{most_input}
use Rattle.rio_cli.specs.declared.command.Command.{Command}
use Rattle.rio_cli.specs.declared.command.Command.TheVariants.{Replay, Decode, Check, Io, Enumerate, Contest}

-- the line that refuses an input, or says that it is not lawful
abbrev pub verdict_word : Status → List ℕ
verdict_word Unlawful = codes "unlawful "
verdict_word _ = codes "refused "

abbrev pub verdict_text : Status → ℕ → ℕ → List ℕ
verdict_text status line reason =
    verdict_word status ++ (decimal line ++ (codes " " ++ (decimal reason ++ codes "\n")))

-- the lines that refuse words, and an input that is too long
abbrev pub refused_words : List ℕ
refused_words = codes "refused words\n"

abbrev pub refused_length : List ℕ
refused_length = codes "refused length\n"

-- The bytes spell a script. The text of its trace was written, and every event that a port acted
-- on was sent.
pub record Traces (bytes : List ℕ) (written written_after : Option (List ℕ)) : Type 0 where
  pub names : List (List ℕ)
  pub script : List Numbered
  pub spells : IsScript bytes names script
  pub replayed : ReplayedWhole names script written written_after

-- The bytes spell a script. The text of its trace was written, up to the line that names the first
-- event that a port acted on and that was not sent.
pub record TracesUndetected (bytes : List ℕ)
    (written written_after : Option (List ℕ)) : Type 0 where
  pub names : List (List ℕ)
  pub script : List Numbered
  pub spells : IsScript bytes names script
  pub line : ℕ
  pub port : PortRef
  pub event : Event
  pub replayed : ReplayedUndetected names script line port event written written_after

-- The bytes spell a script, and a front of its trace was written.
pub record TracesFront (bytes : List ℕ) (written written_after : Option (List ℕ)) : Type 0 where
  pub names : List (List ℕ)
  pub script : List Numbered
  pub spells : IsScript bytes names script
  pub front : ReplayedFront names script written written_after

-- the bytes spell a script
abbrev pub SpellsScript : List ℕ → Type 0
SpellsScript bytes =
    (names : List (List ℕ)) × (script : List Numbered) × IsScript bytes names script

-- ---- what each command makes of an input that was read whole, a row each

-- the input is carried out
abbrev pub InputIsAccepted : Command → List ℕ → Type 0
InputIsAccepted Replay = SpellsScript
InputIsAccepted Decode = λ bytes. (chars : List Char) × SpellsChars bytes chars
InputIsAccepted Check = HasTrace
InputIsAccepted Io = HasAccesses
InputIsAccepted (Enumerate node) = HasHost node
InputIsAccepted (Contest first second seed) = HasHosts first second

-- the input is refused, at this line and for this reason
abbrev pub InputIsRefused : Command → List ℕ → ℕ → ℕ → Type 0
InputIsRefused Replay = RefusedAt
InputIsRefused Decode = λ bytes line reason. BadWordAt bytes line × (reason ≡ 1)
InputIsRefused Check = IsRefusedInput
InputIsRefused Io = IsIoRefused
InputIsRefused (Enumerate node) = IsRefusedFor node
InputIsRefused (Contest first second seed) = IsRefusedForTwo first second

-- the input is carried out, and is not lawful, at this line and for this reason
abbrev pub InputIsUnlawful : Command → List ℕ → ℕ → ℕ → Type 0
InputIsUnlawful Check = HasUnlawful
InputIsUnlawful _ = λ bytes line reason. ⊥

-- a line of the input is told with this status, and this reason
abbrev pub InputIsHit : Status → Command → List ℕ → ℕ → ℕ → Type 0
InputIsHit Script = InputIsRefused
InputIsHit Unlawful = InputIsUnlawful
InputIsHit _ = λ command bytes line reason. ⊥

-- the input is carried out, and all was written that the command writes of it
abbrev pub Completes : Command → List ℕ → Option (List ℕ) → Option (List ℕ) → Type 0
Completes Replay = Traces
Completes Decode = Decodes
Completes Check = ChecksTrace
Completes Io = CarriesOut
Completes (Enumerate node) = Numbers node
Completes (Contest first second seed) = Contests first second seed

-- the input is carried out, and a front of that was written
abbrev pub CompletesFront : Command → List ℕ → Option (List ℕ) → Option (List ℕ) → Type 0
CompletesFront Replay = TracesFront
CompletesFront Decode = DecodesFront
CompletesFront Check = ChecksFront
CompletesFront Io = CarriesFront
CompletesFront (Enumerate node) = NumbersFront node
CompletesFront (Contest first second seed) = ContestsFront first second seed

-- the input is carried out up to an event that a port acted on and that was not sent, and all was
-- written that the
-- command writes then
abbrev pub Exposes : Command → List ℕ → Option (List ℕ) → Option (List ℕ) → Type 0
Exposes Replay = TracesUndetected
Exposes _ = λ bytes written written_after. ⊥

-- the input is carried out up to a device that another host holds, and all was written that the
-- command writes then
abbrev pub Meets : Command → List ℕ → Option (List ℕ) → Option (List ℕ) → Type 0
Meets (Enumerate node) = FindsLock node
Meets _ = λ bytes written written_after. ⊥

-- memory ran out while the input was carried out, and so much was written
abbrev pub RunsOut : Command → List ℕ → Option (List ℕ) → Option (List ℕ) → Type 0
RunsOut Replay = TracesFront
RunsOut Io = CarriesFront
RunsOut (Enumerate node) = NumbersFront node
RunsOut _ = λ bytes written written_after. Keeps written written_after

-- ---- what is the same for all commands

-- The input is refused or not lawful, and the line that says so was written.
pub record Declines (status : Status) (command : Command) (bytes : List ℕ)
    (written written_after : Option (List ℕ)) : Type 0 where
  pub line : ℕ
  pub reason : ℕ
  pub hit : InputIsHit status command bytes line reason
  pub told : Appends written written_after (verdict_text status line reason)

-- The same, and a front of that line was written.
pub record DeclinesFront (command : Command) (bytes : List ℕ)
    (written written_after : Option (List ℕ)) : Type 0 where
  pub status : Status
  pub line : ℕ
  pub reason : ℕ
  pub hit : InputIsHit status command bytes line reason
  pub told : AppendsFront written written_after (verdict_text status line reason)

-- what was written if a write failed, of an input that was read whole
abbrev pub Breaks : Command → List ℕ → Option (List ℕ) → Option (List ℕ) → Type 0
Breaks command bytes written written_after = CompletesFront command bytes written written_after
    ⊎ DeclinesFront command bytes written written_after

-- the source was read to its end, and gave these bytes, which are not too many
pub record Gave (left left_after : Option (List ℕ)) (bytes : List ℕ) : Type 0 where
  pub told : Consumes left left_after bytes
  pub end : IsAtEnd left_after
  pub within : length bytes ≤ most_input

-- the source was read to its end, and of the bytes that it gave this holds
pub record OfInput (left left_after : Option (List ℕ)) (Holds : List ℕ → Type 0) : Type 0 where
  pub bytes : List ℕ
  pub gave : Gave left left_after bytes
  pub holds : Holds bytes
