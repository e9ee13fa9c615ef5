-- What a script of reads and writes writes.
use Rattle.std.specs.Prelude.{◌≡◌, ℕ, ◌<◌, false, List, [], ◌∷◌, ◌++◌, All, length, map, replicate, Option}
use Rattle.std.specs.Io.KnownBytes.{Appends}
use Rattle.rio_chars.specs.Fronts.{AppendsFront}
use Rattle.fabric_script.specs.Lines.{is_event}
use Rattle.fabric_script.specs.Scripts.{ScriptPasses}
use Rattle.fabric_script.specs.declared.lines.Numbered.{Numbered}
use Rattle.fabric_model.specs.Laws.Freeing.{IsFront}
use Rattle.fabric_model.specs.Network.{Network, IsEndpoint}
use Rattle.trace_lines.specs.Lines.{TraceLine, Ended}
use Rattle.fabric_trace.specs.Runs.{start, Runs}
use Rattle.fabric_trace.specs.Shown.{Shown}
use Rattle.io_packets.specs.Forms.{IsGood}
use Rattle.io_packets.specs.declared.io.Io.TheVariants as Ios
use Rattle.io_script.specs.declared.lines.IoLine.{IoLine}
use Rattle.io_script.specs.declared.lines.IoLine.TheVariants.{Memory, NRead, NWrite, NWriteR, SWrite, Round}
use Rattle.io_script.specs.declared.lines.NumberedIo.{NumberedIo}
use Rattle.io_rounds.specs.Stations.{new_station}
use Rattle.io_rounds.specs.Tasks.{Carry, Finish}
use Rattle.io_rounds.specs.Going.{IoState, IoComes}

-- ---- what is asked of a script

-- a node is an endpoint that has a name
abbrev pub IsStation : List (List ℕ) → Network → ℕ → Type 0
IsStation names net node = (node < length names) × IsEndpoint net node

-- the line names an endpoint, and what it asks for is a request of the profile
abbrev pub MayCarry : List (List ℕ) → Network → IoLine → Type 0
MayCarry names net (Memory node bytes) = IsStation names net node
MayCarry names net (NRead node dest addr size) =
    IsStation names net node × IsGood (Ios.NRead 0 addr size)
MayCarry names net (NWrite node dest addr load) =
    IsStation names net node × IsGood (Ios.NWrite addr load)
MayCarry names net (NWriteR node dest addr load) =
    IsStation names net node × IsGood (Ios.NWriteR 0 addr load)
MayCarry names net (SWrite node dest addr load) =
    IsStation names net node × IsGood (Ios.SWrite addr load)
MayCarry names net Round = Unit {0}

-- The line asks for no answer: what it asks for is a request of the profile.
abbrev pub AsksNoAnswer : IoLine → Type 0
AsksNoAnswer (NWrite node dest addr load) = IsGood (Ios.NWrite addr load)
AsksNoAnswer (SWrite node dest addr load) = IsGood (Ios.SWrite addr load)
AsksNoAnswer _ = ⊥

-- The line asks, of one of so many nodes, for a request of the profile.
abbrev pub AsksWithin : ℕ → IoLine → Type 0
AsksWithin count (NRead node dest addr size) = (node < count) × IsGood (Ios.NRead 0 addr size)
AsksWithin count (NWriteR node dest addr load) = (node < count) × IsGood (Ios.NWriteR 0 addr load)
AsksWithin count (Memory node bytes) = ⊥
AsksWithin count Round = ⊥
AsksWithin count line = AsksNoAnswer line

-- The script passes and has no events, and each line behind it may be carried out.
pub record IsIoFit (names : List (List ℕ)) (script : List Numbered) (io : List NumberedIo) : Type 0
  where
    pub passes : ScriptPasses names script
    pub sets_up : All (λ line. is_event line.line ≡ false) script
    pub may : All (λ line. MayCarry names (start script).network line.io) io

-- ---- what is written

-- nothing is done yet: all lines have to be carried out, and then the last line written
abbrev pub first_state : List (List ℕ) → List NumberedIo → IoState
first_state names io = record {
  events = [];
  trace = [];
  output = [];
  stations = replicate (length names) new_station;
  tasks = map (λ line. Carry line.io) io ++ Finish ∷ [];
}

-- All tasks were done. The events are these, behind the set-up lines they have this trace, of which
-- all laws of a trace hold, and this is written.
pub record Drives (names : List (List ℕ)) (script : List Numbered) (io : List NumberedIo)
    (events : List Numbered) (trace : List TraceLine) (output : List ℕ) : Type 0 where
  pub end : IoState
  pub comes : IoComes names script (first_state names io) end
  pub over : end.tasks ≡ []
  pub same_events : events ≡ end.events
  pub same_trace : trace ≡ end.trace ++ Ended ∷ []
  pub same_output : output ≡ end.output
  pub runs : Runs (script ++ events) trace
  pub shown : Shown (script ++ events) trace

-- The whole output was written. There is no other.
pub record DrivenWhole (names : List (List ℕ)) (script : List Numbered) (io : List NumberedIo)
    (written written_after : Option (List ℕ)) : Type 0 where
  pub events : List Numbered
  pub trace : List TraceLine
  pub output : List ℕ
  pub drives : Drives names script io events trace output
  pub told : Appends written written_after output
  pub only : (others : List Numbered) (lines : List TraceLine) (text : List ℕ)
      → Drives names script io others lines text → text ≡ output

-- The first tasks were done, and a front of what they write was written. It is a front of the whole
-- output.
pub record DrivenFront (names : List (List ℕ)) (script : List Numbered) (io : List NumberedIo)
    (written written_after : Option (List ℕ)) : Type 0 where
  pub state : IoState
  pub comes : IoComes names script (first_state names io) state
  pub told : AppendsFront written written_after state.output
  pub front : (events : List Numbered) (trace : List TraceLine) (output : List ℕ)
      → Drives names script io events trace output → IsFront state.output output
