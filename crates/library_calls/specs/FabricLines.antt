-- What a line does that an open fabric is given.
use Rattle.std.specs.Prelude.{◌≡◌, ◌⊎◌, ◌++◌, ℕ, ◌+◌, Bool, true, false, Option, Result, Ok, Err, List}
use Rattle.std.specs.Io.KnownBytes.{Appends}
use Rattle.live_fabric.specs.declared.session.Session.{Session}
use Rattle.live_fabric.specs.declared.answers.AfterLine.{AfterLine}
use Rattle.live_fabric.specs.declared.answers.AfterLine.TheVariants as going
use Rattle.live_fabric.specs.declared.answers.BrokenOff.{BrokenOff}
use Rattle.live_fabric.specs.Sessions.{SessionHeld, LineAnswers, IsSessionFront, SessionHolds, SessionGoes}
use Rattle.library_calls.specs.declared.status.CallStatus.{CallStatus}
use Rattle.library_calls.specs.declared.status.CallStatus.TheVariants.{Done, Undetected, Cut, Spent}
use Rattle.library_calls.specs.FabricsSeen.{FabricSeen, is_fabric_spent}

-- The line of this number was answered with this text, and then there may be a further one, or the
-- last event was not sent.
pub record FabricAnswered (held : SessionHeld) (number : ℕ) (line text : List ℕ)
    (session : Session) (goes : AfterLine) : Type 0 where
  pub next : SessionHeld
  pub answers : LineAnswers held number line text next
  pub stands : SessionGoes goes session next

-- The text is a front of the answer of the line of this number, or of what was told of its events
-- up to where it broke off.
abbrev pub IsFabricFront : SessionHeld → ℕ → List ℕ → List ℕ → Type 0
IsFabricFront held number line text = (rest : List ℕ)
    × (((next : SessionHeld) × LineAnswers held number line (text ++ rest) next)
    ⊎ IsSessionFront held number line (text ++ rest))

-- the same of a fabric, which counts the line, and is spent or not
pub record FabricLineTold (old : FabricSeen) (line : List ℕ) (spent : Bool) (goes : AfterLine)
    (new : FabricSeen) : Type 0 where
  pub going : is_fabric_spent old ≡ false
  pub answered : (held : SessionHeld) → SessionHolds old.session held
      → FabricAnswered held (old.number + 1) line new.text new.session goes
  pub counts : new.number ≡ old.number + 1
  pub spent_is : new.spent ≡ spent

-- memory was refused while the line was answered: a front of the answer waits, and the fabric is
-- spent
pub record FabricLineCut (old : FabricSeen) (line : List ℕ) (new : FabricSeen) : Type 0 where
  pub going : is_fabric_spent old ≡ false
  pub front : (held : SessionHeld) → SessionHolds old.session held
      → IsFabricFront held (old.number + 1) line new.text
  pub counts : new.number ≡ old.number + 1
  pub spent_is : new.spent ≡ true

-- A spent fabric stays as it is.
abbrev pub FabricLineDid : List ℕ → FabricSeen → CallStatus → FabricSeen → Type 0
FabricLineDid line old Done new = FabricLineTold old line false going.On new
FabricLineDid line old Undetected new = FabricLineTold old line true going.Undetected new
FabricLineDid line old Cut new = FabricLineCut old line new
FabricLineDid line old Spent new = (is_fabric_spent old ≡ true) × (new ≡ old)
FabricLineDid line old _ new = ⊥

-- What a line was answered with was written, or a front of it.
abbrev pub TellsFabricLine : SessionHeld → ℕ → List ℕ → Result AfterLine BrokenOff → Session
    → Option (List ℕ) → Option (List ℕ) → Type 0
TellsFabricLine held number line (Ok goes) session written written_after = (text : List ℕ)
    × FabricAnswered held number line text session goes × Appends written written_after text
TellsFabricLine held number line (Err broken) session written written_after = (text : List ℕ)
    × IsFabricFront held number line text × Appends written written_after text
