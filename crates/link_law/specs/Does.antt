-- What a call does of the schedule.
use Rattle.std.specs.Prelude.{◌≡◌, ◌≤◌, ℕ, true, List, [], ◌∷◌, Result, Ok, Err, IsErrOf}
use Rattle.rio_chars.specs.Faults.{Rose}
use Rattle.link_machine.specs.Prelude.{Stopped, Note, Side, LinkState, NoteEnd}
use Rattle.link_law.specs.declared.answers.LinkEnd.{LinkEnd}
use Rattle.link_law.specs.declared.answers.LinkEnd.TheVariants.{Undetected, Failed, NoMemory}
use Rattle.link_machine.specs.Acts.{Act, Pump, Tell, Reached, At, FoundAt, goes, acts_notes, holds_at}
use Rattle.link_machine.specs.Settling.{SchedulePart}
use Rattle.link_machine.specs.Schedules.{WhereOf, Is}
use Rattle.link_watch.specs.declared.watch.NoteEnd.TheVariants as Stop

-- a part of the schedule was done from a link on, up to here, and its notes were taken in
pub record Comes {W : Type 0} (grew : W → List Note → W → Type 0)
    (P : SchedulePart) (before : LinkState) (old : W) (to : Reached) (new : W) : Type 0 where
  pub acts : List Act
  pub part : P (At before) acts
  pub reached : goes (At before) acts ≡ to
  pub grown : grew old (acts_notes (At before) acts) new

-- a front of the notes of a part was taken in, and the watch stopped within the next one
pub record Stops {W : Type 0} (grew : W → List Note → W → Type 0) (cut : W → Note → W → Type 0)
    (P : SchedulePart) (before : LinkState) (old new : W) : Type 0 where
  pub acts : List Act
  pub part : P (At before) acts
  pub stopped : Stopped grew cut old (acts_notes (At before) acts) new

-- A call that does a part ended early: the part was done up to an event that was not sent, or
-- memory or the watch ended it.
abbrev pub Ends : {W : Type 0} → (W → List Note → W → Type 0) → (W → Note → W → Type 0)
    → SchedulePart → LinkState → W → LinkEnd → W → Type 0
Ends grew cut P before old (Undetected side e) new = Comes grew P before old (FoundAt side e) new
Ends grew cut P before old Failed new = Stops grew cut P before old new
Ends grew cut P before old NoMemory new = Stops grew cut P before old new

-- by what the call answers
abbrev pub CallDid : {W : Type 0} → (W → List Note → W → Type 0) → (W → Note → W → Type 0)
    → SchedulePart → LinkState → W → Result (Unit {0}) LinkEnd → LinkState → W → Type 0
CallDid grew cut P before old (Ok done) next new = Comes grew P before old (At next) new
CallDid grew cut P before old (Err end) next new = Ends grew cut P before old end new

-- `Failed` comes only if the watch's count of failed notes rose, which rises at no other answer,
-- and
-- it never falls
abbrev pub FailuresCounted : Result (Unit {0}) LinkEnd → ℕ → ℕ → Type 0
FailuresCounted result old new =
    (IsErrOf result Failed → Rose old new)
    × (¬ IsErrOf result Failed → new ≡ old) × (old ≤ new)

-- a status of a port that tells its free buffers
abbrev pub TellsOnce : Side → SchedulePart
TellsOnce side = Is (λ reached. Tell side ∷ [])

-- a turn of a port
abbrev pub Pumps : Side → SchedulePart
Pumps side = WhereOf (holds_at (λ link. true)) (Is (λ reached. Pump side 1 ∷ []))

-- the answer of a call, if a note was not taken in
abbrev pub end_of : NoteEnd → LinkEnd
end_of Stop.Failed = Failed
end_of Stop.NoMemory = NoMemory
