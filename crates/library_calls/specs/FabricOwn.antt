-- What a node does with its own registers, of an open fabric that is told so by numbers.
use Rattle.std.specs.Prelude.{◌≡◌, ◌≢◌, ◌<◌, ℕ, true, false, List}
use Rattle.live_fabric.specs.declared.session.Session.{Session}
use Rattle.live_fabric.specs.declared.asking.AskOutcome.{AskOutcome}
use Rattle.live_fabric.specs.Sessions.{SessionHeld, SessionHolds, OwnReadCame, OwnWriteCame}
use Rattle.library_calls.specs.declared.status.CallStatus.{CallStatus}
use Rattle.library_calls.specs.declared.status.CallStatus.TheVariants.{Done, Argument, Cut, Spent}
use Rattle.library_calls.specs.declared.told.OwnAccess.{OwnAccess}
use Rattle.library_calls.specs.declared.told.RegisterReply.{RegisterReply}
use Rattle.library_calls.specs.FabricsSeen.{FabricSeen}
use Rattle.library_calls.specs.FabricAsks.{no_reply, outcome_numbers}

-- the offset has 24 bits
abbrev pub OwnFits : OwnAccess → Type 0
OwnFits access = access.offset < 16777216

-- a node of this name read one of its registers or wrote one, or there is none of this name
pub record OwnCame (held : SessionHeld) (name : List ℕ) (access : OwnAccess) (session : Session)
    (outcome : AskOutcome) : Type 0 where
  pub reads : access.write ≡ 0 → OwnReadCame held name access.offset session outcome
  pub writes : access.write ≢ 0
      → OwnWriteCame held name access.offset access.value session outcome

-- This came of it, and it was told in numbers. It counts as no line, the text that waits stays, and
-- there may be a further line.
pub record FabricOwnTold (name : List ℕ) (access : OwnAccess) (told : RegisterReply)
    (old new : FabricSeen) : Type 0 where
  pub fits : OwnFits access
  pub going : old.spent ≡ false
  pub outcome : AskOutcome
  pub came : (held : SessionHeld) → SessionHolds old.session held
      → OwnCame held name access new.session outcome
  pub numbers : told ≡ outcome_numbers outcome
  pub rest : new ≡ record old { session = new.session }

-- memory was refused: nothing was told, the text that waits stays, and the fabric is spent
pub record FabricOwnCut (access : OwnAccess) (told : RegisterReply) (old new : FabricSeen)
    : Type 0 where
  pub fits : OwnFits access
  pub going : old.spent ≡ false
  pub nothing : told ≡ no_reply
  pub rest : new ≡ record old { session = new.session; spent = true }

-- A spent fabric stays as it is, and so does one that is given an offset out of range.
abbrev pub FabricOwnDid : List ℕ → OwnAccess → RegisterReply → FabricSeen → CallStatus
    → FabricSeen → Type 0
FabricOwnDid name access told old Done new = FabricOwnTold name access told old new
FabricOwnDid name access told old Cut new = FabricOwnCut access told old new
FabricOwnDid name access told old Spent new =
    (old.spent ≡ true) × (told ≡ no_reply) × (new ≡ old)
FabricOwnDid name access told old Argument new =
    (OwnFits access → ⊥) × (told ≡ no_reply) × (new ≡ old)
FabricOwnDid name access told old _ new = ⊥
