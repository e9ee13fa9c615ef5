-- What a node did with its own registers.
use Rattle.std.proofs.Common.{◌≢◌, ℕ, List, Result, Ok, Err, IfOk}
use Rattle.live_fabric.specs.declared.asking.AskOutcome.{AskOutcome}
use Rattle.live_fabric.specs.declared.session.Session.{Session}
use Rattle.live_fabric.specs.Sessions.{SessionHeld, SessionHolds, OwnWriteCame}
use Rattle.library_calls.specs.declared.told.OwnAccess.{OwnAccess}
use Rattle.library_calls.specs.FabricOwn.{OwnCame}

-- it wrote one, unless memory was refused
pub own_written : {E : Type 0} (name : List ℕ) (access : OwnAccess) (before after : Session)
    (came : Result AskOutcome E) → access.write ≢ 0
    → IfOk came (λ outcome. (held : SessionHeld) → SessionHolds before held
    → OwnWriteCame held name access.offset access.value after outcome)
    → IfOk came (λ outcome. (held : SessionHeld) → SessionHolds before held
    → OwnCame held name access after outcome)
own_written name access before after (Ok outcome) other wrote = λ held holds.
    record { reads = λ zero. absurd (other zero); writes = λ _. wrote held holds }
own_written name access before after (Err error) other wrote = tt
