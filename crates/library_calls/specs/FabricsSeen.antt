-- What contracts see of an open fabric.
use Rattle.std.specs.Prelude.{◌≡◌, ◌==◌, ℕ, Bool, true, false, List, [], drop, if◌then◌else◌}
use Rattle.live_fabric.specs.declared.session.Session.{Session}
use Rattle.live_fabric.specs.Sessions.{SessionHeld, nothing_held, SessionHolds}
use Rattle.library_calls.specs.Rooms.{TextTaken}

-- The fabric, how many lines it was given, whether it is spent, and the text that was told and is
-- not taken yet.
pub record FabricSeen : Type 0 where
  pub session : Session
  pub number : ℕ
  pub spent : Bool
  pub text : List ℕ

-- No further line is answered: it is spent, or the numbers of lines are.
abbrev pub is_fabric_spent : FabricSeen → Bool
is_fabric_spent fabric = if fabric.spent then true else (fabric.number == 4294967295)

-- unless it is spent, it holds lines that were taken, and how they are answered
abbrev pub FabricHolds : FabricSeen → Type 0
FabricHolds fabric = fabric.spent ≡ false → (held : SessionHeld) × SessionHolds fabric.session held

-- a front of the text that waits was taken
abbrev pub FabricTextTaken : List ℕ → List ℕ → ℕ → FabricSeen → FabricSeen → Type 0
FabricTextTaken room room_after count old new = TextTaken old.text room room_after count
    × (new ≡ record old { text = drop count old.text })

-- It was given no line, and nothing was told.
pub record IsOpenedFabric (fabric : FabricSeen) : Type 0 where
  pub holds : SessionHolds fabric.session nothing_held
  pub number : fabric.number ≡ 0
  pub going : fabric.spent ≡ false
  pub text : fabric.text ≡ []
