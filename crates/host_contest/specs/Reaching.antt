-- Which accesses reach a device and come back.
use Rattle.std.specs.Prelude.{◌≡◌, ◌≢◌, ℕ, ◌-◌, ◌<◌, ◌≤◌, ◌^◌, true, false, List, [], ◌∷◌, length, Some}
use Rattle.fabric_script.specs.declared.ports.PortRef.{PortRef}
use Rattle.fabric_map.specs.Topology.{Topology, entered}
use Rattle.fabric_map.specs.Routes.{AllRegisters}
use Rattle.host_enumerate.specs.declared.maint.Access.{Access}
use Rattle.host_enumerate.specs.Accesses.{IsAnswered}
use Rattle.contest_machine.specs.declared.stages.Asked.{Asked}
use Rattle.contest_machine.specs.declared.stages.PendingWrite.{PendingWrite}
use Rattle.contest_machine.specs.declared.stages.Stage.{Stage}
use Rattle.contest_machine.specs.declared.stages.Stage.TheVariants.{Ask, Claim, Check, Test, Features, Information, Status, Free, Done, Lost}
use Rattle.contest_machine.specs.Machine.{Walker, wants}

-- The path enters a device by this port. It is the host's own, or else the request ends at the
-- device, which is not the host, and the response comes back by the tables as the access leaves
-- them.
pub record PathIsReached (view : Topology) (registers : AllRegisters) (path : List ℕ)
    (access : Access)
    (at : PortRef) : Type 0 where
  pub leads : entered view path ≡ Some at
  pub short : length path ≤ 64
  pub answered : path ≢ [] → IsAnswered view registers 255 (length path - 1) access at

-- whatever the walker asks next
abbrev pub CanReach : Walker → AllRegisters → Type 0
CanReach w registers = (ask : Asked) → wants w ≡ Some ask
    → (at : PortRef) × PathIsReached w.view registers ask.path ask.access at

-- what is asked next is of a lock or of a tag
abbrev pub IsOfLock : Stage → Type 0
IsOfLock Ask = Unit {0}
IsOfLock Claim = Unit {0}
IsOfLock Check = Unit {0}
IsOfLock Test = Unit {0}
IsOfLock Features = ⊥
IsOfLock Information = ⊥
IsOfLock Status = ⊥
IsOfLock Free = ⊥
IsOfLock Done = ⊥
IsOfLock Lost = ⊥

-- the walker locks its own host
pub record IsAtHost (w : Walker) : Type 0 where
  pub path : w.path ≡ []
  pub clear : w.todo ≡ []
  pub stage : IsOfLock w.stage

-- Its next access reaches a device. In its first turn that is the host.
pub record CanReachOn (w : Walker) (registers : AllRegisters) : Type 0 where
  pub later : w.begun ≡ true → CanReach w registers
  pub first : w.begun ≡ false → IsAtHost w

-- the offsets of what is to be written fit a request
abbrev pub AreLow : List PendingWrite → Type 0
AreLow [] = Unit {0}
AreLow (p ∷ rest) = (p.offset < 2 ^ 24) × AreLow rest
