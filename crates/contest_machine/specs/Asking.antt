-- When packets carry what a host asks.
use Rattle.std.specs.Prelude.{◌≡◌, ◌≢◌, ◌-◌, List, [], length, Some}
use Rattle.fabric_script.specs.declared.ports.PortRef.{PortRef}
use Rattle.fabric_map.specs.Topology.{entered}
use Rattle.fabric_map.specs.Routes.{AllRegisters}
use Rattle.fabric_map.specs.Ways.{IsOpened}
use Rattle.host_enumerate.specs.Accesses.{IsAnswered}
use Rattle.host_enumerate.specs.Underway.{AreOwnUntagged}
use Rattle.link_watch.specs.declared.side.Side.{Side}
use Rattle.contest_machine.specs.declared.stages.Asked.{Asked}
use Rattle.contest_machine.specs.declared.stages.Stage.TheVariants.{Free}
use Rattle.contest_machine.specs.Machine.{Walker, wants}
use Rattle.contest_machine.specs.Turns.{Both, after_turns}
use Rattle.contest_machine.specs.Locks.{walker_of}
use Rattle.contest_machine.specs.Going.{AreBegun}

-- A walker that does not give up wants this access. The path is not empty, as that of the host
-- itself is, and enters a device by this port. The switches that it passes are open for the walker.
pub record WantsAlong (w : Walker) (now : AllRegisters) (ask : Asked) (at : PortRef) : Type 0 where
  pub wanted : wants w ≡ Some ask
  pub keeps_on : w.stage ≢ Free
  pub some : ask.path ≢ []
  pub leads : entered w.view ask.path ≡ Some at
  pub opened : IsOpened w.view now w.id ask.path

-- A request for 255 with a hop for each port of the path but the first ends at the device, and its
-- response comes back to the host, by the tables that stand after the access.
abbrev pub IsCarried : Walker → AllRegisters → Asked → PortRef → Type 0
IsCarried w now ask at = IsAnswered w.view now 255 (length ask.path - 1) ask.access at

-- Whatever turns two hosts have made, an access along an open path is carried, if the host does not
-- give up. At first no device that bears its ID has a tag.
abbrev pub OpenPathsCarry : Type 0
OpenPathsCarry = (both : Both) (turns : List Side) (side : Side) (ask : Asked) (at : PortRef)
    → AreBegun both
    → AreOwnUntagged (walker_of both side).view both.registers (walker_of both side).id
    → WantsAlong (walker_of (after_turns both turns) side) (after_turns both turns).registers ask at
    → IsCarried (walker_of (after_turns both turns) side) (after_turns both turns).registers ask at

-- A walker wants this access on a path that is not the host's own. The path enters a device by this
-- port.
pub record WantsBehind (w : Walker) (ask : Asked) (at : PortRef) : Type 0 where
  pub wanted : wants w ≡ Some ask
  pub some : ask.path ≢ []
  pub leads : entered w.view ask.path ≡ Some at

-- Whatever turns two hosts have made, the path of the next access of either is open to it.
abbrev pub PathsAreOpened : Type 0
PathsAreOpened = (both : Both) (turns : List Side) (side : Side) (ask : Asked)
    → AreBegun both
    → AreOwnUntagged (walker_of both side).view both.registers (walker_of both side).id
    → wants (walker_of (after_turns both turns) side) ≡ Some ask
    → IsOpened (walker_of (after_turns both turns) side).view (after_turns both turns).registers
    (walker_of (after_turns both turns) side).id ask.path

-- So each access behind the host is carried, also those of a host that gives up.
abbrev pub AccessesAreCarried : Type 0
AccessesAreCarried = (both : Both) (turns : List Side) (side : Side) (ask : Asked) (at : PortRef)
    → AreBegun both
    → AreOwnUntagged (walker_of both side).view both.registers (walker_of both side).id
    → WantsBehind (walker_of (after_turns both turns) side) ask at
    → IsCarried (walker_of (after_turns both turns) side) (after_turns both turns).registers ask at
