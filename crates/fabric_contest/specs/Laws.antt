-- What holds of every contest of two hosts of a script.
use Rattle.std.specs.Prelude.{◌≡◌, ◌≢◌, ℕ, ◌<◌, List, ◌∷◌, ◌++◌, Some}
use Rattle.link_watch.specs.declared.side.Side.{Side}
use Rattle.link_watch.specs.declared.side.Side.TheVariants.{A, B}
use Rattle.fabric_script.specs.declared.ports.PortRef.{PortRef}
use Rattle.fabric_map.specs.Topology.{entered}
use Rattle.fabric_map.specs.Routes.{AllRegisters}
use Rattle.fabric_map.specs.Ways.{IsOpened}
use Rattle.contest_machine.specs.Machine.{Walker}
use Rattle.contest_machine.specs.Contest.{Keeps}
use Rattle.contest_machine.specs.Turns.{Both, turn_of, after_turns}
use Rattle.fabric_script.specs.declared.lines.Numbered.{Numbered}
use Rattle.fabric_script.specs.Scripts.{ScriptPasses}
use Rattle.fabric_map.specs.Plain.{registers_of}
use Rattle.host_enumerate.specs.Devised.{IsHost, devices_of, links_of}
use Rattle.contest_machine.specs.Keeping.{IsNew, KeepsApart, HoldsOn}
use Rattle.fabric_contest.specs.Contests.{contest_of}

-- the ID of a node
abbrev pub id_of_node : List Numbered → ℕ → ℕ
id_of_node lines node = (registers_of (devices_of lines) node).base_id

-- These are two hosts of a script that passes.
pub record AreHosts (names : List (List ℕ)) (lines : List Numbered) (first second : ℕ) : Type 0
  where
    pub passes : ScriptPasses names lines
    pub first_host : IsHost (devices_of lines) (links_of lines) first
    pub second_host : IsHost (devices_of lines) (links_of lines) second
    pub differ : first ≢ second

-- Whatever the number, no device is kept by both, and what is kept bears the ID of its host.
abbrev pub ContestsKeepApart : Type 0
ContestsKeepApart = (names : List (List ℕ)) (lines : List Numbered) (first second seed : ℕ)
    → AreHosts names lines first second
    → KeepsApart (registers_of (devices_of lines)) (contest_of lines first second seed)

-- no set-up line locks a device
abbrev pub SetUpIsUnlocked : List Numbered → Type 0
SetUpIsUnlocked lines = (node : ℕ) → (registers_of (devices_of lines) node).lock ≡ 0xffff

-- Whatever the number, the host with the greater ID does not give up what it keeps, if no device is
-- locked at first.
abbrev pub FirstHoldsOn : Type 0
FirstHoldsOn = (names : List (List ℕ)) (lines : List Numbered) (first second seed : ℕ)
    → AreHosts names lines first second → SetUpIsUnlocked lines
    → id_of_node lines second < id_of_node lines first
    → HoldsOn (contest_of lines first second seed).first.stage

abbrev pub SecondHoldsOn : Type 0
SecondHoldsOn = (names : List (List ℕ)) (lines : List Numbered) (first second seed : ℕ)
    → AreHosts names lines first second → SetUpIsUnlocked lines
    → id_of_node lines first < id_of_node lines second
    → HoldsOn (contest_of lines first second seed).second.stage

-- ---- ways

-- A walker keeps each switch that a path passes.
abbrev pub PassesKept : Walker → List ℕ → Type 0
PassesKept w path = (first : ℕ) (front rest : List ℕ) (port : ℕ) (at : PortRef)
    → path ≡ first ∷ front ++ port ∷ rest → entered w.view (first ∷ front) ≡ Some at
    → Keeps w at.node

-- A walker that keeps all switches of a way, which is open to it, finds it open in these registers.
abbrev pub StaysOpen : Walker → AllRegisters → AllRegisters → Type 0
StaysOpen w old new = (path : List ℕ) → PassesKept w path → IsOpened w.view old w.id path
    → IsOpened w.view new w.id path

-- Two new walkers have different IDs.
pub record AreNewWalkers (both : Both) : Type 0 where
  pub new_first : IsNew both.first
  pub new_second : IsNew both.second
  pub differ : both.first.id ≢ both.second.id
  pub first_id : both.first.id < 0xff
  pub second_id : both.second.id < 0xff

-- Whatever the turns were, the next turn of one walker closes no such way of the other.
abbrev pub FirstStaysOpen : Type 0
FirstStaysOpen = (both : Both) (turns : List Side) → AreNewWalkers both
    → StaysOpen (after_turns both turns).first (after_turns both turns).registers
    (turn_of (after_turns both turns) B).registers

abbrev pub SecondStaysOpen : Type 0
SecondStaysOpen = (both : Both) (turns : List Side) → AreNewWalkers both
    → StaysOpen (after_turns both turns).second (after_turns both turns).registers
    (turn_of (after_turns both turns) A).registers
