-- What a walker leaves open at each stage, said of the registers as its writes will make them.
use Rattle.contest_machine.proofs.Prelude.{◌≡◌, ◌≢◌, ℕ, ◌+◌, ◌<◌, nat_lt, Bool, true, false, List, [], ◌∷◌, Option, Some, None, Contains, length, subst, if◌then◌else◌, PortRef, Device, Topology, IsTopology, entered, onward, AllRegisters, Fits, paths_of, Contains-first, Write, after_access, Tried, Stage, Ask, Claim, Check, Test, Features, Information, Status, Free, Done, Lost, Walker, write, last_path, freeing, port_after, gone_on, taken}
use Rattle.contest_machine.proofs.Numbering.OnWay.{one_performed, performed}
use Rattle.contest_machine.proofs.Numbering.Along.{IsHere}
use Rattle.contest_machine.proofs.Numbering.Chained.{AreChained}
use Rattle.contest_machine.proofs.Asking.Guided.{AreBehindHost}
use Rattle.contest_machine.proofs.Asking.OpenWays.{IsWay, AreOpen, way-empty, way-front, way-sends, tag_sends}
use Rattle.contest_machine.proofs.Asking.Trees.{AreHome, IsTree, last_listed}
use Rattle.contest_machine.proofs.Asking.Leaving.{way_opened}

-- What a walker that gives up has left.
pub record IsLeaving (view : Topology) (devices : List Device) (id : ℕ)
    (now : AllRegisters) : Type 0
  where
    pub tree : IsTree view devices
    pub host : Contains (paths_of devices) []
    pub home : AreHome view devices id now
    pub base : (now view.host).base_id ≡ id
    pub way : IsWay view devices id now (last_path devices)

abbrev pub IsOpenTop : Topology → List Device → ℕ → AllRegisters → List Tried → Type 0
IsOpenTop view devices id now [] = Unit {0}
IsOpenTop view devices id now (top ∷ rest) = IsWay view devices id now top.path

-- the way along which a walker with this path and these switches asks next
abbrev pub IsOpenAt : Topology → List Device → ℕ → List ℕ → List Tried → AllRegisters → Stage
    → Type 0
IsOpenAt view devices id path tried now Ask = IsWay view devices id now path
IsOpenAt view devices id path tried now Claim = IsWay view devices id now path
IsOpenAt view devices id path tried now Check = IsWay view devices id now path
IsOpenAt view devices id path tried now Test = IsWay view devices id now path
IsOpenAt view devices id path tried now Features = IsWay view devices id now path
IsOpenAt view devices id path tried now Information = IsWay view devices id now path
IsOpenAt view devices id path tried now Status = IsOpenTop view devices id now tried
IsOpenAt view devices id path tried now Free = IsLeaving view devices id now
IsOpenAt view devices id path tried now Done = Unit {0}
IsOpenAt view devices id path tried now Lost = Unit {0}

abbrev pub StandsOpen : Walker → AllRegisters → Type 0
StandsOpen w now = IsOpenAt w.view w.devices w.id w.path w.tried now w.stage

-- each write finds its way open, and then what is asked next does
pub record IsOpening (w : Walker) (now : AllRegisters) : Type 0 where
  pub writes : AreOpen w.view w.devices w.id now w.todo
  pub stands : StandsOpen w (performed w.view now w.todo)

-- ---- the walker goes on

-- each switch whose ports are tried is behind the port of the one before it
abbrev pub AreNested : List Tried → Type 0
AreNested [] = Unit {0}
AreNested (top ∷ []) = Unit {0}
AreNested (top ∷ second ∷ rest) =
    (top.path ≡ onward second.path second.port) × AreNested (second ∷ rest)

pub nested : (view : Topology) (devices : List Device) (tried : List Tried)
    → AreChained view devices tried → AreNested tried
nested view devices [] chained = tt
nested view devices (top ∷ []) chained = tt
nested view devices (top ∷ second ∷ rest) chained =
    (chained.1, nested view devices (second ∷ rest) chained.2)

top-rest : (view : Topology) (devices : List Device) (id : ℕ) (now : AllRegisters) (top : Tried)
    (rest : List Tried) → AreNested (top ∷ rest) → IsWay view devices id now top.path
    → IsOpenTop view devices id now rest × AreNested rest
top-rest view devices id now top [] chain way = (tt, tt)
top-rest view devices id now top (second ∷ rest) chain way = (
  way-front view id devices now second.path (second.port ∷ [])
      (subst (IsWay view devices id now) chain.0 way),
  chain.1,
)

-- what is open behind a port is open to its switch
pub top_here : (view : Topology) (devices : List Device) (id : ℕ) (now : AllRegisters)
    (path : List ℕ) (tried : List Tried) → IsHere path tried → IsWay view devices id now path
    → IsOpenTop view devices id now tried
top_here view devices id now path [] here way = tt
top_here view devices id now path (top ∷ rest) here way =
    way-front view id devices now top.path (top.port ∷ [])
    (subst (IsWay view devices id now) here way)

pub gone_opening : (w : Walker) (now : AllRegisters) (tried : List Tried) → AreNested tried
    → AreOpen w.view w.devices w.id now w.todo
    → IsOpenTop w.view w.devices w.id (performed w.view now w.todo) tried
    → IsOpening (gone_on w tried) now
gone_opening w now [] chain writes top = record { writes = writes; stands = tt }
gone_opening w now (top ∷ rest) chain writes way =
    go (nat_lt (port_after top.entry top.port) top.ports)
    (let more = top-rest w.view w.devices w.id (performed w.view now w.todo) top rest chain way in
    gone_opening w now rest more.1 writes more.0)
  where
    go : (b : Bool) → IsOpening (gone_on w rest) now
        → IsOpening (if b then record w {
          tried = record top { port = port_after top.entry top.port } ∷ rest;
          stage = Status;
        }
        else gone_on w rest) now
    go true on = record { writes = writes; stands = way }
    go false on = on

-- ---- the walker gives up

pub freeing_opening : (w : Walker) (now : AllRegisters) (devices : List Device) → IsTopology w.view
    → w.id < 255 → AreBehindHost devices → Fits w.view now
    → (devices ≢ [] → IsTree w.view devices × AreHome w.view devices w.id now
    × ((now w.view.host).base_id ≡ w.id))
    → IsOpening (freeing w devices) now
freeing_opening w now [] proper fits behind shown some = record { writes = tt; stands = tt }
freeing_opening w now (device ∷ rest) proper fits behind shown some =
    let known = some (λ e. cc) in
    let opened = way_opened w.view proper w.id fits (device ∷ rest) known.0
    (last_path (device ∷ rest)) (last_listed (device ∷ rest) (λ e. cc)) now behind shown known.1
    known.2 in
    record {
      writes = opened.0;
      stands = record {
        tree = known.0;
        host = subst (Contains (paths_of (device ∷ rest))) known.0.first
            (Contains-first device.path (paths_of rest));
        home = opened.1;
        base = opened.2;
        way = opened.3;
      };
    }

-- ---- a device is taken

pub taken_opening : (w : Walker) (now : AllRegisters) (path : List ℕ) (stage : Stage)
    → IsWay w.view w.devices w.id now path
    → IsOpening (taken (record w { todo = []; path = path; stage = stage })) now
taken_opening w now [] stage way = record {
  writes = (way-empty w.view w.id w.devices _, (way-empty w.view w.id w.devices _, tt));
  stands = way-empty w.view w.id w.devices _;
}
taken_opening w now (x ∷ rest) stage way = record {
  writes = (way, tt);
  stands = go (entered w.view (x ∷ rest));
}
  where
    go : (o : Option PortRef) → IsWay w.view w.devices w.id
        (one_performed now (write (x ∷ rest) 0x6c (length w.devices + 1)) o) (x ∷ rest)
    go None = way
    go (Some at) =
        way-sends w.view w.id w.devices now
        (after_access now at (Write 0x6c (length w.devices + 1))) (x ∷ rest)
        (tag_sends w.view w.id now at (length w.devices + 1)) way
