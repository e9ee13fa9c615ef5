-- How many turns a walker has left at most, and how many locks it may still take.
use Rattle.contest_machine.proofs.Prelude.{◌≡◌, ◌≢◌, ℕ, zero, suc, ◌+◌, ◌*◌, ◌-◌, ◌≤◌, ◌==◌, nat_lt, Bool, true, false, eqb, List, [], ◌∷◌, ◌++◌, length, Option, Some, None, arith, refl, if◌then◌else◌, length-append, ltb-true, PortRef, Kind, Endpoint, Switch, Device, entered, AllRegisters, toward, Tried, Turn, Stage, Ask, Claim, Check, Test, Features, Information, Status, Free, Done, Lost, Walker, entry_set, route_of, route_pending, routes_to, cleared_below, home_set, own_id, write, last_path, but_last, freeing, port_after, gone_on, taken, going_one}
use Rattle.contest_machine.specs.declared.stages.Turn.TheVariants as Turns

-- ---- how much is left

-- a port that is tried costs at most 8 turns, and so does the last of a switch
abbrev pub ports_left : List Tried → ℕ
ports_left [] = 0
ports_left (top ∷ rest) = 8 * (top.ports - top.port) + 8 + ports_left rest

-- how many devices may still be taken in
abbrev pub room : List Device → ℕ
room devices = 64 - length devices

-- A device costs at most 300 turns besides its ports, and 8450 are kept to free all.
abbrev pub sought : Walker → ℕ
sought w = 8450 + 300 * room w.devices + ports_left w.tried + length w.todo

abbrev pub lock_is : AllRegisters → ℕ → Option PortRef → Bool
lock_is now lock None = false
lock_is now lock (Some at) = (now at.node).lock == lock

-- a claim fails only if the other took the lock, and costs 2 turns then
abbrev pub if_failed : Bool → ℕ
if_failed true = 0
if_failed false = 2

abbrev pub turns_left_at : Walker → AllRegisters → Stage → ℕ
turns_left_at w now Ask = sought w + 6
turns_left_at w now Claim = sought w + 5 + if_failed (lock_is now 0xffff (entered w.view w.path))
turns_left_at w now Check = sought w + 4 + if_failed (lock_is now w.id (entered w.view w.path))
turns_left_at w now Test = sought w + 4
turns_left_at w now Features = sought w + 1
turns_left_at w now Information = sought w
turns_left_at w now Status = sought w + 9
turns_left_at w now Free = length w.todo + 130 * length w.devices
turns_left_at w now Done = length w.todo
turns_left_at w now Lost = length w.todo

abbrev pub turns_left : Walker → AllRegisters → ℕ
turns_left w now = turns_left_at w now w.stage

abbrev pub if_won : Bool → ℕ
if_won true = 1
if_won false = 0

-- how many locks a walker may still take
abbrev pub claims_left_at : Walker → AllRegisters → Stage → ℕ
claims_left_at w now Ask = room w.devices
claims_left_at w now Claim = room w.devices
claims_left_at w now Check = room w.devices - if_won (lock_is now w.id (entered w.view w.path))
claims_left_at w now Test = room w.devices
claims_left_at w now Features = room w.devices - 1
claims_left_at w now Information = room w.devices - 1
claims_left_at w now Status = room w.devices
claims_left_at w now Free = 0
claims_left_at w now Done = 0
claims_left_at w now Lost = 0

abbrev pub claims_left : Walker → AllRegisters → ℕ
claims_left w now = claims_left_at w now w.stage

-- ---- how long lists of writes are

pub going_most : (turn : Turn) → going_one turn ≤ 1
going_most Turns.Going = omega arith
going_most _ = omega arith

route_most : (at : List ℕ) (id : ℕ) (kind : Kind) (port : Option ℕ)
    → length (route_of at id kind port) ≤ 2
route_most at id (Endpoint given) port = omega arith
route_most at id (Switch ports entry) None = omega arith
route_most at id (Switch ports entry) (Some port) = omega arith

pub routes_most : (devices : List Device) (path : List ℕ) (id : ℕ)
    → length (routes_to devices path id) ≤ 2 * length devices
routes_most [] path id = omega arith
routes_most (device ∷ rest) path id =
    let one = route_most device.path id device.kind (toward device.path path) in
    let more = routes_most rest path id in
    let all = length-append (route_pending path id device) (routes_to rest path id) in
    omega (arith, one, more, all)

cleared_most : (path : List ℕ) (host_id n : ℕ) → length (cleared_below path host_id n) ≤ 2 * n
cleared_most path host_id zero = omega arith
cleared_most path host_id (suc n) =
    let rest = cleared_most path host_id n in
    let one = go (eqb n host_id) in
    let all = length-append (cleared_below path host_id n)
    (if n == host_id then [] else entry_set path n 255) in
    omega (arith, rest, one, all)
  where
    go : (b : Bool) → length (if b then [] else entry_set path n 255) ≤ 2
    go true = omega arith
    go false = omega arith

pub home_most : (path : List ℕ) (host_id entry : ℕ) → length (home_set path host_id entry) ≤ 129
home_most path host_id entry =
    let rest = cleared_most path host_id 63 in
    let all = length-append (cleared_below path host_id 63) (entry_set path host_id entry) in
    omega (arith, rest, all)

pub own_most : (w : Walker) → length (taken w).todo ≤ 2
own_most w = go w.path
  where
    go : (path : List ℕ)
        → length (own_id w.id path ++ write w.path 0x6c (length w.devices + 1) ∷ []) ≤ 2
    go [] = omega arith
    go (x ∷ path) = omega arith

pub fewer : (devices : List Device) → devices ≢ [] → length (but_last devices) + 1 ≡ length devices
fewer [] some = absurd (some refl)
fewer (device ∷ []) some = refl
fewer (device ∷ second ∷ rest) some =
    let less = fewer (second ∷ rest) (λ e. cc) in
    omega (arith, less)

-- ---- what is left of a walker that goes on, or frees

further : (entry port : ℕ) → port + 1 ≤ port_after entry port
further entry port = go (eqb (port + 1) entry)
  where
    go : (b : Bool) → port + 1 ≤ (if b then port + 2 else port + 1)
    go true = omega arith
    go false = omega arith

pub gone_left : (w : Walker) (now : AllRegisters) (tried : List Tried)
    → turns_left (gone_on w tried) now
    ≤ 8450 + 300 * room w.devices + ports_left tried + length w.todo + 1
gone_left w now [] = omega arith
gone_left w now (top ∷ rest) =
    go (nat_lt (port_after top.entry top.port) top.ports) refl (gone_left w now rest)
  where
    go : (b : Bool) → nat_lt (port_after top.entry top.port) top.ports ≡ b
        → turns_left (gone_on w rest) now
        ≤ 8450 + 300 * room w.devices + ports_left rest + length w.todo + 1
        → turns_left (if b then record w {
          tried = record top { port = port_after top.entry top.port } ∷ rest;
          stage = Status;
        }
        else gone_on w rest) now
        ≤ 8450 + 300 * room w.devices + ports_left (top ∷ rest) + length w.todo + 1
    go true is on =
        let more = further top.entry top.port in
        let less = ltb-true (port_after top.entry top.port) top.ports is in
        omega (arith, more, less)
    go false is on = omega (arith, on)

pub gone_claims : (w : Walker) (now : AllRegisters) (tried : List Tried)
    → claims_left (gone_on w tried) now ≤ room w.devices
gone_claims w now [] = omega arith
gone_claims w now (top ∷ rest) =
    go (nat_lt (port_after top.entry top.port) top.ports) (gone_claims w now rest)
  where
    go : (b : Bool) → claims_left (gone_on w rest) now ≤ room w.devices
        → claims_left (if b then record w {
          tried = record top { port = port_after top.entry top.port } ∷ rest;
          stage = Status;
        }
        else gone_on w rest) now ≤ room w.devices
    go true on = omega arith
    go false on = on

pub freeing_left : (w : Walker) (now : AllRegisters) (devices : List Device)
    → turns_left (freeing w devices) now ≤ 132 * length devices
freeing_left w now [] = omega arith
freeing_left w now (device ∷ rest) =
    let most = routes_most (device ∷ rest)
    (last_path (device ∷ rest)) 255 in
    omega (arith, most)

pub freeing_claims : (w : Walker) (now : AllRegisters) (devices : List Device)
    → claims_left (freeing w devices) now ≡ 0
freeing_claims w now [] = refl
freeing_claims w now (device ∷ rest) = refl

pub room_less : (devices : List Device) (device : Device) → length devices + 1 ≤ 64
    → room (devices ++ device ∷ []) + 1 ≡ room devices
room_less devices device few =
    let all = length-append devices (device ∷ []) in
    omega (arith, all, few)
