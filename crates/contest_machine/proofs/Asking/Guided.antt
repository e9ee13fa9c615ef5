-- What a walker alone shows at all times: no port of entry is tried, and nothing behind the host is
-- written to the host.
use Rattle.contest_machine.proofs.Prelude.{◌≡◌, ◌≢◌, ℕ, ◌+◌, ◌*◌, ◌/◌, ◌%◌, ◌==◌, zero, suc, nat_lt, Bool, true, false, eqb, List, [], ◌∷◌, ◌++◌, Option, Some, None, arith, ◌⊎◌, inl, inr, subst, sym, refl, ap, if◌then◌else◌, eqb-true, eqb-false, PortRef, Kind, Endpoint, Switch, Device, entered, AllRegisters, toward, answered, id_after, met_as, onward, Asked, PendingWrite, Tried, Stage, Ask, Claim, Check, Test, Features, Information, Status, Free, Done, Lost, Walker, write, entry_set, route_of, route_pending, routes_to, cleared_below, last_path, but_last, freeing, port_after, gone_on, taken, judged, numbered, switch_set_up, outward, wants, settled, walker_told, told_at, reached, reaches, stepped}
use Rattle.contest_machine.proofs.Numbering.Along.{not_empty}

-- the port that is tried is not that of entry, and the switch is not the host
abbrev pub AreOut : List Tried → Type 0
AreOut [] = Unit {0}
AreOut (top ∷ rest) = (top.port ≢ top.entry) × (top.path ≢ []) × AreOut rest

abbrev pub IsBehindHost : List ℕ → Kind → Type 0
IsBehindHost path (Endpoint id) = Unit {0}
IsBehindHost path (Switch ports entry) = path ≢ []

-- no switch has the empty path
abbrev pub AreBehindHost : List Device → Type 0
AreBehindHost [] = Unit {0}
AreBehindHost (device ∷ rest) = IsBehindHost device.path device.kind × AreBehindHost rest

-- no write is to the host
abbrev pub AreOutside : List PendingWrite → Type 0
AreOutside [] = Unit {0}
AreOutside (p ∷ rest) = (p.path ≢ []) × AreOutside rest

abbrev pub PathIs : Walker → Stage → Type 0
PathIs w Ask = Unit {0}
PathIs w Claim = Unit {0}
PathIs w Check = Unit {0}
PathIs w Test = Unit {0}
PathIs w Features = w.path ≡ [] → w.todo ≢ []
PathIs w Information = w.path ≢ []
PathIs w Status = Unit {0}
PathIs w Free = Unit {0}
PathIs w Done = Unit {0}
PathIs w Lost = Unit {0}

-- a walker that has taken in its host is past it
abbrev pub IsPast : List Device → List ℕ → Type 0
IsPast devices path = (devices ≡ []) ⊎ (path ≢ [])

abbrev pub IsGuided : Walker → Type 0
IsGuided w = AreOut w.tried × AreBehindHost w.devices
    × ((w.path ≡ []) ⊎ AreOutside w.todo) × PathIs w w.stage × IsPast w.devices w.path

outside-append : (first second : List PendingWrite) → AreOutside first → AreOutside second
    → AreOutside (first ++ second)
outside-append [] second one two = two
outside-append (p ∷ rest) second one two = (one.0, outside-append rest second one.1 two)

behind-append : (devices : List Device) (more : Device) → AreBehindHost devices
    → IsBehindHost more.path more.kind → AreBehindHost (devices ++ more ∷ [])
behind-append [] more all one = (one, tt)
behind-append (device ∷ rest) more all one = (all.0, behind-append rest more all.1 one)

pub behind-but_last : (devices : List Device) → AreBehindHost devices
    → AreBehindHost (but_last devices)
behind-but_last [] all = tt
behind-but_last (device ∷ []) all = tt
behind-but_last (device ∷ second ∷ rest) all = (all.0, behind-but_last (second ∷ rest) all.1)

route_outside : (at : List ℕ) (id : ℕ) (kind : Kind) (port : Option ℕ) → IsBehindHost at kind
    → AreOutside (route_of at id kind port)
route_outside at id (Endpoint given) port behind = tt
route_outside at id (Switch ports entry) None behind = tt
route_outside at id (Switch ports entry) (Some port) behind = (behind, (behind, tt))

routes_outside : (devices : List Device) (path : List ℕ) (id : ℕ) → AreBehindHost devices
    → AreOutside (routes_to devices path id)
routes_outside [] path id all = tt
routes_outside (device ∷ rest) path id all =
    outside-append (route_pending path id device) (routes_to rest path id)
    (route_outside device.path id device.kind (toward device.path path) all.0)
    (routes_outside rest path id all.1)

cleared_outside : (path : List ℕ) (id n : ℕ) → path ≢ [] → AreOutside (cleared_below path id n)
cleared_outside path id zero some = tt
cleared_outside path id (suc n) some =
    outside-append (cleared_below path id n) (if n == id then [] else entry_set path n 255)
    (cleared_outside path id n some) (go (eqb n id))
  where
    go : (b : Bool) → AreOutside (if b then [] else entry_set path n 255)
    go true = tt
    go false = (some, (some, tt))

freeing_guided : (w : Walker) (devices : List Device) → AreBehindHost devices
    → IsPast devices w.path → IsGuided (freeing w devices)
freeing_guided w [] all past = (tt, tt, inr tt, tt, inl refl)
freeing_guided w (device ∷ rest) all past = (
  tt,
  all,
  inr (routes_outside (device ∷ rest) (last_path (device ∷ rest)) 255 all),
  tt,
  past,
)

past-but_last : (devices : List Device) (path : List ℕ) → IsPast devices path
    → IsPast (but_last devices) path
past-but_last devices path (inl none) = inl (ap but_last none)
past-but_last devices path (inr some) = inr some

gone_guided : (w : Walker) (tried : List Tried) → AreOut tried → AreBehindHost w.devices
    → (w.path ≡ []) ⊎ AreOutside w.todo → IsPast w.devices w.path → IsGuided (gone_on w tried)
gone_guided w [] out all todo past = (tt, all, todo, tt, past)
gone_guided w (top ∷ rest) out all todo past =
    go (nat_lt (port_after top.entry top.port) top.ports)
    (λ more. gone_guided w rest out.2 all todo past)
  where
    other : (b : Bool) → eqb (top.port + 1) top.entry ≡ b
        → (if b then top.port + 2 else top.port + 1) ≢ top.entry
    other true is same =
        let one = eqb-true (top.port + 1) top.entry is in
        omega (arith, one, same)
    other false is same = eqb-false (top.port + 1) top.entry is same

    go : (b : Bool) → (Unit {0} → IsGuided (gone_on w rest))
        → IsGuided (if b then record w {
          tried = record top { port = port_after top.entry top.port } ∷ rest;
          stage = Status;
        }
        else gone_on w rest)
    go true on = ((other (eqb (top.port + 1) top.entry) refl, out.1, out.2), all, todo, tt, past)
    go false on = on tt

judged_guided : (w : Walker) (stage : Stage) (lock : ℕ) → AreOut w.tried → AreBehindHost w.devices
    → IsPast w.devices w.path → IsGuided (judged (record w { todo = []; stage = stage }) lock)
judged_guided w stage lock out all past = go (eqb lock 0xffff) (nat_lt w.id lock)
  where
    go : (b c : Bool) → IsGuided (if b then record w { todo = []; stage = Claim }
        else (if c then freeing (record w { todo = []; stage = stage }) w.devices
        else record w { todo = []; stage = Ask }))
    go true c = (out, all, inr tt, tt, past)
    go false true = freeing_guided (record w { todo = []; stage = stage }) w.devices all past
    go false false = (out, all, inr tt, tt, past)

taken_guided : (w : Walker) (path : List ℕ) (stage : Stage) → AreOut w.tried
    → AreBehindHost w.devices → IsPast w.devices path
    → IsGuided (taken (record w { todo = []; path = path; stage = stage }))
taken_guided w [] stage out all past = (out, all, inl refl, λ same none. cc, past)
taken_guided w (x ∷ rest) stage out all past =
    (out, all, inr ((λ same. cc), tt), λ same none. cc, past)

numbered_guided : (w : Walker) (path : List ℕ) (stage : Stage) → AreOut w.tried
    → AreBehindHost w.devices
    → IsGuided (numbered (record w { todo = []; path = path; stage = stage }) path)
numbered_guided w [] stage out all = (
  out,
  behind-append w.devices (met_as w.devices (Endpoint w.id) []) all tt,
  inr tt,
  tt,
  inr (λ same. cc),
)
numbered_guided w (x ∷ rest) stage out all =
    gone_guided (record w {
      path = x ∷ rest;
      stage = stage;
      devices = w.devices
          ++ met_as w.devices (Endpoint (id_after w.id w.next)) (x ∷ rest) ∷ [];
      next = id_after w.id w.next + 1;
      todo = write (x ∷ rest) 0x60 (id_after w.id w.next * 0x10000)
          ∷ routes_to w.devices (x ∷ rest) (id_after w.id w.next);
    }) w.tried out
    (behind-append w.devices (met_as w.devices (Endpoint (id_after w.id w.next)) (x ∷ rest)) all
    tt)
    (inr ((λ same. cc), routes_outside w.devices (x ∷ rest) (id_after w.id w.next) all))
    (inr (λ same. cc))

set_guided : (w : Walker) (ports entry : ℕ) → w.path ≢ [] → AreOut w.tried
    → AreBehindHost w.devices → IsGuided (switch_set_up (record w { todo = [] }) ports entry)
set_guided w ports entry some out all = (
  (first (eqb entry 0) refl, some, out),
  behind-append w.devices (met_as w.devices (Switch ports entry) w.path) all some,
  inr (
    some,
    outside-append (cleared_below w.path w.id 63) (entry_set w.path w.id entry)
        (cleared_outside w.path w.id 63 some) (some, (some, tt)),
  ),
  tt,
  inr some,
)
  where
    first : (b : Bool) → eqb entry 0 ≡ b → (if b then 1 else 0) ≢ entry
    first true is same =
        let none = eqb-true entry 0 is in
        omega (arith, none, same)
    first false is same = eqb-false entry 0 is (sym same)

outward_guided : (w : Walker) (tried : List Tried) → AreOut tried → AreBehindHost w.devices
    → IsPast w.devices w.path → IsGuided (outward (record w { todo = []; tried = tried }) tried)
outward_guided w [] out all past = (tt, all, inr tt, tt, past)
outward_guided w (top ∷ rest) out all past = (
  out,
  all,
  inr (out.1, (out.1, tt)),
  tt,
  inr (not_empty (onward top.path top.port) top.path top.port refl),
)

module _ (w : Walker) (value : ℕ) (out : AreOut w.tried) (all : AreBehindHost w.devices)
    (past : IsPast w.devices w.path) where
  abbrev idle : Stage → Walker
  idle stage = record w { todo = []; stage = stage }

  told_guided_at : (stage : Stage) → PathIs (idle stage) stage
      → IsGuided (told_at (idle stage) value stage)
  told_guided_at Ask known = go (eqb value w.id)
    where
      go : (b : Bool) → IsGuided (if b then idle Test else judged (idle Ask) value)
      go true = (out, all, inr tt, tt, past)
      go false = judged_guided w Ask value out all past
  told_guided_at Claim known = (out, all, inr tt, tt, past)
  told_guided_at Check known = go (eqb value w.id)
    where
      go : (b : Bool) → IsGuided (if b then taken (idle Check) else judged (idle Check) value)
      go true = taken_guided w w.path Check out all past
      go false = judged_guided w Check value out all past
  told_guided_at Test known = go (eqb value 0)
    where
      go : (b : Bool) → IsGuided (if b then taken (idle Test) else gone_on (idle Test) w.tried)
      go true = taken_guided w w.path Test out all past
      go false = gone_guided (idle Test) w.tried out all (inr tt) past
  told_guided_at Features known = go (eqb (value / 0x10000000 % 2) 1)
    where
      go : (b : Bool) → IsGuided (if b then idle Information
          else numbered (idle Features) w.path)
      go true = (out, all, inr tt, λ same. known same refl, past)
      go false = numbered_guided w w.path Features out all
  told_guided_at Information known =
      set_guided (record w { stage = Information }) (value / 0x100 % 0x100) (value % 0x100) known
      out all
  told_guided_at Status known = go (eqb value 2)
    where
      go : (b : Bool) → IsGuided (if b then outward (idle Status) w.tried
          else gone_on (idle Status) w.tried)
      go true = outward_guided (record w { stage = Status }) w.tried out all past
      go false = gone_guided (idle Status) w.tried out all (inr tt) past
  told_guided_at Free known =
      freeing_guided (idle Free) (but_last w.devices) (behind-but_last w.devices all)
      (past-but_last w.devices w.path past)
  told_guided_at Done known = (out, all, inr tt, tt, past)
  told_guided_at Lost known = (out, all, inr tt, tt, past)

-- a write was made
settled_guided : (w : Walker) (rest : List PendingWrite) (stage : Stage) (path : List ℕ)
    → AreOut w.tried → AreBehindHost w.devices → (path ≡ []) ⊎ AreOutside rest
    → (stage ≡ Information → path ≢ []) → IsPast w.devices path
    → IsGuided (settled (record w { stage = stage; path = path }) rest stage path)
settled_guided w [] Ask path out all todo known past = (out, all, todo, tt, past)
settled_guided w [] Claim path out all todo known past = (out, all, todo, tt, past)
settled_guided w [] Check path out all todo known past = (out, all, todo, tt, past)
settled_guided w [] Test path out all todo known past = (out, all, todo, tt, past)
settled_guided w [] Features [] out all todo known past = numbered_guided w [] Features out all
settled_guided w [] Features (x ∷ path) out all todo known past =
    (out, all, todo, λ same. absurd (cc), past)
settled_guided w [] Information path out all todo known past = (out, all, todo, known refl, past)
settled_guided w [] Status path out all todo known past = (out, all, todo, tt, past)
settled_guided w [] Free path out all todo known past = (out, all, todo, tt, past)
settled_guided w [] Done path out all todo known past = (out, all, todo, tt, past)
settled_guided w [] Lost path out all todo known past = (out, all, todo, tt, past)
settled_guided w (q ∷ rest) Ask path out all todo known past = (out, all, todo, tt, past)
settled_guided w (q ∷ rest) Claim path out all todo known past = (out, all, todo, tt, past)
settled_guided w (q ∷ rest) Check path out all todo known past = (out, all, todo, tt, past)
settled_guided w (q ∷ rest) Test path out all todo known past = (out, all, todo, tt, past)
settled_guided w (q ∷ rest) Features path out all todo known past =
    (out, all, todo, λ same none. cc, past)
settled_guided w (q ∷ rest) Information path out all todo known past =
    (out, all, todo, known refl, past)
settled_guided w (q ∷ rest) Status path out all todo known past = (out, all, todo, tt, past)
settled_guided w (q ∷ rest) Free path out all todo known past = (out, all, todo, tt, past)
settled_guided w (q ∷ rest) Done path out all todo known past = (out, all, todo, tt, past)
settled_guided w (q ∷ rest) Lost path out all todo known past = (out, all, todo, tt, past)

-- whatever it is told
told_guided : (w : Walker) (value : ℕ) → IsGuided w → IsGuided (walker_told w value)
told_guided w value guided = go w.todo guided.2 guided.3
  where
    first : (p : PendingWrite) (rest : List PendingWrite) → (w.path ≡ []) ⊎ AreOutside (p ∷ rest)
        → (w.path ≡ []) ⊎ AreOutside rest
    first p rest (inl same) = inl same
    first p rest (inr outside) = inr outside.1

    informed : (stage : Stage) (todo : List PendingWrite) → PathIs (record w { todo = todo }) stage
        → stage ≡ Information → w.path ≢ []
    informed stage todo known is = subst (PathIs (record w { todo = todo })) is known

    go : (todo : List PendingWrite) → (w.path ≡ []) ⊎ AreOutside todo
        → PathIs (record w { todo = todo }) w.stage
        → IsGuided (walker_told (record w { todo = todo })
        value)
    go [] outside known = told_guided_at w value guided.0 guided.1 guided.4 w.stage known
    go (p ∷ rest) outside known =
        settled_guided (record w { todo = p ∷ rest }) rest w.stage w.path guided.0 guided.1
        (first p rest outside) (informed w.stage (p ∷ rest) known) guided.4

pub step_guided : (w : Walker) (old : AllRegisters) → IsGuided w
    → IsGuided (stepped w old).walker
step_guided w old guided = go (wants w)
  where
    at : (ask : Asked) (o : Option PortRef) → IsGuided (reached w old ask o).walker
    at ask None = guided
    at ask (Some port) =
        told_guided w (answered (old port.node) port.port ask.access).answer.value guided

    go : (o : Option Asked) → IsGuided (reaches w old o).walker
    go None = guided
    go (Some ask) = at ask (entered w.view ask.path)
