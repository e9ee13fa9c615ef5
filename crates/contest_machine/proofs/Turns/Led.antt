-- What a walker asks is asked of a device: the paths that it tries lead to devices, those of the
-- switches whose ports it tries to switches.
use Rattle.contest_machine.proofs.Prelude.{◌≡◌, ◌≢◌, ℕ, ◌+◌, ◌*◌, ◌/◌, ◌%◌, nat_lt, Bool, true, false, eqb, List, [], ◌∷◌, ◌++◌, length, Option, Some, None, IsSome, subst, sym, refl, if◌then◌else◌, eqb-true, PortRef, Endpoint, Device, Topology, IsTopology, entered, AllRegisters, Fits, Read, Write, answered, id_after, met_as, Asked, PendingWrite, Tried, Stage, Ask, Claim, Check, Test, Features, Information, Status, Free, Done, Lost, Walker, asked, write, routes_to, own_id, last_path, but_last, freeing, port_after, gone_on, taken, judged, numbered, outward, settled, walker_told, reached, stepped, IsNew}
use Rattle.contest_machine.proofs.Keeping.Stepped.{some_left}
use Rattle.contest_machine.proofs.Turns.Lasting.{AreSameDevices}
use Rattle.contest_machine.proofs.Turns.Telling.{IsAtSwitch, is_at_switch, is_linked, leads_on, host_leads_on}

abbrev pub AreAtSwitches : Topology → List Tried → Type 0
AreAtSwitches view [] = Unit {0}
AreAtSwitches view (top ∷ rest) = IsAtSwitch view top.path × AreAtSwitches view rest

-- the path leads to a device
abbrev pub IsAtDevice : Walker → Type 0
IsAtDevice w = IsSome (entered w.view w.path)

abbrev pub IsLedAt : Walker → Stage → Type 0
IsLedAt w Ask = IsAtDevice w
IsLedAt w Claim = IsAtDevice w × (w.todo ≡ [])
IsLedAt w Check = IsAtDevice w × (w.todo ≡ [])
IsLedAt w Test = IsAtDevice w × (w.todo ≡ [])
IsLedAt w Features = IsAtDevice w × (w.path ≡ [] → w.todo ≢ [])
IsLedAt w Information = IsAtSwitch w.view w.path × (w.todo ≡ [])
IsLedAt w Status = w.tried ≢ []
IsLedAt w Free = w.devices ≢ []
IsLedAt w Done = Unit {0}
IsLedAt w Lost = (w.todo ≡ []) × (w.devices ≡ [])

abbrev pub IsLed : Walker → Type 0
IsLed w = AreAtSwitches w.view w.tried × IsLedAt w w.stage

gone_led : (w : Walker) (tried : List Tried) → AreAtSwitches w.view tried → IsLed (gone_on w tried)
gone_led w [] all = (tt, tt)
gone_led w (top ∷ rest) all =
    go (nat_lt (port_after top.entry top.port) top.ports) (gone_led w rest all.1)
  where
    go : (b : Bool) → IsLed (gone_on w rest)
        → IsLed (if b then record w {
          tried = record top { port = port_after top.entry top.port } ∷ rest;
          stage = Status;
        }
        else gone_on w rest)
    go true on = (all, λ e. cc)
    go false on = on

freeing_led : (w : Walker) (devices : List Device) → IsLed (freeing w devices)
freeing_led w [] = (tt, (refl, refl))
freeing_led w (device ∷ rest) = (tt, λ e. cc)

judged_led : (w : Walker) (lock : ℕ) → w.todo ≡ [] → AreAtSwitches w.view w.tried → IsAtDevice w
    → IsLed (judged w lock)
judged_led w lock clear all at = go (eqb lock 0xffff) (nat_lt w.id lock)
  where
    go : (b c : Bool) → IsLed (if b then record w { stage = Claim }
        else (if c then freeing w w.devices else record w { stage = Ask }))
    go true c = (all, (at, clear))
    go false true = freeing_led w w.devices
    go false false = (all, at)

some_to_write : (w : Walker) → (taken w).todo ≢ []
some_to_write w = go w.path
  where
    go : (path : List ℕ) → own_id w.id path ++ write w.path 0x6c (length w.devices + 1) ∷ [] ≢ []
    go [] e = cc
    go (x ∷ path) e = cc

taken_led : (w : Walker) → AreAtSwitches w.view w.tried → IsAtDevice w → IsLed (taken w)
taken_led w all at = (all, (at, λ e. some_to_write w))

module _ (w : Walker) (proper : IsTopology w.view) where
  -- an endpoint was taken in, the host among them
  numbered_led : (path : List ℕ) → AreAtSwitches w.view w.tried → IsLed (numbered w path)
  numbered_led [] all = (all, host_leads_on w.view proper)
  numbered_led (first ∷ rest) all =
      gone_led (record w {
        devices = w.devices ++ met_as w.devices (Endpoint (id_after w.id w.next)) w.path ∷ [];
        next = id_after w.id w.next + 1;
        todo = write w.path 0x60 (id_after w.id w.next * 0x10000)
            ∷ routes_to w.devices w.path (id_after w.id w.next);
      }) w.tried all

  outward_led : (top : Tried) (rest : List Tried) (next : PortRef) → IsAtSwitch w.view top.path
      → AreAtSwitches w.view rest
      → ((at : PortRef) → entered w.view top.path ≡ Some at
      → (next : PortRef) × (w.view.peer (record { node = at.node; port = top.port }) ≡ Some next))
      → IsLed (outward (record w { tried = top ∷ rest }) (top ∷ rest))
  outward_led top rest next (at, ports, enters, switch) all link =
      let found = link at enters in (
        ((at, ports, enters, switch), all),
        leads_on w.view top.path at found.0 ports top.port proper enters switch found.1,
      )

-- ---- one access

module _ (w : Walker) (before old : AllRegisters) (proper : IsTopology w.view)
    (fits : Fits w.view before) (same : AreSameDevices before old) where
  reached_led : (w0 : Walker) (ask : Asked) → IsLed w0
      → ((at : PortRef) → entered w0.view ask.path ≡ Some at
      → IsLed (walker_told w0 (answered (old at.node) at.port ask.access).answer.value))
      → IsLed (reached w0 old ask (entered w0.view ask.path)).walker
  reached_led w0 ask led some = go (entered w0.view ask.path) some
    where
      go : (o : Option PortRef) → ((at : PortRef) → o ≡ Some at
          → IsLed (walker_told w0 (answered (old at.node) at.port ask.access).answer.value))
          → IsLed (reached w0 old ask o).walker
      go None some = led
      go (Some at) some = some at refl

  abbrev between : Stage → Walker
  between stage = record w { todo = []; stage = stage }

  status_led : (tried : List Tried) → AreAtSwitches w.view tried → tried ≢ []
      → IsLed (stepped (record w { todo = []; stage = Status; tried = tried }) old).walker
  status_led [] all some = (all, some)
  status_led (top ∷ rest) all some =
      reached_led (record w { todo = []; stage = Status; tried = top ∷ rest })
      (asked top.path (Read (0x158 + 0x20 * top.port))) (all, some)
      (λ at enters. go at enters
      (eqb (answered (old at.node) at.port (Read (0x158 + 0x20 * top.port))).answer.value 2) refl)
    where
      go : (at : PortRef) → entered w.view top.path ≡ Some at → (b : Bool)
          → eqb (answered (old at.node) at.port
          (Read (0x158 + 0x20 * top.port))).answer.value 2 ≡ b
          → IsLed (if b
          then outward (record w { todo = []; stage = Status; tried = top ∷ rest }) (top ∷ rest)
          else gone_on (record w { todo = []; stage = Status; tried = top ∷ rest }) (top ∷ rest))
      go at enters true two =
          outward_led (record w { todo = []; stage = Status }) proper top rest at all.0 all.1
          (λ there leads.
          is_linked w.view before old proper fits same top.path there leads top.port
          (subst (λ (p : PortRef). (answered (old p.node) p.port
          (Read (0x158 + 0x20 * top.port))).answer.value ≡ 2) (same_port at there enters leads)
          (eqb-true (answered (old at.node) at.port
          (Read (0x158 + 0x20 * top.port))).answer.value 2 two)))
        where
          same_port : (at there : PortRef) → entered w.view top.path ≡ Some at
              → entered w.view top.path ≡ Some there → at ≡ there
          same_port at there first second = cc
      go at enters false other =
          gone_led (record w { todo = []; stage = Status; tried = top ∷ rest }) (top ∷ rest) all

  stage_led : (stage : Stage) → IsLed (between stage) → IsLed (stepped (between stage) old).walker
  stage_led Ask led =
      reached_led (between Ask) (asked w.path (Read 0x68)) led
      (λ at enters. go (answered (old at.node) at.port (Read 0x68)).answer.value
      (eqb (answered (old at.node) at.port (Read 0x68)).answer.value w.id))
    where
      go : (value : ℕ) (b : Bool) → IsLed (if b then between Test else judged (between Ask) value)
      go value true = (led.0, (led.1, refl))
      go value false = judged_led (between Ask) value refl led.0 led.1
  stage_led Claim led =
      reached_led (between Claim) (asked w.path (Write 0x68 w.id)) led
      (λ at enters. (led.0, (led.1.0, refl)))
  stage_led Check led =
      reached_led (between Check) (asked w.path (Read 0x68)) led
      (λ at enters. go (answered (old at.node) at.port (Read 0x68)).answer.value
      (eqb (answered (old at.node) at.port (Read 0x68)).answer.value w.id))
    where
      go : (value : ℕ) (b : Bool)
          → IsLed (if b then taken (between Check) else judged (between Check) value)
      go value true = taken_led (between Check) led.0 led.1.0
      go value false = judged_led (between Check) value refl led.0 led.1.0
  stage_led Test led =
      reached_led (between Test) (asked w.path (Read 0x6c)) led
      (λ at enters. go (eqb (answered (old at.node) at.port (Read 0x6c)).answer.value 0))
    where
      go : (b : Bool) → IsLed (if b then taken (between Test) else gone_on (between Test) w.tried)
      go true = taken_led (between Test) led.0 led.1.0
      go false = gone_led (between Test) w.tried led.0
  stage_led Features led =
      reached_led (between Features) (asked w.path (Read 0x10)) led
      (λ at enters. go at enters
      (eqb ((answered (old at.node) at.port (Read 0x10)).answer.value / 0x10000000 % 2) 1) refl)
    where
      go : (at : PortRef) → entered w.view w.path ≡ Some at → (b : Bool)
          → eqb ((answered (old at.node) at.port (Read 0x10)).answer.value / 0x10000000 % 2) 1 ≡ b
          → IsLed (if b then between Information else numbered (between Features) w.path)
      go at enters true is = (
        led.0,
        (
          is_at_switch w.view before old proper fits same w.path at enters
              (eqb-true ((answered (old at.node) at.port (Read 0x10)).answer.value / 0x10000000 % 2)
              1 is),
          refl,
        ),
      )
      go at enters false other = numbered_led (between Features) proper w.path led.0
  stage_led Information led =
      reached_led (between Information) (asked w.path (Read 0x14)) led
      (λ at enters. ((led.1.0, led.0), λ e. cc))
  stage_led Status led = status_led w.tried led.0 led.1
  stage_led Free led =
      reached_led (between Free) (asked (last_path w.devices) (Write 0x68 w.id)) led
      (λ at enters. freeing_led (between Free) (but_last w.devices))
  stage_led Done led = led
  stage_led Lost led = led

-- what was written does not matter, but that the host is taken in
settled_led : (w : Walker) (p : PendingWrite) (rest : List PendingWrite) (stage : Stage)
    (path : List ℕ)
    → IsTopology w.view → AreAtSwitches w.view w.tried
    → IsLedAt (record w { todo = p ∷ rest; path = path }) stage
    → IsLed (settled (record w { todo = p ∷ rest; stage = stage; path = path }) rest stage path)
settled_led w p rest stage path proper all led = go rest stage path led
  where
    go : (rest : List PendingWrite) (stage : Stage) (path : List ℕ)
        → IsLedAt (record w { todo = p ∷ rest; path = path }) stage
        → IsLed (settled (record w { todo = p ∷ rest; stage = stage; path = path }) rest stage
        path)
    go (q ∷ rest) Ask path led = (all, led)
    go (q ∷ rest) Claim path led = absurd (some_left p (q ∷ rest) led.1)
    go (q ∷ rest) Check path led = absurd (some_left p (q ∷ rest) led.1)
    go (q ∷ rest) Test path led = absurd (some_left p (q ∷ rest) led.1)
    go (q ∷ rest) Features path led = (all, (led.0, λ e none. cc))
    go (q ∷ rest) Information path led = absurd (some_left p (q ∷ rest) led.1)
    go (q ∷ rest) Status path led = (all, led)
    go (q ∷ rest) Free path led = (all, led)
    go (q ∷ rest) Done path led = (all, led)
    go (q ∷ rest) Lost path led = absurd (some_left p (q ∷ rest) led.0)
    go [] Ask path led = (all, led)
    go [] Claim path led = absurd (some_left p [] led.1)
    go [] Check path led = absurd (some_left p [] led.1)
    go [] Test path led = absurd (some_left p [] led.1)
    go [] Features [] led = numbered_led (record w { todo = []; stage = Features; path = [] })
        proper [] all
    go [] Features (x ∷ path) led = (all, (led.0, λ e none. cc))
    go [] Information path led = absurd (some_left p [] led.1)
    go [] Status path led = (all, led)
    go [] Free path led = (all, led)
    go [] Done path led = (all, led)
    go [] Lost path led = absurd (some_left p [] led.0)

pub step_led : (w : Walker) (before old : AllRegisters) → IsTopology w.view → Fits w.view before
    → AreSameDevices before old → IsLed w → IsLed (stepped w old).walker
step_led w before old proper fits same led = go w.todo w.stage w.path led
  where
    go : (todo : List PendingWrite) (stage : Stage) (path : List ℕ)
        → IsLed (record w { todo = todo; stage = stage; path = path })
        → IsLed (stepped (record w { todo = todo; stage = stage; path = path }) old).walker
    go [] stage path led =
        stage_led (record w { path = path }) before old proper fits same stage led
    go (p ∷ rest) stage path led =
        reached_led w before old proper fits same
        (record w { todo = p ∷ rest; stage = stage; path = path })
        (asked p.path (Write p.offset p.value)) led
        (λ at enters. settled_led w p rest stage path proper led.0 led.1)

pub new_led : (w : Walker) → IsNew w → IsLed w
new_led w new = (
  subst (AreAtSwitches w.view) (sym new.tried) tt,
  subst (IsLedAt w) (sym new.stage) (subst (λ p. IsSome (entered w.view p)) (sym new.path) refl),
)

-- that a walker has begun changes nothing of it
pub begun_led : (w : Walker) (stage : Stage) → IsLedAt w stage
    → IsLedAt (record w { begun = true }) stage
begun_led w Ask led = led
begun_led w _ led = led
