-- An access waits exactly where it read the lock of a host with a lesser ID.
use Rattle.contest_machine.proofs.Prelude.{◌≡◌, ◌≢◌, ℕ, ◌+◌, ◌*◌, ◌/◌, ◌%◌, ◌<◌, ◌↔◌, nat_lt, Bool, true, false, eqb, List, [], ◌∷◌, ◌++◌, Option, Some, None, IsSome, Contains, arith, ◌⊎◌, inl, inr, subst, sym, refl, if◌then◌else◌, eqb-true, eqb-false, ltb-true, ltb-false, PortRef, Endpoint, Device, entered, AllRegisters, Contains-first, Contains-cases, not_in_empty, Read, Write, answered, id_after, met_as, Asked, PendingWrite, Tried, Turn, Stage, Ask, Claim, Check, Test, Features, Information, Status, Free, Done, Lost, Walker, asked, write, routes_to, last_path, but_last, freeing, gone_on, taken, judged, numbered, outward, told_at, told_with, reached, stepped, waits_or_goes, ends, came_at, came_of, lock_at, lock_next, state_of, HasLesser}
use Rattle.contest_machine.specs.declared.stages.Turn.TheVariants as Turns
use Rattle.contest_machine.proofs.Keeping.Reading.{lock_told}
use Rattle.contest_machine.proofs.Turns.Steps.{gone_by, status_reads_none}
use Rattle.contest_machine.proofs.Turns.Led.{IsLed}

-- the turn that led from one walker to the other did not wait
abbrev IsNoWait : Walker → Walker → Type 0
IsNoWait w after = came_of w after ≢ Turns.Waiting

ends_no_wait : (todo : List PendingWrite) (turn : Turn) → turn ≢ Turns.Waiting
    → ends todo turn ≢ Turns.Waiting
ends_no_wait [] turn other = other
ends_no_wait (p ∷ rest) turn other = λ e. cc

pub no_wait_at : (w after : Walker) (stage : Stage) → stage ≢ Ask
    → came_at w after stage ≢ Turns.Waiting
no_wait_at w after Ask other = absurd (other refl)
no_wait_at w after Done other = ends_no_wait after.todo Turns.Done (λ e. cc)
no_wait_at w after Lost other = ends_no_wait after.todo Turns.Lost (λ e. cc)
no_wait_at w after _ other = λ e. cc

-- a turn that writes does not wait
writes_no_wait : (w after : Walker) (p : PendingWrite) (rest : List PendingWrite) (stage : Stage)
    → w.todo ≡ p ∷ rest → came_at w after stage ≢ Turns.Waiting
writes_no_wait w after p rest Ask is =
    subst (λ t. waits_or_goes t after.todo ≢ Turns.Waiting) (sym is) (λ e. cc)
writes_no_wait w after p rest Claim is = λ e. cc
writes_no_wait w after p rest Check is = λ e. cc
writes_no_wait w after p rest Test is = λ e. cc
writes_no_wait w after p rest Features is = λ e. cc
writes_no_wait w after p rest Information is = λ e. cc
writes_no_wait w after p rest Status is = λ e. cc
writes_no_wait w after p rest Free is = λ e. cc
writes_no_wait w after p rest Done is = ends_no_wait after.todo Turns.Done (λ e. cc)
writes_no_wait w after p rest Lost is = ends_no_wait after.todo Turns.Lost (λ e. cc)

gone_no_wait : (w0 w : Walker) (tried : List Tried) → IsNoWait w0 (gone_on w tried)
gone_no_wait w0 w tried =
    gone_by (IsNoWait w0) w tried (λ t some e. cc) (ends_no_wait w.todo Turns.Done (λ e. cc))

freeing_no_wait : (w0 w : Walker) (devices : List Device) → IsNoWait w0 (freeing w devices)
freeing_no_wait w0 w [] = λ e. cc
freeing_no_wait w0 w (device ∷ rest) = λ e. cc

-- ---- what a read lock makes of it

abbrev pub Waits : ℕ → Walker → Walker → List ℕ → Type 0
Waits id w after locks = (came_of w after ≡ Turns.Waiting) ↔ HasLesser id locks

none_waits : (id : ℕ) (w after : Walker) → IsNoWait w after → Waits id w after []
none_waits id w after calm =
    (λ is. absurd (calm is), λ found. absurd (not_in_empty found.0 found.1))

other_waits : (id lock : ℕ) (w after : Walker) → IsNoWait w after → ¬ (lock < id)
    → Waits id w after (lock ∷ [])
other_waits id lock w after calm not = (λ is. absurd (calm is), λ found. absurd (go found))
  where
    here : (found : HasLesser id (lock ∷ [])) → (lock ≡ found.0) ⊎ Contains [] found.0 → ⊥
    here found (inl same) = not (subst (λ n. n < id) (sym same) found.2)
    here found (inr empty) = not_in_empty found.0 empty

    go : HasLesser id (lock ∷ []) → ⊥
    go found = here found (Contains-cases lock [] found.0 found.1)

module _ (w : Walker) (fits : w.id < 0xff) where
  abbrev pub between : Stage → Walker
  between stage = record w { todo = []; stage = stage }

  judged_waits : (stage : Stage) (lock : ℕ) → lock ≢ w.id
      → Waits w.id (between stage) (judged (between stage) lock) (lock ∷ [])
  judged_waits stage lock other = go (eqb lock 0xffff) refl (nat_lt w.id lock) refl
    where
      go : (b : Bool) → eqb lock 0xffff ≡ b → (c : Bool) → nat_lt w.id lock ≡ c
          → Waits w.id (between stage) (if b then between Claim
          else (if c then freeing (between stage) w.devices else between Ask)) (lock ∷ [])
      go true free c less =
          let is = eqb-true lock 0xffff free in
          other_waits w.id lock (between stage) (between Claim) (λ e. cc)
          (λ lesser. omega (arith, lesser, is, fits))
      go false some true less =
          let more = ltb-true w.id lock less in
          other_waits w.id lock (between stage) (freeing (between stage) w.devices)
          (freeing_no_wait (between stage) (between stage) w.devices)
          (λ lesser. omega (arith, lesser, more))
      go false some false less =
          let most = ltb-false w.id lock less in (
            λ is. (lock, Contains-first lock [], omega (arith, most, other)),
            λ found. refl,
          )

  own_waits : (stage : Stage) (after : Walker) (lock : ℕ) → IsNoWait (between stage) after
      → lock ≡ w.id → Waits w.id (between stage) after (lock ∷ [])
  own_waits stage after lock calm is =
      other_waits w.id lock (between stage) after calm (λ lesser. omega (arith, lesser, is))

  ask_waits : (lock : ℕ)
      → Waits w.id (between Ask) (told_at (between Ask) lock Ask) (lock ∷ [])
  ask_waits lock = go (eqb lock w.id) refl
    where
      go : (b : Bool) → eqb lock w.id ≡ b → Waits w.id (between Ask)
          (if b then between Test else judged (between Ask) lock) (lock ∷ [])
      go true same = own_waits Ask (between Test) lock (λ e. cc) (eqb-true lock w.id same)
      go false other = judged_waits Ask lock (eqb-false lock w.id other)

  check_waits : (lock : ℕ)
      → Waits w.id (between Check) (told_at (between Check) lock Check) (lock ∷ [])
  check_waits lock = go (eqb lock w.id) refl
    where
      go : (b : Bool) → eqb lock w.id ≡ b → Waits w.id (between Check)
          (if b then taken (between Check) else judged (between Check) lock) (lock ∷ [])
      go true same =
          own_waits Check (taken (between Check)) lock (λ e. cc) (eqb-true lock w.id same)
      go false other = judged_waits Check lock (eqb-false lock w.id other)

  -- ---- one access

  module _ (old : AllRegisters) where
    lock_waits : (stage : Stage) → IsSome (entered w.view w.path)
        → ((lock : ℕ) → Waits w.id (between stage) (told_at (between stage) lock stage)
        (lock ∷ []))
        → Waits w.id (between stage) (reached (between stage) old (asked w.path (Read 0x68))
        (entered w.view w.path)).walker (lock_at old (entered w.view w.path))
    lock_waits stage some each = go (entered w.view w.path) some
      where
        go : (o : Option PortRef) → IsSome o → Waits w.id (between stage)
            (reached (between stage) old (asked w.path (Read 0x68)) o).walker (lock_at old o)
        go None some = absurd (cc)
        go (Some at) some =
            subst (λ n. Waits w.id (between stage) (told_at (between stage) n stage)
            ((old at.node).lock ∷ []))
            (sym (lock_told (old at.node) at.port)) (each (old at.node).lock)

    beside_lock : (w0 : Walker) (ask : Asked) → IsNoWait w0 w0
        → ((value : ℕ) → IsNoWait w0 (told_at w0 value w0.stage)) → w0.todo ≡ []
        → IsNoWait w0 (reached w0 old ask (entered w0.view ask.path)).walker
    beside_lock w0 ask idle each clear = go (entered w0.view ask.path)
      where
        go : (o : Option PortRef) → IsNoWait w0 (reached w0 old ask o).walker
        go None = idle
        go (Some at) =
            subst (λ t. IsNoWait w0 (told_with w0
            (answered (old at.node) at.port ask.access).answer.value t)) (sym clear)
            (each (answered (old at.node) at.port ask.access).answer.value)

    abbrev Next : Walker → Type 0
    Next w0 = Waits w0.id w0 (stepped w0 old).walker (lock_next (state_of w0 old))

    quiet : (w0 : Walker) → IsNoWait w0 (stepped w0 old).walker
        → Waits w0.id w0 (stepped w0 old).walker []
    quiet w0 calm = none_waits w0.id w0 (stepped w0 old).walker calm

    status_waits : (tried : List Tried) → tried ≢ []
        → Next (record w { todo = []; stage = Status; tried = tried })
    status_waits [] some = absurd (some refl)
    status_waits (top ∷ rest) some =
        subst (λ l. Waits w.id (record w { todo = []; stage = Status; tried = top ∷ rest })
        (stepped (record w { todo = []; stage = Status; tried = top ∷ rest }) old).walker l)
        (sym (status_reads_none w old top rest))
        (quiet (record w { todo = []; stage = Status; tried = top ∷ rest })
        (beside_lock (record w { todo = []; stage = Status; tried = top ∷ rest })
        (asked top.path (Read (0x158 + 0x20 * top.port))) (λ e. cc) (λ value. go (eqb value 2))
        refl))
      where
        w0 : Walker
        w0 = record w { todo = []; stage = Status; tried = top ∷ rest }

        go : (b : Bool) → IsNoWait w0
            (if b then outward w0 (top ∷ rest) else gone_on w0 (top ∷ rest))
        go true = λ e. cc
        go false = gone_no_wait w0 w0 (top ∷ rest)

    numbered_no_wait : (w0 : Walker) (path : List ℕ) → path ≢ [] → IsNoWait w0 (numbered w0 path)
    numbered_no_wait w0 [] some = absurd (some refl)
    numbered_no_wait w0 (first ∷ rest) some =
        gone_no_wait w0 (record w0 {
          devices = w0.devices
              ++ met_as w0.devices (Endpoint (id_after w0.id w0.next)) w0.path ∷ [];
          next = id_after w0.id w0.next + 1;
          todo = write w0.path 0x60 (id_after w0.id w0.next * 0x10000)
              ∷ routes_to w0.devices w0.path (id_after w0.id w0.next);
        }) w0.tried

    stage_waits : (stage : Stage) → IsLed (between stage) → Next (between stage)
    stage_waits Ask led = lock_waits Ask led.1 ask_waits
    stage_waits Claim led =
        quiet (between Claim) (beside_lock (between Claim) (asked w.path (Write 0x68 w.id))
        (λ e. cc) (λ value e. cc) refl)
    stage_waits Check led = lock_waits Check led.1.0 check_waits
    stage_waits Test led =
        quiet (between Test) (beside_lock (between Test) (asked w.path (Read 0x6c))
        (λ e. cc) (λ value. go (eqb value 0)) refl)
      where
        go : (b : Bool) → IsNoWait (between Test)
            (if b then taken (between Test) else gone_on (between Test) w.tried)
        go true = λ e. cc
        go false = gone_no_wait (between Test) (between Test) w.tried
    stage_waits Features led =
        quiet (between Features) (beside_lock (between Features) (asked w.path (Read 0x10))
        (λ e. cc) (λ value. go (eqb (value / 0x10000000 % 2) 1)) refl)
      where
        go : (b : Bool) → IsNoWait (between Features)
            (if b then between Information else numbered (between Features) w.path)
        go true = λ e. cc
        go false = numbered_no_wait (between Features) w.path (λ is. led.1.1 is refl)
    stage_waits Information led =
        quiet (between Information) (beside_lock (between Information) (asked w.path (Read 0x14))
        (λ e. cc) (λ value e. cc) refl)
    stage_waits Status led = status_waits w.tried led.1
    stage_waits Free led =
        quiet (between Free) (beside_lock (between Free)
        (asked (last_path w.devices) (Write 0x68 w.id)) (λ e. cc)
        (λ value. freeing_no_wait (between Free) (between Free) (but_last w.devices)) refl)
    stage_waits Done led = quiet (between Done) (λ e. cc)
    stage_waits Lost led = quiet (between Lost) (λ e. cc)

pub step_waits : (w : Walker) (old : AllRegisters) → w.id < 0xff → IsLed w
    → Waits w.id w (stepped w old).walker (lock_next (state_of w old))
step_waits w old fits led = go w.todo w.stage led
  where
    go : (todo : List PendingWrite) (stage : Stage)
        → IsLed (record w { todo = todo; stage = stage })
        → Waits w.id (record w { todo = todo; stage = stage })
        (stepped (record w { todo = todo; stage = stage }) old).walker
        (lock_next (state_of (record w { todo = todo; stage = stage }) old))
    go [] stage led = stage_waits w fits old stage led
    go (p ∷ rest) stage led =
        let w0 = record w { todo = p ∷ rest; stage = stage } in
        none_waits w.id w0 (stepped w0 old).walker
        (writes_no_wait w0 (stepped w0 old).walker p rest (stepped w0 old).walker.stage refl)
