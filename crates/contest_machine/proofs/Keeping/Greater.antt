-- The walker with the greater ID is never lost.
use Rattle.contest_machine.proofs.Prelude.{◌≡◌, ◌≢◌, ℕ, ◌+◌, ◌*◌, ◌/◌, ◌%◌, ◌<◌, ◌≤◌, ◌++◌, nat_lt, Bool, true, false, eqb, List, [], ◌∷◌, Option, Some, None, arith, ◌⊎◌, inl, inr, subst, sym, refl, ◌∙◌, if◌then◌else◌, eqb-false, ltb-true, PortRef, entered, AllRegisters, Endpoint, id_after, met_as, Read, Write, answered, PendingWrite, Tried, Stage, Ask, Claim, Check, Test, Features, Information, Status, Free, Done, Lost, Asked, write, routes_to, Walker, State, asked, freeing, port_after, gone_on, taken, judged, numbered, outward, settled, walker_told, told_at, reached, stepped, Keeps, IsLockOfNone, IsContest, Side, A, B, walker_turned, Both, turn_of, after_turns, HoldsOn, GreaterHoldsOn}
use Rattle.contest_machine.proofs.Keeping.Frame.{keeps_or_not}
use Rattle.contest_machine.proofs.Keeping.Reading.{lock_told}
use Rattle.contest_machine.proofs.Keeping.Apart.{Holds, swap, step_holds, step_id, begun_contest, turned_by, turn_holds, begun_holds}

-- a lock that does not make a walker give up
abbrev IsNoGreater : ℕ → ℕ → Type 0
IsNoGreater id lock = (lock ≡ 0xffff) ⊎ (lock ≤ id)

gone_holds : (w : Walker) (tried : List Tried) → HoldsOn (gone_on w tried).stage
gone_holds w [] = tt
gone_holds w (top ∷ rest) =
    go (nat_lt (port_after top.entry top.port) top.ports) (gone_holds w rest)
  where
    go : (b : Bool) → HoldsOn (gone_on w rest).stage
        → HoldsOn (if b then record w {
          tried = record top { port = port_after top.entry top.port } ∷ rest;
          stage = Status;
        }
        else gone_on w rest).stage
    go true on = tt
    go false on = on

judged_holds : (w : Walker) (lock : ℕ) → IsNoGreater w.id lock → HoldsOn (judged w lock).stage
judged_holds w lock small = go (eqb lock 0xffff) refl
  where
    less : (b : Bool) → nat_lt w.id lock ≡ b → lock ≢ 0xffff
        → HoldsOn (if b then freeing w w.devices else record w { stage = Ask }).stage
    less false is other = tt
    less true is other = at small
      where
        at : IsNoGreater w.id lock → HoldsOn (freeing w w.devices).stage
        at (inl free) = absurd (other free)
        at (inr most) = absurd (omega (arith, most, ltb-true w.id lock is))

    go : (b : Bool) → eqb lock 0xffff ≡ b
        → HoldsOn (if b then record w { stage = Claim }
        else (if nat_lt w.id lock then freeing w w.devices else record w { stage = Ask })).stage
    go true is = tt
    go false is = less (nat_lt w.id lock) refl (eqb-false lock 0xffff is)

module _ (w : Walker) (value : ℕ) where
  told_holds : (stage : Stage) → HoldsOn stage
      → (IsNoGreater w.id value ⊎ ((stage ≢ Ask) × (stage ≢ Check)))
      → HoldsOn (told_at (record w { stage = stage }) value stage).stage
  told_holds Ask on (inl small) = go (eqb value w.id)
    where
      go : (b : Bool) → HoldsOn (if b then record w { stage = Test }
          else judged (record w { stage = Ask }) value).stage
      go true = tt
      go false = judged_holds (record w { stage = Ask }) value small
  told_holds Ask on (inr other) = absurd (other.0 refl)
  told_holds Claim on small = tt
  told_holds Check on (inl small) = go (eqb value w.id)
    where
      go : (b : Bool) → HoldsOn (if b then taken (record w { stage = Check })
          else judged (record w { stage = Check }) value).stage
      go true = tt
      go false = judged_holds (record w { stage = Check }) value small
  told_holds Check on (inr other) = absurd (other.1 refl)
  told_holds Test on small = go (eqb value 0)
    where
      go : (b : Bool) → HoldsOn (if b then taken (record w { stage = Test })
          else gone_on (record w { stage = Test }) w.tried).stage
      go true = tt
      go false = gone_holds (record w { stage = Test }) w.tried
  told_holds Features on small = go (eqb (value / 0x10000000 % 2) 1)
    where
      numbers : (path : List ℕ) → HoldsOn (numbered (record w { stage = Features }) path).stage
      numbers [] = tt
      numbers (first ∷ rest) =
          gone_holds (record w {
            devices = w.devices ++ met_as w.devices (Endpoint (id_after w.id w.next)) w.path ∷ [];
            next = id_after w.id w.next + 1;
            todo = write w.path 0x60 (id_after w.id w.next * 0x10000)
                ∷ routes_to w.devices w.path (id_after w.id w.next);
            stage = Features;
          }) w.tried

      go : (b : Bool) → HoldsOn (if b then record w { stage = Information }
          else numbered (record w { stage = Features }) w.path).stage
      go true = tt
      go false = numbers w.path
  told_holds Information on small = tt
  told_holds Status on small = go (eqb value 2)
    where
      out : (tried : List Tried) → HoldsOn (outward (record w { stage = Status }) tried).stage
      out [] = tt
      out (top ∷ rest) = tt

      go : (b : Bool) → HoldsOn (if b then outward (record w { stage = Status }) w.tried
          else gone_on (record w { stage = Status }) w.tried).stage
      go true = out w.tried
      go false = gone_holds (record w { stage = Status }) w.tried
  told_holds Done on small = tt
  told_holds _ on small = absurd on

module _ (w : Walker) (old : AllRegisters) (small : (node : ℕ) → IsNoGreater w.id (old node).lock)
  where
    reached_holds : (w0 : Walker) (ask : Asked) → HoldsOn w0.stage
        → ((at : PortRef) → HoldsOn (walker_told w0
        (answered (old at.node) at.port ask.access).answer.value).stage)
        → HoldsOn (reached w0 old ask (entered w0.view ask.path)).walker.stage
    reached_holds w0 ask on some = go (entered w0.view ask.path)
      where
        go : (o : Option PortRef) → HoldsOn (reached w0 old ask o).walker.stage
        go None = on
        go (Some at) = some at

    abbrev between : Stage → Walker
    between stage = record w { todo = []; stage = stage }

    status_holds : (tried : List Tried)
        → HoldsOn (stepped (record w { todo = []; stage = Status; tried = tried }) old).walker.stage
    status_holds [] = tt
    status_holds (top ∷ rest) =
        reached_holds (record w { todo = []; stage = Status; tried = top ∷ rest })
        (asked top.path (Read (0x158 + 0x20 * top.port))) tt
        (λ at. told_holds (record w { todo = []; tried = top ∷ rest }) _ Status tt
        (inr ((λ e. cc), (λ e. cc))))

    stage_holds : (stage : Stage) → HoldsOn stage → HoldsOn (stepped (between stage)
        old).walker.stage
    stage_holds Ask on =
        reached_holds (between Ask) (asked w.path (Read 0x68)) tt
        (λ at. told_holds (record w { todo = [] }) _ Ask tt
        (inl (subst (IsNoGreater w.id) (sym (lock_told (old at.node) at.port)) (small at.node))))
    stage_holds Claim on =
        reached_holds (between Claim) (asked w.path (Write 0x68 w.id)) tt (λ at. tt)
    stage_holds Check on =
        reached_holds (between Check) (asked w.path (Read 0x68)) tt
        (λ at. told_holds (record w { todo = [] }) _ Check tt
        (inl (subst (IsNoGreater w.id) (sym (lock_told (old at.node) at.port)) (small at.node))))
    stage_holds Test on =
        reached_holds (between Test) (asked w.path (Read 0x6c)) tt
        (λ at. told_holds (record w { todo = [] }) _ Test tt (inr ((λ e. cc), (λ e. cc))))
    stage_holds Features on =
        reached_holds (between Features) (asked w.path (Read 0x10)) tt
        (λ at. told_holds (record w { todo = [] }) _ Features tt (inr ((λ e. cc), (λ e. cc))))
    stage_holds Information on =
        reached_holds (between Information) (asked w.path (Read 0x14)) tt (λ at. tt)
    stage_holds Status on = status_holds w.tried
    stage_holds Free on = absurd on
    stage_holds Done on = tt
    stage_holds Lost on = absurd on

settled_holds : (w : Walker) (rest : List PendingWrite) (stage : Stage) (path : List ℕ)
    → HoldsOn stage → HoldsOn (settled (record w { stage = stage }) rest stage path).stage
settled_holds w (q ∷ rest) stage path on = on
settled_holds w [] Ask path on = tt
settled_holds w [] Claim path on = tt
settled_holds w [] Check path on = tt
settled_holds w [] Test path on = tt
settled_holds w [] Features [] on = tt
settled_holds w [] Features (x ∷ path) on = tt
settled_holds w [] Information path on = tt
settled_holds w [] Status path on = tt
settled_holds w [] Free path on = on
settled_holds w [] Done path on = tt
settled_holds w [] Lost path on = on

stepped_holds : (w : Walker) (old : AllRegisters)
    → ((node : ℕ) → IsNoGreater w.id (old node).lock) → HoldsOn w.stage
    → HoldsOn (stepped w old).walker.stage
stepped_holds w old small on = go w.todo w.stage on
  where
    go : (todo : List PendingWrite) (stage : Stage) → HoldsOn stage
        → HoldsOn (stepped (record w { todo = todo; stage = stage }) old).walker.stage
    go [] stage on = stage_holds w old small stage on
    go (p ∷ rest) stage on =
        reached_holds w old small (record w { todo = p ∷ rest; stage = stage })
        (asked p.path (Write p.offset p.value)) on
        (λ at. settled_holds (record w { todo = p ∷ rest }) rest stage w.path on)

-- every lock is free or no greater
no_greater : (w o : Walker) (before now : AllRegisters) → IsContest w o before now → o.id < w.id
    → ((node : ℕ) → (before node).lock ≡ 0xffff) → (node : ℕ) → IsNoGreater w.id (now node).lock
no_greater w o before now contest less free node = go (keeps_or_not w node) (keeps_or_not o node)
  where
    none : IsLockOfNone w o before now node → IsNoGreater w.id (now node).lock
    none (inl is) = inl is
    none (inr (inl first)) = inl (first ∙ free node)
    none (inr (inr (inl claimed))) = inr (omega (arith, claimed.2))
    none (inr (inr (inr claimed))) = inr (omega (arith, claimed.2, less))

    go : Keeps w node ⊎ (¬ Keeps w node) → Keeps o node ⊎ (¬ Keeps o node)
        → IsNoGreater w.id (now node).lock
    go (inl keeps) other = let held = contest.first.locks node keeps in inr (omega (arith, held))
    go (inr not) (inl keeps) =
        let held = contest.second.locks node keeps in inr (omega (arith, held, less))
    go (inr not) (inr also) = none (contest.others node not also)

-- the first has the greater ID, and holds on
abbrev IsGreater : Walker → AllRegisters → State → Type 0
IsGreater o before state = IsContest state.walker o before state.registers
    × (o.id < state.walker.id) × HoldsOn state.walker.stage

module _ (o : Walker) (before : AllRegisters) (free : (node : ℕ) → (before node).lock ≡ 0xffff)
  where
    step_on : (w : Walker) (old : AllRegisters)
        → IsGreater o before (record { walker = w; registers = old })
        → IsGreater o before (stepped w old)
    step_on w old (contest, less, on) = (
      step_holds o before w old contest,
      subst (λ n. o.id < n) (sym (step_id w old contest.first_id contest.first)) less,
      stepped_holds w old (no_greater w o before old contest less free) on,
    )

    turn_on : (w : Walker) (old : AllRegisters)
        → IsGreater o before (record { walker = w; registers = old })
        → IsGreater o before (walker_turned w old)
    turn_on w old (contest, less, on) =
        turned_by (IsGreater o before) step_on w old (contest, less, on)
        (begun_contest w o before old contest, less, on)

-- the other's ID is the same after its turn
other_id : (w : Walker) (before : AllRegisters) (o : Walker) (old : AllRegisters)
    → IsContest o w before
    old
    → (walker_turned o old).walker.id ≡ o.id
other_id w before o old contest =
    (turned_by (λ state. IsContest state.walker w before state.registers
    × (state.walker.id ≡ o.id))
    (λ v r holds. (
      step_holds w before v r holds.0,
      step_id v r holds.0.first_id holds.0.first ∙ holds.1,
    ))
    o old (contest, refl) (begun_contest o w before old contest, refl)).1

turns_hold_on : (before : AllRegisters) (both : Both) (turns : List Side) → Holds before both
    → both.second.id < both.first.id → ((node : ℕ) → (before node).lock ≡ 0xffff)
    → HoldsOn both.first.stage → HoldsOn (after_turns both turns).first.stage
turns_hold_on before both [] holds less free on = on
turns_hold_on before both (A ∷ turns) holds less free on =
    let next = turn_on both.second before free both.first both.registers (holds, less, on) in
    turns_hold_on before (turn_of both A) turns next.0 next.1 free next.2
turns_hold_on before both (B ∷ turns) holds less free on =
    turns_hold_on before (turn_of both B) turns (turn_holds before both B holds)
    (subst (λ n. n < both.first.id) (sym (other_id both.first before both.second both.registers
    (swap both.first both.second before both.registers holds))) less) free on

pub greater_holds_on : GreaterHoldsOn
greater_holds_on both turns new_first new_second less fits free =
    turns_hold_on both.registers both turns
    (begun_holds both new_first new_second (λ same. omega (arith, less, same)) fits
    (omega (arith, less, fits))) less free (subst HoldsOn (sym new_first.stage) tt)
