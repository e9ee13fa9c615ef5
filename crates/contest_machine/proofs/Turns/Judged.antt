-- Each access leaves a walker as the locks that it has read judge it.
use Rattle.contest_machine.proofs.Prelude.{◌≡◌, ◌≢◌, ℕ, ◌+◌, ◌*◌, ◌/◌, ◌%◌, ◌<◌, nat_lt, Bool, true, false, eqb, List, [], ◌∷◌, ◌++◌, append-nil, Option, Some, None, Contains, arith, ◌⊎◌, inl, inr, subst, sym, refl, if◌then◌else◌, eqb-true, eqb-false, ltb-true, ltb-false, Contains-append_right, Contains-append_cases, PortRef, Endpoint, Device, entered, AllRegisters, Contains-first, Contains-cases, not_in_empty, Read, Write, answered, id_after, met_as, Asked, PendingWrite, Tried, Stage, Ask, Claim, Check, Test, Features, Information, Status, Free, Done, Lost, Walker, asked, write, routes_to, last_path, but_last, freeing, gone_on, taken, judged, numbered, outward, settled, walker_told, told_at, reached, stepped, lock_at, lock_next, state_of, HasGreater}
use Rattle.contest_machine.proofs.Keeping.Reading.{lock_told}
use Rattle.contest_machine.proofs.Keeping.Stepped.{some_left}
use Rattle.contest_machine.proofs.Turns.Steps.{gone_by, status_reads_none}

-- What a walker with this ID, which has read these locks, keeps: it frees it if one was greater,
-- and is lost once nothing is left.
abbrev pub IsJudgedAt : ℕ → List ℕ → Walker → Stage → Type 0
IsJudgedAt id locks w Ask = ¬ HasGreater id locks
IsJudgedAt id locks w Claim = ¬ HasGreater id locks
IsJudgedAt id locks w Check = ¬ HasGreater id locks
IsJudgedAt id locks w Test = ¬ HasGreater id locks
IsJudgedAt id locks w Features = ¬ HasGreater id locks
IsJudgedAt id locks w Information = ¬ HasGreater id locks
IsJudgedAt id locks w Status = ¬ HasGreater id locks
IsJudgedAt id locks w Free = HasGreater id locks × (w.devices ≢ [])
IsJudgedAt id locks w Done = ¬ HasGreater id locks
IsJudgedAt id locks w Lost = HasGreater id locks × (w.devices ≡ []) × (w.todo ≡ [])

abbrev pub IsJudged : ℕ → List ℕ → Walker → Type 0
IsJudged id locks w = (w.id ≡ id) × IsJudgedAt id locks w w.stage

-- one lock more
greater_more : (id lock : ℕ) (locks : List ℕ) → id < lock → lock ≢ 0xffff
    → HasGreater id (locks ++ lock ∷ [])
greater_more id lock locks more some = (
  lock,
  Contains-append_right locks (lock ∷ []) lock (Contains-first lock []),
  more,
  some,
)

none_more : (id lock : ℕ) (locks : List ℕ) → ¬ HasGreater id locks
    → ¬ ((id < lock) × (lock ≢ 0xffff)) → ¬ HasGreater id (locks ++ lock ∷ [])
none_more id lock locks none not found =
    go (Contains-append_cases locks (lock ∷ []) found.0 found.1)
  where
    here : (lock ≡ found.0) ⊎ Contains [] found.0 → ⊥
    here (inl same) = not (subst (λ n. (id < n) × (n ≢ 0xffff)) (sym same) (found.2, found.3))
    here (inr empty) = not_in_empty found.0 empty

    go : Contains locks found.0 ⊎ Contains (lock ∷ []) found.0 → ⊥
    go (inl inside) = none (found.0, inside, found.2, found.3)
    go (inr last) = here (Contains-cases lock [] found.0 last)

module _ (id : ℕ) (locks : List ℕ) where
  gone_judged : (w : Walker) (tried : List Tried) → w.id ≡ id → ¬ HasGreater id locks
      → IsJudged id locks (gone_on w tried)
  gone_judged w tried is none =
      gone_by (IsJudged id locks) w tried (λ t some. (is, none)) (is, none)

  freeing_judged : (w : Walker) (devices : List Device) → w.id ≡ id → HasGreater id locks
      → IsJudged id locks (freeing w devices)
  freeing_judged w [] is some = (is, (some, refl, refl))
  freeing_judged w (device ∷ rest) is some = (is, (some, λ e. cc))

  numbered_judged : (w : Walker) (path : List ℕ) → w.id ≡ id → ¬ HasGreater id locks
      → IsJudged id locks (numbered w path)
  numbered_judged w [] is none = (is, none)
  numbered_judged w (first ∷ rest) is none =
      gone_judged (record w {
        devices = w.devices ++ met_as w.devices (Endpoint (id_after w.id w.next)) w.path ∷ [];
        next = id_after w.id w.next + 1;
        todo = write w.path 0x60 (id_after w.id w.next * 0x10000)
            ∷ routes_to w.devices w.path (id_after w.id w.next);
      }) w.tried is none

  outward_judged : (w : Walker) (tried : List Tried) → w.id ≡ id → ¬ HasGreater id locks
      → IsJudged id locks (outward w tried)
  outward_judged w [] is none = (is, none)
  outward_judged w (top ∷ rest) is none = (is, none)

  settled_judged : (w : Walker) (rest : List PendingWrite) (stage : Stage) (path : List ℕ)
      → w.id ≡ id → IsJudgedAt id locks (record w { todo = rest }) stage
      → IsJudged id locks (settled (record w { stage = stage }) rest stage path)
  settled_judged w (q ∷ rest) stage path is holds = (is, holds)
  settled_judged w [] Ask path is holds = (is, holds)
  settled_judged w [] Claim path is holds = (is, holds)
  settled_judged w [] Check path is holds = (is, holds)
  settled_judged w [] Test path is holds = (is, holds)
  settled_judged w [] Features [] is holds = (is, holds)
  settled_judged w [] Features (x ∷ path) is holds = (is, holds)
  settled_judged w [] Information path is holds = (is, holds)
  settled_judged w [] Status path is holds = (is, holds)
  settled_judged w [] Free path is holds = (is, holds)
  settled_judged w [] Done path is holds = (is, holds)
  settled_judged w [] Lost path is holds = (is, holds)

-- a lock was read that is not the walker's own
judged_judged : (id : ℕ) (locks : List ℕ) (w : Walker) (lock : ℕ) → w.id ≡ id
    → ¬ HasGreater id locks → IsJudged id (locks ++ lock ∷ []) (judged w lock)
judged_judged id locks w lock is none = go (eqb lock 0xffff) refl (nat_lt w.id lock) refl
  where
    more : List ℕ
    more = locks ++ lock ∷ []

    go : (b : Bool) → eqb lock 0xffff ≡ b → (c : Bool) → nat_lt w.id lock ≡ c
        → IsJudged id (locks ++ lock ∷ []) (if b then record w { stage = Claim }
        else (if c then freeing w w.devices else record w { stage = Ask }))
    go true free c less =
        (is, none_more id lock locks none (λ found. found.1 (eqb-true lock 0xffff free)))
    go false some true less =
        freeing_judged id (locks ++ lock ∷ []) w w.devices is
        (greater_more id lock locks
        (subst (λ n. n < lock) is (ltb-true w.id lock less)) (eqb-false lock 0xffff some))
    go false some false less =
        let most = ltb-false w.id lock less in
        (is, none_more id lock locks none (λ found. omega (arith, most, is, found.0)))

-- a lock was read
module _ (id : ℕ) (locks : List ℕ) (w : Walker) (is : w.id ≡ id) (none : ¬ HasGreater id locks)
    (lock : ℕ) where
  own : lock ≡ w.id → ¬ HasGreater id (locks ++ lock ∷ [])
  own same = none_more id lock locks none (λ found. omega (arith, same, is, found.0))

  ask_judged : IsJudged id (locks ++ lock ∷ []) (told_at (record w { stage = Ask }) lock Ask)
  ask_judged = go (eqb lock w.id) refl
    where
      go : (b : Bool) → eqb lock w.id ≡ b → IsJudged id (locks ++ lock ∷ [])
          (if b then record w { stage = Test } else judged (record w { stage = Ask }) lock)
      go true same = (is, own (eqb-true lock w.id same))
      go false other = judged_judged id locks (record w { stage = Ask }) lock is none

  check_judged : IsJudged id (locks ++ lock ∷ []) (told_at (record w { stage = Check }) lock Check)
  check_judged = go (eqb lock w.id) refl
    where
      go : (b : Bool) → eqb lock w.id ≡ b → IsJudged id (locks ++ lock ∷ [])
          (if b then taken (record w { stage = Check })
          else judged (record w { stage = Check }) lock)
      go true same = (is, own (eqb-true lock w.id same))
      go false other = judged_judged id locks (record w { stage = Check }) lock is none

-- one access
module _ (id : ℕ) (locks : List ℕ) (w : Walker) (old : AllRegisters) where
  abbrev After : Walker → Type 0
  After after = IsJudged id (locks ++ []) after

  none_read : (after : Walker) → IsJudged id locks after → After after
  none_read after holds = subst (λ l. IsJudged id l after) (sym (append-nil locks)) holds

  -- another register is read or written
  beside_lock : (w0 : Walker) (ask : Asked) → IsJudged id locks w0
      → ((at : PortRef) → IsJudged id locks
      (walker_told w0 (answered (old at.node) at.port ask.access).answer.value))
      → After (reached w0 old ask (entered w0.view ask.path)).walker
  beside_lock w0 ask holds some = go (entered w0.view ask.path)
    where
      go : (o : Option PortRef) → After (reached w0 old ask o).walker
      go None = none_read w0 holds
      go (Some at) =
          none_read (walker_told w0 (answered (old at.node) at.port ask.access).answer.value)
          (some at)

  -- the lock is read
  at_lock : (w0 : Walker) → IsJudged id locks w0
      → ((lock : ℕ) → IsJudged id (locks ++ lock ∷ []) (walker_told w0 lock))
      → IsJudged id (locks ++ lock_at old (entered w0.view w0.path))
      (reached w0 old (asked w0.path (Read 0x68)) (entered w0.view w0.path)).walker
  at_lock w0 holds some = go (entered w0.view w0.path)
    where
      go : (o : Option PortRef) → IsJudged id (locks ++ lock_at old o)
          (reached w0 old (asked w0.path (Read 0x68)) o).walker
      go None = none_read w0 holds
      go (Some at) =
          subst (λ n. IsJudged id (locks ++ (old at.node).lock ∷ []) (walker_told w0 n))
          (sym (lock_told (old at.node) at.port)) (some (old at.node).lock)

  abbrev between : Stage → Walker
  between stage = record w { todo = []; stage = stage }

  abbrev Read_on : Walker → Type 0
  Read_on w0 = IsJudged id (locks ++ lock_next (state_of w0 old)) (stepped w0 old).walker

  status_judged : (tried : List Tried) → w.id ≡ id → ¬ HasGreater id locks
      → Read_on (record w { todo = []; stage = Status; tried = tried })
  status_judged [] is none =
      none_read (record w { todo = []; stage = Status; tried = [] }) (is, none)
  status_judged (top ∷ rest) is none =
      subst (λ l. IsJudged id (locks ++ l)
      (stepped (record w { todo = []; stage = Status; tried = top ∷ rest }) old).walker)
      (sym (status_reads_none w old top rest))
      (beside_lock (record w { todo = []; stage = Status; tried = top ∷ rest })
      (asked top.path (Read (0x158 + 0x20 * top.port))) (is, none)
      (λ at. go (eqb (answered (old at.node) at.port
      (Read (0x158 + 0x20 * top.port))).answer.value 2)))
    where
      go : (b : Bool) → IsJudged id locks (if b
          then outward (record w { todo = []; stage = Status; tried = top ∷ rest }) (top ∷ rest)
          else gone_on (record w { todo = []; stage = Status; tried = top ∷ rest }) (top ∷ rest))
      go true = (is, none)
      go false = gone_judged id locks
          (record w { todo = []; stage = Status; tried = top ∷ rest }) (top ∷ rest) is none

  stage_judged : (stage : Stage) → IsJudged id locks (between stage) → Read_on (between stage)
  stage_judged Ask holds =
      at_lock (between Ask) holds
      (ask_judged id locks (record w { todo = [] }) holds.0 holds.1)
  stage_judged Claim holds =
      beside_lock (between Claim) (asked w.path (Write 0x68 w.id)) holds (λ at. holds)
  stage_judged Check holds =
      at_lock (between Check) holds
      (check_judged id locks (record w { todo = [] }) holds.0 holds.1)
  stage_judged Test holds =
      beside_lock (between Test) (asked w.path (Read 0x6c)) holds
      (λ at. go (eqb (answered (old at.node) at.port (Read 0x6c)).answer.value 0))
    where
      go : (b : Bool) → IsJudged id locks
          (if b then taken (between Test) else gone_on (between Test) w.tried)
      go true = holds
      go false = gone_judged id locks (between Test) w.tried holds.0 holds.1
  stage_judged Features holds =
      beside_lock (between Features) (asked w.path (Read 0x10)) holds
      (λ at. go (eqb ((answered (old at.node) at.port (Read 0x10)).answer.value / 0x10000000 % 2)
      1))
    where
      go : (b : Bool) → IsJudged id locks
          (if b then between Information else numbered (between Features) w.path)
      go true = holds
      go false = numbered_judged id locks (between Features) w.path holds.0 holds.1
  stage_judged Information holds =
      beside_lock (between Information) (asked w.path (Read 0x14)) holds (λ at. holds)
  stage_judged Status holds = status_judged w.tried holds.0 holds.1
  stage_judged Free holds =
      beside_lock (between Free) (asked (last_path w.devices) (Write 0x68 w.id)) holds
      (λ at. freeing_judged id locks (between Free) (but_last w.devices) holds.0 holds.1.0)
  stage_judged Done holds = none_read (between Done) holds
  stage_judged Lost holds = none_read (between Lost) holds

pub step_judged : (id : ℕ) (locks : List ℕ) (w : Walker) (old : AllRegisters) → IsJudged id locks w
    → IsJudged id (locks ++ lock_next (state_of w old)) (stepped w old).walker
step_judged id locks w old holds = go w.todo w.stage holds
  where
    still : (p : PendingWrite) (rest : List PendingWrite) (stage : Stage)
        → IsJudgedAt id locks (record w { todo = p ∷ rest }) stage
        → IsJudgedAt id locks (record w { todo = rest }) stage
    still p rest Ask none = none
    still p rest Claim none = none
    still p rest Check none = none
    still p rest Test none = none
    still p rest Features none = none
    still p rest Information none = none
    still p rest Status none = none
    still p rest Free some = some
    still p rest Done none = none
    still p rest Lost some = absurd (some_left p rest some.2)

    go : (todo : List PendingWrite) (stage : Stage)
        → IsJudged id locks (record w { todo = todo; stage = stage })
        → IsJudged id (locks ++ lock_next (state_of (record w { todo = todo; stage = stage }) old))
        (stepped (record w { todo = todo; stage = stage }) old).walker
    go [] stage holds = stage_judged id locks w old stage holds
    go (p ∷ rest) stage holds =
        beside_lock id locks w old (record w { todo = p ∷ rest; stage = stage })
        (asked p.path (Write p.offset p.value)) holds
        (λ at. settled_judged id locks (record w { todo = p ∷ rest }) rest stage w.path holds.0
        (still p rest stage holds.1))
