-- After each turn of two walkers, no device is kept by both.
use Rattle.contest_machine.proofs.Prelude.{◌≡◌, ◌≢◌, ℕ, ◌+◌, ◌*◌, ◌/◌, ◌%◌, ◌<◌, Bool, true, false, List, [], ◌∷◌, ◌++◌, Option, Some, None, Contains, arith, inl, inr, subst, sym, refl, ap, ◌∙◌, if◌then◌else◌, PortRef, entered, AllRegisters, paths_of, Read, Write, answered, after_access, PendingWrite, Tried, Stage, Ask, Claim, Check, Test, Features, Information, Status, Free, Done, Lost, Asked, Walker, State, asked, kept, fresh, last_path, numbered, settled, told_at, reached, stepped, Keeps, Knows, AreOnce, AreOwnWrites, AreListed, IsMine, IsLockOfNone, IsContest, Side, A, B, is_locking, locked_on, walker_turned, Both, turn_of, after_turns, IsNew, TurnsKeepApart}
use Rattle.contest_machine.proofs.Keeping.Frame.{Nothing, turn_and_quiet, contest-stays, kept_stays}
use Rattle.contest_machine.proofs.Keeping.Reading.{read-same, lock_told, tag_told}
use Rattle.contest_machine.proofs.Keeping.Turning.{Leaves}
use Rattle.contest_machine.proofs.Keeping.Stepped.{at_stage, write_leaves, ask_leaves, check_leaves, test_leaves, claim_leaves}
use Rattle.contest_machine.proofs.Keeping.Staged.{host_less, host_more, host_mine, features_leaves, information_leaves, status_leaves}
use Rattle.contest_machine.proofs.Keeping.Freed.{free_leaves}

idle_leaves : (w : Walker) (old : AllRegisters) → IsMine w old → Leaves w old w old
idle_leaves w old mine = (
  record {
    id = refl;
    does = λ node. Nothing refl;
    grows = λ node keeps. inl keeps;
    shrinks = λ node keeps none. absurd (none keeps);
    claimed = λ node claimed. inr claimed;
  },
  mine,
)

-- the registers after a read are the same
read_leaves : (w after : Walker) (old : AllRegisters) (at : PortRef) (offset : ℕ)
    → Leaves w old after old → Leaves w old after (after_access old at (Read offset))
read_leaves w after old at offset leaves =
    subst (λ r. Leaves w old after r) (sym (read-same old at offset)) leaves

-- The host is taken in as soon as it has its marks.
settled_leaves : (w : Walker) (old : AllRegisters) → w.id < 0xff → (p : PendingWrite)
    (rest : List PendingWrite) (stage : Stage) (path : List ℕ) (new : AllRegisters)
    → Leaves (record w { todo = p ∷ rest; stage = stage; path = path }) old
    (record w { todo = rest; stage = stage; path = path }) new
    → Leaves (record w { todo = p ∷ rest; stage = stage; path = path }) old
    (settled (record w { todo = p ∷ rest; stage = stage; path = path }) rest stage path) new
settled_leaves w old fits p (q ∷ rest) stage path new leaves = leaves
settled_leaves w old fits p [] Ask path new leaves = leaves
settled_leaves w old fits p [] Claim path new leaves = leaves
settled_leaves w old fits p [] Check path new leaves = leaves
settled_leaves w old fits p [] Test path new leaves = leaves
settled_leaves w old fits p [] Features (x ∷ path) new leaves = leaves
settled_leaves w old fits p [] Features [] new leaves =
    let host = record w { path = [] } in (
      turn_and_quiet (record host { todo = p ∷ []; stage = Features }) (at_stage host Features)
          (numbered (at_stage host Features) []) old new leaves.0 refl
          (host_less host new fits leaves.1) (host_more host new fits leaves.1)
          (λ node claimed. absurd (cc)),
      host_mine host new fits leaves.1,
    )
settled_leaves w old fits p [] Information path new leaves = leaves
settled_leaves w old fits p [] Status path new leaves = leaves
settled_leaves w old fits p [] Free path new leaves = leaves
settled_leaves w old fits p [] Done path new leaves = leaves
settled_leaves w old fits p [] Lost path new leaves = leaves

module _ (w : Walker) (old : AllRegisters) (fits : w.id < 0xff) where
  reached_leaves : (w0 : Walker) (ask : Asked) → IsMine w0 old
      → ((at : PortRef) → entered w0.view ask.path ≡ Some at
      → Leaves w0 old (reached w0 old ask (Some at)).walker (reached w0 old ask
      (Some at)).registers)
      → Leaves w0 old (reached w0 old ask (entered w0.view ask.path)).walker
      (reached w0 old ask (entered w0.view ask.path)).registers
  reached_leaves w0 ask mine some = go (entered w0.view ask.path) some
    where
      go : (o : Option PortRef) → ((at : PortRef) → o ≡ Some at
          → Leaves w0 old (reached w0 old ask (Some at)).walker
          (reached w0 old ask (Some at)).registers)
          → Leaves w0 old (reached w0 old ask o).walker (reached w0 old ask o).registers
      go None some = idle_leaves w0 old mine
      go (Some at) some = some at refl

  status_step : (tried : List Tried) → w.tried ≡ tried → IsMine
      (at_stage (record w { tried = tried }) Status) old
      → Leaves (at_stage (record w { tried = tried }) Status) old
      (stepped (at_stage (record w { tried = tried }) Status) old).walker
      (stepped (at_stage (record w { tried = tried }) Status) old).registers
  status_step [] is mine = idle_leaves (at_stage (record w { tried = [] }) Status) old mine
  status_step (top ∷ rest) is mine =
      reached_leaves (at_stage (record w { tried = top ∷ rest }) Status)
      (asked top.path (Read (0x158 + 0x20 * top.port))) mine
      (λ at enters.
      read_leaves (at_stage (record w { tried = top ∷ rest }) Status) _ old at
      (0x158 + 0x20 * top.port)
      (status_leaves (record w { tried = top ∷ rest }) old fits top rest
      (answered (old at.node) at.port (Read (0x158 + 0x20 * top.port))).answer.value refl mine))

  stage_step : (stage : Stage) → IsMine (at_stage w stage) old
      → Leaves (at_stage w stage) old (stepped (at_stage w stage) old).walker
      (stepped (at_stage w stage) old).registers
  stage_step Ask mine =
      reached_leaves (at_stage w Ask) (asked w.path (Read 0x68)) mine
      (λ at enters. read_leaves (at_stage w Ask) _ old at 0x68
      (subst (λ n. Leaves (at_stage w Ask) old (told_at (at_stage w Ask) n Ask) old)
      (sym (lock_told (old at.node) at.port)) (ask_leaves w old fits at enters mine)))
  stage_step Claim mine =
      reached_leaves (at_stage w Claim) (asked w.path (Write 0x68 w.id)) mine
      (λ at enters. claim_leaves w old fits at enters mine)
  stage_step Check mine =
      reached_leaves (at_stage w Check) (asked w.path (Read 0x68)) mine
      (λ at enters. read_leaves (at_stage w Check) _ old at 0x68
      (subst (λ n. Leaves (at_stage w Check) old (told_at (at_stage w Check) n Check) old)
      (sym (lock_told (old at.node) at.port)) (check_leaves w old fits at enters mine)))
  stage_step Test mine =
      reached_leaves (at_stage w Test) (asked w.path (Read 0x6c)) mine
      (λ at enters. read_leaves (at_stage w Test) _ old at 0x6c
      (subst (λ n. Leaves (at_stage w Test) old (told_at (at_stage w Test) n Test) old)
      (sym (tag_told (old at.node) at.port)) (test_leaves w old fits at enters mine)))
  stage_step Features mine =
      reached_leaves (at_stage w Features) (asked w.path (Read 0x10)) mine
      (λ at enters. read_leaves (at_stage w Features) _ old at 0x10
      (features_leaves w old fits (answered (old at.node) at.port (Read 0x10)).answer.value mine))
  stage_step Information mine =
      reached_leaves (at_stage w Information) (asked w.path (Read 0x14)) mine
      (λ at enters.
      let value = (answered (old at.node) at.port (Read 0x14)).answer.value in
      read_leaves (at_stage w Information) _ old at 0x14
      (information_leaves w old fits (value / 0x100 % 0x100) (value % 0x100) mine))
  stage_step Status mine = status_step w.tried refl mine
  stage_step Free mine =
      reached_leaves (at_stage w Free) (asked (last_path w.devices) (Write 0x68 w.id)) mine
      (λ at enters. free_leaves w old fits at enters mine)
  stage_step Done mine = idle_leaves (at_stage w Done) old mine
  stage_step Lost mine = idle_leaves (at_stage w Lost) old mine

-- One access: the walker knows what it keeps, and changes a lock from free to its ID or back, or
-- another register of a device that it keeps.
pub step_leaves : (w : Walker) (old : AllRegisters) → w.id < 0xff → IsMine w old
    → Leaves w old (stepped w old).walker (stepped w old).registers
step_leaves w old fits mine = go w.todo w.stage w.path mine
  where
    go : (todo : List PendingWrite) (stage : Stage) (path : List ℕ)
        → IsMine (record w { todo = todo; stage = stage; path = path }) old
        → Leaves (record w { todo = todo; stage = stage; path = path }) old
        (stepped (record w { todo = todo; stage = stage; path = path }) old).walker
        (stepped (record w { todo = todo; stage = stage; path = path }) old).registers
    go [] stage path mine = stage_step (record w { path = path }) old fits stage mine
    go (p ∷ rest) stage path mine =
        reached_leaves w old fits (record w { todo = p ∷ rest; stage = stage; path = path })
        (asked p.path (Write p.offset p.value)) mine
        (λ at enters. settled_leaves w old fits p rest stage path
        (after_access old at (Write p.offset p.value))
        (write_leaves (record w { stage = stage; path = path }) old p rest mine at enters))

swap_lock : (w o : Walker) (before now : AllRegisters) (node : ℕ) → IsLockOfNone w o before now node
    → IsLockOfNone o w before now node
swap_lock w o before now node (inl free) = inl free
swap_lock w o before now node (inr (inl first)) = inr (inl first)
swap_lock w o before now node (inr (inr (inl claimed))) = inr (inr (inr claimed))
swap_lock w o before now node (inr (inr (inr claimed))) = inr (inr (inl claimed))

pub swap : (w o : Walker) (before now : AllRegisters) → IsContest w o before now
    → IsContest o w before now
swap w o before now contest = record {
  differ = λ same. contest.differ (sym same);
  first_id = contest.second_id;
  second_id = contest.first_id;
  first = contest.second;
  second = contest.first;
  others = λ node none not. swap_lock w o before now node (contest.others node not none);
  stale_first = λ node none not. contest.stale_second node not none;
  stale_second = λ node none not. contest.stale_first node not none;
}

abbrev pub Holds : AllRegisters → Both → Type 0
Holds before both = IsContest both.first both.second before both.registers

-- ---- what stays at each access stays in a turn

abbrev state_of : Walker → AllRegisters → State
state_of w old = record { walker = w; registers = old }

module _ (P : State → Type 0)
    (step : (w : Walker) (old : AllRegisters) → P (state_of w old) → P (stepped w old)) where
  locked_by : (state : State) → P state → P (locked_on state)
  locked_by state holds = go (is_locking state.walker.stage)
    where
      go : (b : Bool) → P (if b then stepped state.walker state.registers else state)
      go true = step state.walker state.registers holds
      go false = holds

  pub turned_by : (w : Walker) (old : AllRegisters) → P (state_of w old)
      → P (state_of (record w { begun = true }) old) → P (walker_turned w old)
  turned_by w old holds begun = go w.begun
    where
      first : State
      first = stepped (record w { begun = true }) old

      go : (b : Bool) → P (if b then stepped w old else locked_on (locked_on first))
      go true = step w old holds
      go false = locked_by (locked_on first)
          (locked_by first (step (record w { begun = true }) old begun))

-- ---- a turn of the first

abbrev pub HoldsFor : Walker → AllRegisters → State → Type 0
HoldsFor o before state = IsContest state.walker o before state.registers

pub step_holds : (o : Walker) (before : AllRegisters) (w : Walker) (old : AllRegisters)
    → IsContest w o before old → HoldsFor o before (stepped w old)
step_holds o before w old contest =
    let leaves = step_leaves w old contest.first_id contest.first in
    contest-stays w (stepped w old).walker o before old (stepped w old).registers contest
    leaves.0 leaves.1

pub begun_mine : (w : Walker) (now : AllRegisters) → IsMine w now
    → IsMine (record w { begun = true }) now
begun_mine w now mine = record {
  locks = mine.locks;
  tags = mine.tags;
  once = mine.once;
  own = mine.own;
  tried = mine.tried;
  knows = known w.stage mine.knows;
}
  where
    known : (stage : Stage) → Knows w now stage → Knows (record w { begun = true }) now stage
    known Ask knows = tt
    known Claim knows = knows
    known Check knows = knows
    known Test knows = knows
    known Features knows = knows
    known Information knows = knows
    known Status knows = tt
    known Free knows = knows
    known Done knows = tt
    known Lost knows = tt

pub begun_contest : (w o : Walker) (before now : AllRegisters) → IsContest w o before now
    → IsContest (record w { begun = true }) o before now
begun_contest w o before now contest = record {
  differ = contest.differ;
  first_id = contest.first_id;
  second_id = contest.second_id;
  first = begun_mine w now contest.first;
  second = contest.second;
  others = contest.others;
  stale_first = contest.stale_first;
  stale_second = contest.stale_second;
}

pub turned_holds : (o : Walker) (before : AllRegisters) (w : Walker) (old : AllRegisters)
    → IsContest w o before old → HoldsFor o before (walker_turned w old)
turned_holds o before w old contest =
    turned_by (HoldsFor o before) (step_holds o before) w old contest
    (begun_contest w o before old contest)

-- what `w` keeps is as it was in `old`, while the other makes a turn
abbrev LeavesKept : Walker → AllRegisters → AllRegisters → State → Type 0
LeavesKept w before old state = IsContest state.walker w before state.registers
    × ((node : ℕ) → Keeps w node → state.registers node ≡ old node)

module _ (w : Walker) (before old : AllRegisters) where
  step_leaves_kept : (o : Walker) (now : AllRegisters)
      → LeavesKept w before old (record { walker = o; registers = now })
      → LeavesKept w before old (stepped o now)
  step_leaves_kept o now holds =
      let leaves = step_leaves o now holds.0.first_id holds.0.first in (
        step_holds w before o now holds.0,
        λ node keeps.
            kept_stays o (stepped o now).walker w now (stepped o now).registers leaves.0
            holds.0.first holds.0.second holds.0.differ holds.0.second_id node keeps
            ∙ holds.1 node keeps,
      )

  -- a turn of the other leaves what this one keeps
  pub turn_leaves_kept : (o : Walker) → IsContest o w before old → (node : ℕ) → Keeps w node
      → (walker_turned o old).registers node ≡ old node
  turn_leaves_kept o contest =
      (turned_by (LeavesKept w before old) step_leaves_kept o old
      (contest, λ node keeps. refl)
      (begun_contest o w before old contest, λ node keeps. refl)).1

-- ---- turns of both

pub turn_holds : (before : AllRegisters) (both : Both) (side : Side) → Holds before both
    → Holds before (turn_of both side)
turn_holds before both A contest = turned_holds both.second before both.first both.registers contest
turn_holds before both B contest =
    swap (walker_turned both.second both.registers).walker both.first before _
    (turned_holds both.first before both.second both.registers
    (swap both.first both.second before both.registers contest))

pub turns_hold : (before : AllRegisters) (both : Both) (turns : List Side) → Holds before both
    → Holds before (after_turns both turns)
turns_hold before both [] contest = contest
turns_hold before both (side ∷ turns) contest =
    turns_hold before (turn_of both side) turns (turn_holds before both side contest)

new_keeps : (w : Walker) → IsNew w → kept w ≡ []
new_keeps w new =
    ap (λ d. paths_of d ++ fresh w.stage w.path) new.devices ∙ ap (λ s. fresh s w.path) new.stage

new_mine : (w : Walker) (now : AllRegisters) → IsNew w → IsMine w now
new_mine w now new = record {
  locks = λ node keeps.
      absurd (none keeps.0 (subst (λ l. Contains l keeps.0) (new_keeps w new) keeps.1));
  tags = λ path node listed leads.
      absurd (none path (subst (λ d. Contains (paths_of d) path) new.devices listed));
  once = subst (AreOnce w.view) (sym (new_keeps w new)) tt;
  own = subst (AreOwnWrites (kept w)) (sym new.todo) tt;
  tried = subst (AreListed (paths_of w.devices)) (sym new.tried) tt;
  knows = subst (Knows w now) (sym new.stage) tt;
}
  where
    none : (path : List ℕ) → ¬ Contains [] path
    none path found = omega (arith, found.1)

pub step_id : (w : Walker) (old : AllRegisters) → w.id < 0xff → IsMine w old
    → (stepped w old).walker.id ≡ w.id
step_id w old fits mine = (step_leaves w old fits mine).0.id

pub begun_holds : (both : Both) → IsNew both.first → IsNew both.second
    → both.first.id ≢ both.second.id → both.first.id < 0xff → both.second.id < 0xff
    → Holds both.registers both
begun_holds both new_first new_second differ first_id second_id = record {
  differ = differ;
  first_id = first_id;
  second_id = second_id;
  first = new_mine both.first both.registers new_first;
  second = new_mine both.second both.registers new_second;
  others = λ node none not. inr (inl refl);
  stale_first = λ node none not held apart. refl;
  stale_second = λ node none not held apart. refl;
}

pub turns_keep_apart : TurnsKeepApart
turns_keep_apart both turns new_first new_second differ first_id second_id = record {
  apart = λ node keeps also.
      last.differ (sym (last.first.locks node keeps) ∙ last.second.locks node also);
  first = last.first.locks;
  second = last.second.locks;
  others = last.others;
}
  where
    last : Holds both.registers (after_turns both turns)
    last = turns_hold both.registers both turns
        (begun_holds both new_first new_second differ first_id second_id)
