-- A walker that holds on keeps what it keeps, and leaves all else as it was at first.
use Rattle.contest_machine.proofs.Prelude.{◌≡◌, ◌≢◌, ℕ, ◌+◌, ◌*◌, ◌<◌, List, [], ◌∷◌, Option, Some, None, arith, ◌⊎◌, inl, inr, sym, refl, ap, ◌∙◌, cases_eq, PortRef, Registers, entered, AllRegisters, IsForeign, node_at-entered, Access, Read, Write, after_access, with_device-at, with_device-other, PendingWrite, Tried, Stage, Ask, Claim, Check, Test, Features, Information, Status, Free, Done, Lost, Walker, asked, status_asked, wants_at, wants_with, reached, reaches, stepped, Keeps, AreOwnWrites, Knows, IsMine, HasClaimed, HoldsOn, kept}
use Rattle.contest_machine.proofs.Keeping.Frame.{Does, Nothing, Writes, Takes, Frees, IsTurn, keeps_or_not}
use Rattle.contest_machine.proofs.Keeping.Reading.{read-same, write_keeps_lock}
use Rattle.contest_machine.proofs.Keeping.Apart.{step_leaves}

-- ---- what it keeps

module _ (w : Walker) (old : AllRegisters) (mine : IsMine w old) (node : ℕ) (keeps : Keeps w node)
  where
    held : (old node).lock ≡ w.id
    held = mine.locks node keeps

    abbrev StaysHeld : AllRegisters → Type 0
    StaysHeld new = (new node).lock ≡ w.id

    reached_held : (path : List ℕ) (access : Access)
        → ((at : PortRef) → entered w.view path ≡ Some at
        → StaysHeld (after_access old at access))
        → StaysHeld (reached w old (asked path access) (entered w.view path)).registers
    reached_held path access some = go (entered w.view path) refl
      where
        go : (o : Option PortRef) → entered w.view path ≡ o
            → StaysHeld (reached w old (asked path access) o).registers
        go None is = held
        go (Some at) is = some at is

    read_held : (at : PortRef) (offset : ℕ) → StaysHeld (after_access old at (Read offset))
    read_held at offset = ap (λ (r : AllRegisters). (r node).lock) (read-same old at offset) ∙ held

    beside_held : (at : PortRef) (access : Access) → node ≢ at.node
        → StaysHeld (after_access old at access)
    beside_held at access apart =
        ap (λ (d : Registers). d.lock) (with_device-other old at.node node _ apart) ∙ held

    write_held : (at : PortRef) (offset value : ℕ) → offset ≢ 0x68
        → StaysHeld (after_access old at (Write offset value))
    write_held at offset value other = go (cases_eq node at.node)
      where
        go : (node ≡ at.node) ⊎ (node ≢ at.node)
            → StaysHeld (after_access old at (Write offset value))
        go (inl same) =
            ap (λ n. (after_access old at (Write offset value) n).lock) same
            ∙ (ap (λ (d : Registers). d.lock) (with_device-at old at.node _)
            ∙ (write_keeps_lock (old at.node) at.port offset value other
            ∙ (ap (λ n. (old n).lock) (sym same) ∙ held)))
        go (inr apart) = beside_held at (Write offset value) apart

    status_held : (tried : List Tried) → StaysHeld (reaches w old (status_asked tried)).registers
    status_held [] = held
    status_held (top ∷ rest) =
        reached_held top.path (Read (0x158 + 0x20 * top.port))
        (λ at enters. read_held at (0x158 + 0x20 * top.port))

    stage_held : (stage : Stage) → Knows w old stage → HoldsOn stage
        → StaysHeld (reaches w old (wants_at w stage)).registers
    stage_held Ask knows on = reached_held w.path (Read 0x68) (λ at enters. read_held at 0x68)
    stage_held Claim knows on =
        reached_held w.path (Write 0x68 w.id)
        (λ at enters. beside_held at (Write 0x68 w.id)
        (λ same. knows.1 at.node (node_at-entered w.view w.path at enters)
        (ap (λ n. (old n).lock) (sym same) ∙ held)))
    stage_held Check knows on = reached_held w.path (Read 0x68) (λ at enters. read_held at 0x68)
    stage_held Test knows on = reached_held w.path (Read 0x6c) (λ at enters. read_held at 0x6c)
    stage_held Features knows on =
        reached_held w.path (Read 0x10) (λ at enters. read_held at 0x10)
    stage_held Information knows on =
        reached_held w.path (Read 0x14) (λ at enters. read_held at 0x14)
    stage_held Status knows on = status_held w.tried
    stage_held Free knows on = absurd on
    stage_held Done knows on = held
    stage_held Lost knows on = absurd on

    todo_held : (todo : List PendingWrite) → AreOwnWrites (kept w) todo → HoldsOn w.stage
        → StaysHeld (reaches w old (wants_with w todo)).registers
    todo_held [] own on = stage_held w.stage mine.knows on
    todo_held (p ∷ rest) own on =
        reached_held p.path (Write p.offset p.value)
        (λ at enters. write_held at p.offset p.value own.0.1)

    pub kept_held : HoldsOn w.stage → ((stepped w old).registers node).lock ≡ w.id
    kept_held on = todo_held w.todo mine.own on

-- ---- what it does not keep

-- a device that the walker does not keep, and has not just claimed, is as it was at first
abbrev pub LeavesUnkept : AllRegisters → Walker → AllRegisters → Type 0
LeavesUnkept first w now = (node : ℕ) → ¬ Keeps w node → ¬ HasClaimed w now node
    → now node ≡ first node

-- the lock of another host stays as it was at first
abbrev pub LeavesForeign : AllRegisters → ℕ → AllRegisters → Type 0
LeavesForeign first id now = (node : ℕ) → IsForeign id (first node).lock
    → (now node).lock ≡ (first node).lock

module _ (first : AllRegisters) (w : Walker) (old : AllRegisters) (fits : w.id < 0xff)
    (mine : IsMine w old) where
  abbrev after : Walker
  after = (stepped w old).walker

  abbrev new : AllRegisters
  new = (stepped w old).registers

  turn : IsTurn w after old new
  turn = (step_leaves w old fits mine).0

  pub step_unkept : HoldsOn w.stage → LeavesUnkept first w old → LeavesUnkept first after new
  step_unkept on was node none not = go (turn.does node) (keeps_or_not w node)
    where
      still : Keeps after node ⊎ HasClaimed after new node → ⊥
      still (inl keeps) = none keeps
      still (inr claimed) = not claimed

      go : Does w after old new node → Keeps w node ⊎ (¬ Keeps w node) → new node ≡ first node
      go does (inl keeps) =
          let held = kept_held w old mine node keeps on in
          let freed = turn.shrinks node keeps none in
          absurd (omega (arith, fits, sym held ∙ freed))
      go (Nothing same) (inr other) =
          same ∙ was node other (λ claimed. still (turn.claimed node claimed))
      go (Writes keeps same) (inr other) = absurd (other keeps)
      go (Takes free claimed whole) (inr other) = absurd (not claimed)
      go (Frees keeps free whole) (inr other) = absurd (other keeps)

  pub step_foreign : LeavesForeign first w.id old → LeavesForeign first w.id new
  step_foreign was node foreign = go (turn.does node)
    where
      kept_not : Keeps w node → ⊥
      kept_not keeps = foreign.1 (sym (was node foreign) ∙ mine.locks node keeps)

      go : Does w after old new node → (new node).lock ≡ (first node).lock
      go (Nothing same) = ap (λ (d : Registers). d.lock) same ∙ was node foreign
      go (Writes keeps same) = absurd (kept_not keeps)
      go (Takes free claimed whole) = absurd (foreign.0 (sym (was node foreign) ∙ free))
      go (Frees keeps free whole) = absurd (kept_not keeps)
