-- A walker that is within its bounds stays within them.
use Rattle.contest_machine.proofs.Prelude.{◌≡◌, ℕ, ◌+◌, ◌*◌, ◌/◌, ◌%◌, Bool, true, false, eqb, List, [], ◌∷◌, ◌++◌, Option, Some, None, IsSome, Contains, arith, subst, sym, refl, if◌then◌else◌, Contains-append_left, Contains-append_right, PortRef, Device, IsTopology, entered, node_at, AllRegisters, paths_of, node_at-entered, Contains-first, Read, Write, answered, PendingWrite, Tried, Stage, Ask, Claim, Check, Test, Features, Information, Status, Free, Done, Lost, Asked, Walker, asked, last_path, but_last, gone_on, taken, judged, numbered, outward, settled, walker_told, reached, stepped, WalkIsBounded, WalkerIsWithin}
use Rattle.contest_machine.proofs.Keeping.Lists.{split_last}
use Rattle.contest_machine.proofs.Keeping.Between.{IsBetween, freeing_within, checks, tests, judged_within, taken_within, gone, outward_within, numbered_within, set_up_within}

-- ---- one access

between : (w : Walker) (last : List (List ℕ)) → IsTopology w.view
    → ((path : List ℕ) → Contains (paths_of w.devices ++ last) path → IsSome (node_at w.view path))
    → WalkIsBounded w.devices w.id w.next w.path w.tried → IsBetween w
between w last proper leading bounded = record {
  proper = proper;
  leading = λ path listed.
      leading path (Contains-append_left (paths_of w.devices) last path listed);
  bounded = bounded;
}

module _ (w : Walker) (old : AllRegisters) where
  reached_within : (w0 : Walker) (ask : Asked) → WalkerIsWithin w0
      → ((at : PortRef) → entered w0.view ask.path ≡ Some at
      → WalkerIsWithin (walker_told w0 (answered (old at.node) at.port ask.access).answer.value))
      → WalkerIsWithin (reached w0 old ask (entered w0.view ask.path)).walker
  reached_within w0 ask within some = go (entered w0.view ask.path) some
    where
      go : (o : Option PortRef) → ((at : PortRef) → o ≡ Some at
          → WalkerIsWithin
          (walker_told w0 (answered (old at.node) at.port ask.access).answer.value))
          → WalkerIsWithin (reached w0 old ask o).walker
      go None some = within
      go (Some at) some = some at refl

  at_path : (at : PortRef) → entered w.view w.path ≡ Some at → IsSome (node_at w.view w.path)
  at_path at enters = subst IsSome (sym (node_at-entered w.view w.path at enters)) refl

  free_within : (devices : List Device)
      → ((path : List ℕ) → Contains (paths_of devices ++ []) path → IsSome (node_at w.view path))
      → (path : List ℕ) → Contains (paths_of (but_last devices)) path
      → IsSome (node_at w.view path)
  free_within [] leading path listed = absurd (omega (arith, listed.1))
  free_within (device ∷ rest) leading path listed =
      leading path (Contains-append_left (paths_of (device ∷ rest)) [] path
      (subst (λ l. Contains l path) (sym (split_last (device ∷ rest) (λ e. cc)))
      (Contains-append_left (paths_of (but_last (device ∷ rest)))
      (last_path (device ∷ rest) ∷ []) path listed)))

  status_within : (tried : List Tried) → WalkerIsWithin (record w
      { todo = []; stage = Status; tried = tried })
      → WalkerIsWithin (stepped (record w { todo = []; stage = Status; tried = tried }) old).walker
  status_within [] within = within
  status_within (top ∷ rest) within =
      reached_within (record w { todo = []; stage = Status; tried = top ∷ rest })
      (asked top.path (Read (0x158 + 0x20 * top.port))) within
      (λ at enters. go
      (eqb (answered (old at.node) at.port (Read (0x158 + 0x20 * top.port))).answer.value 2))
    where
      stands : IsBetween (record w { tried = top ∷ rest })
      stands = between (record w { tried = top ∷ rest }) [] within.proper within.leading
          within.bounded

      go : (b : Bool) → WalkerIsWithin (if b
          then outward (record w { todo = []; stage = Status; tried = top ∷ rest }) (top ∷ rest)
          else gone_on (record w { todo = []; stage = Status; tried = top ∷ rest }) (top ∷ rest))
      go true =
          outward_within (record w { tried = top ∷ rest }) stands Status (top ∷ rest)
          within.bounded.short
      go false = gone (record w { tried = top ∷ rest }) stands Status

  stage_within : (stage : Stage) → WalkerIsWithin (record w { todo = []; stage = stage })
      → WalkerIsWithin (stepped (record w { todo = []; stage = stage }) old).walker
  stage_within Ask within =
      reached_within (record w { todo = []; stage = Ask }) (asked w.path (Read 0x68)) within
      (λ at enters. go (answered (old at.node) at.port (Read 0x68)).answer.value
      (eqb (answered (old at.node) at.port (Read 0x68)).answer.value w.id))
    where
      stands : IsBetween w
      stands = between w [] within.proper within.leading within.bounded

      go : (value : ℕ) (b : Bool) → WalkerIsWithin (if b then record w { todo = []; stage = Test }
          else judged (record w { todo = []; stage = Ask }) value)
      go value true = tests w stands
      go value false = judged_within w stands Ask value
  stage_within Claim within =
      reached_within (record w { todo = []; stage = Claim }) (asked w.path (Write 0x68 w.id)) within
      (λ at enters. checks w (between w [] within.proper within.leading within.bounded))
  stage_within Check within =
      reached_within (record w { todo = []; stage = Check }) (asked w.path (Read 0x68)) within
      (λ at enters. go at enters (answered (old at.node) at.port (Read 0x68)).answer.value
      (eqb (answered (old at.node) at.port (Read 0x68)).answer.value w.id))
    where
      stands : IsBetween w
      stands = between w [] within.proper within.leading within.bounded

      go : (at : PortRef) → entered w.view w.path ≡ Some at → (value : ℕ) (b : Bool)
          → WalkerIsWithin (if b then taken (record w { todo = []; stage = Check })
          else judged (record w { todo = []; stage = Check }) value)
      go at enters value true = taken_within w stands Check (at_path at enters)
      go at enters value false = judged_within w stands Check value
  stage_within Test within =
      reached_within (record w { todo = []; stage = Test }) (asked w.path (Read 0x6c)) within
      (λ at enters. go at enters (eqb (answered (old at.node) at.port (Read 0x6c)).answer.value 0))
    where
      stands : IsBetween w
      stands = between w [] within.proper within.leading within.bounded

      go : (at : PortRef) → entered w.view w.path ≡ Some at → (b : Bool)
          → WalkerIsWithin (if b then taken (record w { todo = []; stage = Test })
          else gone_on (record w { todo = []; stage = Test }) w.tried)
      go at enters true = taken_within w stands Test (at_path at enters)
      go at enters false = gone w stands Test
  stage_within Features within =
      reached_within (record w { todo = []; stage = Features }) (asked w.path (Read 0x10)) within
      (λ at enters. go at enters
      (eqb ((answered (old at.node) at.port (Read 0x10)).answer.value / 0x10000000 % 2) 1))
    where
      stands : IsBetween w
      stands = between w (w.path ∷ []) within.proper within.leading within.bounded

      go : (at : PortRef) → entered w.view w.path ≡ Some at → (b : Bool)
          → WalkerIsWithin (if b then record w { todo = []; stage = Information }
          else numbered (record w { todo = []; stage = Features }) w.path)
      go at enters true = record {
        proper = within.proper;
        leading = within.leading;
        bounded = within.bounded;
      }
      go at enters false = numbered_within w stands (at_path at enters) Features w.path
  stage_within Information within =
      reached_within (record w { todo = []; stage = Information }) (asked w.path (Read 0x14)) within
      (λ at enters.
      let value = (answered (old at.node) at.port (Read 0x14)).answer.value in
      set_up_within w stands (at_path at enters) Information (value / 0x100 % 0x100)
      (value % 0x100))
    where
      stands : IsBetween w
      stands = between w (w.path ∷ []) within.proper within.leading within.bounded
  stage_within Status within = status_within w.tried within
  stage_within Free within =
      reached_within (record w { todo = []; stage = Free })
      (asked (last_path w.devices) (Write 0x68 w.id)) within
      (λ at enters. freeing_within w within.proper Free (but_last w.devices)
      (free_within w.devices within.leading))
  stage_within _ within = within

-- what was written does not matter, but that the host is taken in
settled_within : (w : Walker) (p : PendingWrite) (rest : List PendingWrite) (stage : Stage)
    (path : List ℕ)
    → WalkerIsWithin (record w { todo = p ∷ rest; stage = stage; path = path })
    → WalkerIsWithin
    (settled (record w { todo = p ∷ rest; stage = stage; path = path }) rest stage path)
settled_within w p rest stage path within = go rest stage path within
  where
    same : (rest : List PendingWrite) (stage : Stage) (path : List ℕ)
        → WalkerIsWithin (record w { todo = p ∷ rest; stage = stage; path = path })
        → WalkerIsWithin (record w { todo = rest; stage = stage; path = path })
    same rest stage path within = record {
      proper = within.proper;
      leading = within.leading;
      bounded = within.bounded;
    }

    go : (rest : List PendingWrite) (stage : Stage) (path : List ℕ)
        → WalkerIsWithin (record w { todo = p ∷ rest; stage = stage; path = path })
        → WalkerIsWithin
        (settled (record w { todo = p ∷ rest; stage = stage; path = path }) rest stage
        path)
    go (q ∷ rest) stage path within = same (q ∷ rest) stage path within
    go [] Ask path within = same [] Ask path within
    go [] Claim path within = same [] Claim path within
    go [] Check path within = same [] Check path within
    go [] Test path within = same [] Test path within
    go [] Features (x ∷ path) within = same [] Features (x ∷ path) within
    go [] Features [] within = numbered_within (record w { path = [] }) (record {
      proper = within.proper;
      leading = λ path listed.
          within.leading path (Contains-append_left (paths_of w.devices) ([] ∷ []) path listed);
      bounded = within.bounded;
    }) (within.leading [] (Contains-append_right (paths_of w.devices) ([] ∷ []) []
        (Contains-first [] []))) Features []
    go [] Information path within = same [] Information path within
    go [] Status path within = same [] Status path within
    go [] Free path within = same [] Free path within
    go [] Done path within = same [] Done path within
    go [] Lost path within = same [] Lost path within

pub stepped_within : (w : Walker) (old : AllRegisters) → WalkerIsWithin w
    → WalkerIsWithin (stepped w old).walker
stepped_within w old within = go w.todo w.stage w.path within
  where
    go : (todo : List PendingWrite) (stage : Stage) (path : List ℕ)
        → WalkerIsWithin (record w { todo = todo; stage = stage; path = path })
        → WalkerIsWithin (stepped (record w { todo = todo; stage = stage; path = path }) old).walker
    go [] stage path within = stage_within (record w { path = path }) old stage within
    go (p ∷ rest) stage path within =
        reached_within w old (record w { todo = p ∷ rest; stage = stage; path = path })
        (asked p.path (Write p.offset p.value)) within
        (λ at enters. settled_within w p rest stage path within)
