-- One turn of a walker, at every stage.
use Rattle.contest_machine.proofs.Prelude.{◌≡◌, ◌≢◌, ℕ, ◌+◌, ◌*◌, ◌/◌, ◌%◌, ◌<◌, ◌==◌, Bool, true, false, eqb, List, [], ◌∷◌, ◌++◌, Some, Contains, arith, ◌⊎◌, inl, inr, subst, sym, refl, ap, ◌∙◌, if◌then◌else◌, append-nil, Contains-append_left, Contains-append_right, Contains-append_cases, Kind, Endpoint, Switch, Device, node_at, AllRegisters, paths_of, paths_of-push, Contains-first, Contains-cases, id_after, met_as, PendingWrite, Tried, Stage, Features, Information, Status, Walker, write, routes_to, home_set, gone_on, numbered, switch_set_up, outward, told_at, Keeps, AreOwnWrites, AreListed, AreOnce, IsMine, HasClaimed}
use Rattle.contest_machine.proofs.Keeping.Lists.{Leads, writes-more, listed-more}
use Rattle.contest_machine.proofs.Keeping.Turning.{Leaves, quiet, routes_own, entry_own, home_own}
use Rattle.contest_machine.proofs.Keeping.Stepped.{at_stage, gone_leaves}

module _ (w : Walker) (old : AllRegisters) (fits : w.id < 0xff) where
  abbrev more : Kind → List Device
  more kind = w.devices ++ met_as w.devices kind w.path ∷ []

  pushed : (kind : Kind) → paths_of (more kind) ≡ paths_of w.devices ++ w.path ∷ []
  pushed kind = paths_of-push w.devices (met_as w.devices kind w.path)

  grown : (kind : Kind) → paths_of (more kind) ++ [] ≡ paths_of w.devices ++ w.path ∷ []
  grown kind = append-nil (paths_of (more kind)) ∙ pushed kind

  module _ (stage : Stage) (fresh_is : (node : ℕ) → Keeps (at_stage w stage) node
      → Leads w.view (paths_of w.devices ++ w.path ∷ []) node)
      (is_fresh : (node : ℕ) → Leads w.view (paths_of w.devices ++ w.path ∷ []) node
      → Keeps (at_stage w stage) node)
      (mine : IsMine (at_stage w stage) old)
      (once : AreOnce w.view (paths_of w.devices ++ w.path ∷ []))
      (tagged : (node : ℕ) → node_at w.view w.path ≡ Some node → (old node).tag ≢ 0)
      (kind : Kind) where
    listed_more : (path : List ℕ) → Contains (paths_of w.devices) path
        → Contains (paths_of (more kind)) path
    listed_more path listed =
        subst (λ l. Contains l path) (sym (pushed kind))
        (Contains-append_left (paths_of w.devices) (w.path ∷ []) path listed)

    path_in : Contains (paths_of (more kind)) w.path
    path_in =
        subst (λ l. Contains l w.path) (sym (pushed kind))
        (Contains-append_right (paths_of w.devices) (w.path ∷ []) w.path
        (Contains-first w.path []))

    to_kept : (node : ℕ) → Leads w.view (paths_of (more kind) ++ []) node
        → Keeps (at_stage w stage) node
    to_kept node leads =
        is_fresh node (leads.0, subst (λ l. Contains l leads.0) (grown kind) leads.1, leads.2)

    from_kept : (node : ℕ) → Keeps (at_stage w stage) node
        → Leads w.view (paths_of (more kind) ++ []) node
    from_kept node keeps =
        let leads = fresh_is node keeps in
        (leads.0, subst (λ l. Contains l leads.0) (sym (grown kind)) leads.1, leads.2)

    locks_more : (node : ℕ) → Leads w.view (paths_of (more kind) ++ []) node
        → (old node).lock ≡ w.id
    locks_more node leads = mine.locks node (to_kept node leads)

    tags_more : (path : List ℕ) (node : ℕ) → Contains (paths_of (more kind)) path
        → node_at w.view path ≡ Some node → (old node).tag ≢ 0
    tags_more path node listed leads =
        go (Contains-append_cases (paths_of w.devices) (w.path ∷ []) path
        (subst (λ l. Contains l path) (pushed kind) listed))
      where
        here : (w.path ≡ path) ⊎ Contains [] path → (old node).tag ≢ 0
        here (inl same) = tagged node (ap (λ p. node_at w.view p) same ∙ leads)
        here (inr none) = absurd (omega (arith, none.1))

        go : Contains (paths_of w.devices) path ⊎ Contains (w.path ∷ []) path
            → (old node).tag ≢ 0
        go (inl found) = mine.tags path node found leads
        go (inr found) = here (Contains-cases w.path [] path found)

    once_more : AreOnce w.view (paths_of (more kind) ++ [])
    once_more = subst (AreOnce w.view) (sym (grown kind)) once

    tried_more : AreListed (paths_of (more kind)) w.tried
    tried_more = listed-more (paths_of w.devices) (paths_of (more kind)) w.tried listed_more
        mine.tried

    own_more : (todo : List PendingWrite) → AreOwnWrites (paths_of (more kind)) todo
        → AreOwnWrites (paths_of (more kind) ++ []) todo
    own_more todo own = writes-more (paths_of (more kind)) (paths_of (more kind) ++ []) todo
        (λ path listed. Contains-append_left (paths_of (more kind)) [] path listed) own

  -- the host is taken in
  pub host_less : IsMine (at_stage w Features) old
      → (node : ℕ) → Keeps (numbered (at_stage w Features) []) node
      → Keeps (at_stage w Features) node
  host_less mine =
      to_kept Features (λ node k. k) (λ node k. k) mine mine.once mine.knows (Endpoint w.id)

  pub host_more : IsMine (at_stage w Features) old
      → (node : ℕ) → Keeps (at_stage w Features) node
      → Keeps (numbered (at_stage w Features) []) node
  host_more mine =
      from_kept Features (λ node k. k) (λ node k. k) mine mine.once mine.knows (Endpoint w.id)

  pub host_mine : IsMine (at_stage w Features) old
      → IsMine (numbered (at_stage w Features) []) old
  host_mine mine = record {
    locks = locks_more Features (λ node k. k) (λ node k. k) mine mine.once mine.knows
        (Endpoint w.id);
    tags = tags_more Features (λ node k. k) (λ node k. k) mine mine.once mine.knows
        (Endpoint w.id);
    once = once_more Features (λ node k. k) (λ node k. k) mine mine.once mine.knows
        (Endpoint w.id);
    own = tt;
    tried = tried_more Features (λ node k. k) (λ node k. k) mine mine.once mine.knows
        (Endpoint w.id);
    knows = tt;
  }

  -- the features are read
  pub features_leaves : (value : ℕ) → IsMine (at_stage w Features) old
      → Leaves (at_stage w Features) old (told_at (at_stage w Features) value Features) old
  features_leaves value mine = go (eqb (value / 0x10000000 % 2) 1)
    where
      unclaimed : (node : ℕ) → ¬ HasClaimed (at_stage w Features) old node
      unclaimed node claimed = absurd (cc)

      endpoint : (path : List ℕ) → Leaves (at_stage w Features) old
          (numbered (at_stage w Features) path) old
      endpoint [] = (
        quiet (at_stage w Features) old (numbered (at_stage w Features) []) refl
            (host_less mine) (host_more mine) unclaimed,
        host_mine mine,
      )
      endpoint (first ∷ rest) =
          gone_leaves (record w { devices = more kind; next = id_after w.id w.next + 1 }) old
          (at_stage w Features)
          (write w.path 0x60 (id_after w.id w.next * 0x10000)
          ∷ routes_to w.devices w.path (id_after w.id w.next)) Features refl refl
          (to_kept Features (λ node k. k) (λ node k. k) mine mine.once mine.knows kind)
          (from_kept Features (λ node k. k) (λ node k. k) mine mine.once mine.knows kind) unclaimed
          (locks_more Features (λ node k. k) (λ node k. k) mine mine.once mine.knows kind)
          (tags_more Features (λ node k. k) (λ node k. k) mine mine.once mine.knows kind)
          (once_more Features (λ node k. k) (λ node k. k) mine mine.once mine.knows kind)
          (tried_more Features (λ node k. k) (λ node k. k) mine mine.once mine.knows kind)
          (own_more Features (λ node k. k) (λ node k. k) mine mine.once mine.knows kind
          (write w.path 0x60 (id_after w.id w.next * 0x10000)
          ∷ routes_to w.devices w.path (id_after w.id w.next)) (
            (
              path_in Features (λ node k. k) (λ node k. k) mine mine.once mine.knows kind,
              λ e. omega (arith, e),
              λ e. absurd (omega (arith, e)),
            ),
            routes_own (paths_of (more kind)) w.devices w.path (id_after w.id w.next)
                (listed_more Features (λ node k. k) (λ node k. k) mine mine.once mine.knows kind),
          ))
        where
          kind : Kind
          kind = Endpoint (id_after w.id w.next)

      go : (b : Bool) → Leaves (at_stage w Features) old
          (if b then at_stage w Information else numbered (at_stage w Features) w.path) old
      go true = (
        quiet (at_stage w Features) old (at_stage w Information) refl (λ node k. k) (λ node k. k)
            unclaimed,
        record {
          locks = mine.locks;
          tags = mine.tags;
          once = mine.once;
          own = tt;
          tried = mine.tried;
          knows = (refl, mine.knows);
        },
      )
      go false = endpoint w.path

  -- the ports of a switch are read
  pub information_leaves : (ports entry : ℕ) → IsMine (at_stage w Information) old
      → Leaves (at_stage w Information) old (switch_set_up (at_stage w Information) ports entry) old
  information_leaves ports entry mine = (
    quiet (at_stage w Information) old (switch_set_up (at_stage w Information) ports entry) refl
        (to_kept Information (λ node k. k) (λ node k. k) mine mine.once mine.knows.1
        (Switch ports entry))
        (from_kept Information (λ node k. k) (λ node k. k) mine mine.once mine.knows.1
        (Switch ports entry)) (λ node claimed. absurd (cc)),
    record {
      locks = locks_more Information (λ node k. k) (λ node k. k) mine mine.once mine.knows.1
          (Switch ports entry);
      tags = tags_more Information (λ node k. k) (λ node k. k) mine mine.once mine.knows.1
          (Switch ports entry);
      once = once_more Information (λ node k. k) (λ node k. k) mine mine.once mine.knows.1
          (Switch ports entry);
      own = own_more Information (λ node k. k) (λ node k. k) mine mine.once mine.knows.1
          (Switch ports entry) (home_set w.path w.id entry)
          (home_own (paths_of (more (Switch ports entry))) w.path w.id entry
          (path_in Information (λ node k. k) (λ node k. k) mine mine.once mine.knows.1
          (Switch ports entry)));
      tried = (
        path_in Information (λ node k. k) (λ node k. k) mine mine.once mine.knows.1
            (Switch ports entry),
        tried_more Information (λ node k. k) (λ node k. k) mine mine.once mine.knows.1
            (Switch ports entry),
      );
      knows = tt;
    },
  )

  -- the status of a port is read
  pub status_leaves : (top : Tried) (rest : List Tried) (value : ℕ) → w.tried ≡ top ∷ rest
      → IsMine (at_stage w Status) old
      → Leaves (at_stage w Status) old
      (if value == 2 then outward (at_stage w Status) (top ∷ rest)
      else gone_on (at_stage w Status) w.tried) old
  status_leaves top rest value is mine = go (eqb value 2)
    where
      unclaimed : (node : ℕ) → ¬ HasClaimed (at_stage w Status) old node
      unclaimed node claimed = absurd (cc)

      go : (b : Bool) → Leaves (at_stage w Status) old
          (if b then outward (at_stage w Status) (top ∷ rest)
          else gone_on (at_stage w Status) w.tried) old
      go true = (
        quiet (at_stage w Status) old (outward (at_stage w Status) (top ∷ rest)) refl (λ node k. k)
            (λ node k. k) unclaimed,
        record {
          locks = mine.locks;
          tags = mine.tags;
          once = mine.once;
          own = entry_own (paths_of w.devices ++ []) top.path 255 top.port
              (Contains-append_left (paths_of w.devices) [] top.path
              (subst (AreListed (paths_of w.devices)) is mine.tried).0);
          tried = mine.tried;
          knows = tt;
        },
      )
      go false =
          gone_leaves w old (at_stage w Status) [] Status refl refl (λ node k. k)
          (λ node k. k) unclaimed mine.locks mine.tags mine.once mine.tried tt
