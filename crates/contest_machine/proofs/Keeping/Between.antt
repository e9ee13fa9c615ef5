-- What a walker does between two devices leaves it within its bounds.
use Rattle.contest_machine.proofs.Prelude.{◌≡◌, ◌≢◌, ℕ, ◌+◌, ◌*◌, ◌≤◌, nat_lt, Bool, true, false, eqb, List, [], ◌∷◌, ◌++◌, length, IsSome, Contains, arith, ◌⊎◌, inl, inr, subst, sym, refl, if◌then◌else◌, append-nil, length-append, eqb-true, eqb-false, Contains-append_cases, Kind, Endpoint, Switch, Device, Topology, IsTopology, node_at, paths_of, paths_of-push, Contains-cases, id_after, met_as, Tried, Stage, Ask, Claim, Check, Test, Status, Walker, write, routes_to, freeing, port_after, gone_on, taken, judged, numbered, switch_set_up, outward, AreShort, WalkIsBounded, WalkerIsWithin}

-- ---- what stands between two devices

pub record IsBetween (w : Walker) : Type 0 where
  pub proper : IsTopology w.view
  pub leading : (path : List ℕ) → Contains (paths_of w.devices) path → IsSome (node_at w.view path)
  pub bounded : WalkIsBounded w.devices w.id w.next w.path w.tried

pub no_fresh : (view : Topology) (paths : List (List ℕ))
    → ((path : List ℕ) → Contains paths path → IsSome (node_at view path))
    → (path : List ℕ) → Contains (paths ++ []) path → IsSome (node_at view path)
no_fresh view paths leading path listed =
    leading path (subst (λ l. Contains l path) (append-nil paths) listed)

pub with_fresh : (view : Topology) (paths : List (List ℕ)) (last : List ℕ)
    → ((path : List ℕ) → Contains paths path → IsSome (node_at view path))
    → IsSome (node_at view last)
    → (path : List ℕ) → Contains (paths ++ last ∷ []) path → IsSome (node_at view path)
with_fresh view paths last leading some path listed =
    go (Contains-append_cases paths (last ∷ []) path listed)
  where
    here : (last ≡ path) ⊎ Contains [] path → IsSome (node_at view path)
    here (inl same) = subst (λ p. IsSome (node_at view p)) same some
    here (inr none) = absurd (omega (arith, none.1))

    go : Contains paths path ⊎ Contains (last ∷ []) path → IsSome (node_at view path)
    go (inl found) = leading path found
    go (inr found) = here (Contains-cases last [] path found)

short_more : (most : ℕ) (tried : List Tried) → AreShort most tried → AreShort (most + 1) tried
short_more most [] short = tt
short_more most (top ∷ rest) short = (omega (arith, short.0), short_more most rest short.1)

module _ (w : Walker) (proper : IsTopology w.view) where
  abbrev Leading : List Device → Type 0
  Leading devices =
      (path : List ℕ) → Contains (paths_of devices) path → IsSome (node_at w.view path)

  pub freeing_within : (stage : Stage) (devices : List Device) → Leading devices
      → WalkerIsWithin (freeing (record w { todo = []; stage = stage }) devices)
  freeing_within stage [] leading = record {
    proper = proper;
    leading = no_fresh w.view [] leading;
    bounded = tt;
  }
  freeing_within stage (device ∷ rest) leading = record {
    proper = proper;
    leading = no_fresh w.view (paths_of (device ∷ rest)) leading;
    bounded = tt;
  }

  pub gone_within : (tried : List Tried) → Leading w.devices → length w.path ≤ length w.devices
      → w.next ≤ length w.devices + 1 → (w.next ≤ w.id → w.next ≤ length w.devices)
      → AreShort (length w.devices) tried → WalkerIsWithin (gone_on w tried)
  gone_within [] leading path next before short = record {
    proper = proper;
    leading = no_fresh w.view (paths_of w.devices) leading;
    bounded = tt;
  }
  gone_within (top ∷ rest) leading path next before short =
      go (nat_lt (port_after top.entry top.port) top.ports)
      (gone_within rest leading path next before short.1)
    where
      go : (b : Bool) → WalkerIsWithin (gone_on w rest)
          → WalkerIsWithin (if b then record w {
            tried = record top { port = port_after top.entry top.port } ∷ rest;
            stage = Status;
          }
          else gone_on w rest)
      go true on = record {
        proper = proper;
        leading = no_fresh w.view (paths_of w.devices) leading;
        bounded = record { path_is = path; next_is = next; before = before; short = short };
      }
      go false on = on

module _ (w : Walker) (between : IsBetween w) where
  abbrev at_stage : Stage → Walker
  at_stage stage = record w { todo = []; stage = stage }

  longer : (kind : Kind) → length (w.devices ++ met_as w.devices kind w.path ∷ [])
      ≡ length w.devices + 1
  longer kind = length-append w.devices (met_as w.devices kind w.path ∷ [])

  pub asks : WalkerIsWithin (at_stage Ask)
  asks = record {
    proper = between.proper;
    leading = no_fresh w.view (paths_of w.devices) between.leading;
    bounded = between.bounded;
  }

  pub claims : WalkerIsWithin (at_stage Claim)
  claims = record {
    proper = between.proper;
    leading = no_fresh w.view (paths_of w.devices) between.leading;
    bounded = between.bounded;
  }

  pub checks : WalkerIsWithin (at_stage Check)
  checks = record {
    proper = between.proper;
    leading = no_fresh w.view (paths_of w.devices) between.leading;
    bounded = between.bounded;
  }

  pub tests : WalkerIsWithin (at_stage Test)
  tests = record {
    proper = between.proper;
    leading = no_fresh w.view (paths_of w.devices) between.leading;
    bounded = between.bounded;
  }

  pub judged_within : (stage : Stage) (lock : ℕ) → WalkerIsWithin (judged (at_stage stage) lock)
  judged_within stage lock = go (eqb lock 0xffff) (nat_lt w.id lock)
    where
      go : (b c : Bool) → WalkerIsWithin (if b then at_stage Claim
          else (if c then freeing (at_stage stage) w.devices else at_stage Ask))
      go true c = claims
      go false true = freeing_within w between.proper stage w.devices between.leading
      go false false = asks

  pub taken_within : (stage : Stage) → IsSome (node_at w.view w.path)
      → WalkerIsWithin (taken (at_stage stage))
  taken_within stage some = record {
    proper = between.proper;
    leading = with_fresh w.view (paths_of w.devices) w.path between.leading some;
    bounded = between.bounded;
  }

  pub gone : (stage : Stage) → WalkerIsWithin (gone_on (at_stage stage) w.tried)
  gone stage =
      gone_within (at_stage stage) between.proper w.tried between.leading between.bounded.path_is
      between.bounded.next_is between.bounded.before between.bounded.short

  pub outward_within : (stage : Stage) (tried : List Tried) → AreShort (length w.devices) tried
      → WalkerIsWithin (outward (record (at_stage stage) { tried = tried }) tried)
  outward_within stage [] short = record {
    proper = between.proper;
    leading = no_fresh w.view (paths_of w.devices) between.leading;
    bounded = tt;
  }
  outward_within stage (top ∷ rest) short = record {
    proper = between.proper;
    leading = no_fresh w.view (paths_of w.devices) between.leading;
    bounded = record {
      path_is =
          let longer = length-append top.path (top.port ∷ []) in
          let less = short.0 in
          omega (arith, longer, less);
      next_is = between.bounded.next_is;
      before = between.bounded.before;
      short = short;
    };
  }

  -- the device on the path is taken in
  module _ (some : IsSome (node_at w.view w.path)) where
    leading_more : (kind : Kind) (path : List ℕ)
        → Contains (paths_of (w.devices ++ met_as w.devices kind w.path ∷ [])) path
        → IsSome (node_at w.view path)
    leading_more kind path listed =
        with_fresh w.view (paths_of w.devices) w.path between.leading some path
        (subst (λ l. Contains l path) (paths_of-push w.devices (met_as w.devices kind w.path))
        listed)

    short_longer : (kind : Kind)
        → AreShort (length (w.devices ++ met_as w.devices kind w.path ∷ [])) w.tried
    short_longer kind =
        subst (λ n. AreShort n w.tried) (sym (longer kind))
        (short_more (length w.devices) w.tried between.bounded.short)

    path_longer : (kind : Kind)
        → length w.path ≤ length (w.devices ++ met_as w.devices kind w.path ∷ [])
    path_longer kind =
        let long = longer kind in
        let path = between.bounded.path_is in
        omega (arith, long, path)

    pub numbered_within : (stage : Stage) (path : List ℕ) → WalkerIsWithin
        (numbered (at_stage stage) path)
    numbered_within stage [] = record {
      proper = between.proper;
      leading = no_fresh w.view _ (leading_more (Endpoint w.id));
      bounded = record {
        path_is = let long = longer (Endpoint w.id) in omega (arith, long);
        next_is =
            let long = longer (Endpoint w.id) in
            let next = between.bounded.next_is in
            omega (arith, long, next);
        before = λ early.
            let long = longer (Endpoint w.id) in
            let before = between.bounded.before early in
            omega (arith, long, before);
        short = short_longer (Endpoint w.id);
      };
    }
    numbered_within stage (first ∷ rest) = gone_within (record w {
      devices = w.devices ++ met_as w.devices (Endpoint (id_after w.id w.next)) w.path ∷ [];
      next = id_after w.id w.next + 1;
      todo = write w.path 0x60 (id_after w.id w.next * 0x10000)
          ∷ routes_to w.devices w.path (id_after w.id w.next);
      stage = stage;
    }) between.proper w.tried (leading_more (Endpoint (id_after w.id w.next)))
        (path_longer (Endpoint (id_after w.id w.next))) next_bound before_bound
        (short_longer (Endpoint (id_after w.id w.next)))
      where
        given : ((w.next ≡ w.id) × (id_after w.id w.next ≡ w.next + 1))
            ⊎ ((w.next ≢ w.id) × (id_after w.id w.next ≡ w.next))
        given = go (eqb w.next w.id) refl
          where
            go : (b : Bool) → eqb w.next w.id ≡ b
                → ((w.next ≡ w.id) × ((if b then w.next + 1 else w.next) ≡ w.next + 1))
                ⊎ ((w.next ≢ w.id) × ((if b then w.next + 1 else w.next) ≡ w.next))
            go true is = inl (eqb-true w.next w.id is, refl)
            go false is = inr (eqb-false w.next w.id is, refl)

        next_bound : id_after w.id w.next + 1
            ≤ length (w.devices ++ met_as w.devices (Endpoint (id_after w.id w.next)) w.path ∷ [])
            + 1
        next_bound = go given
          where
            go : ((w.next ≡ w.id) × (id_after w.id w.next ≡ w.next + 1))
                ⊎ ((w.next ≢ w.id) × (id_after w.id w.next ≡ w.next))
                → id_after w.id w.next + 1
                ≤ length (w.devices ++ met_as w.devices (Endpoint (id_after w.id w.next)) w.path ∷
                [])
                + 1
            go (inl (same, is)) =
                let long = longer (Endpoint (id_after w.id w.next)) in
                let most = between.bounded.before (omega (arith, same)) in
                omega (arith, long, is, most)
            go (inr (other, is)) =
                let long = longer (Endpoint (id_after w.id w.next)) in
                let most = between.bounded.next_is in
                omega (arith, long, is, most)

        before_bound : id_after w.id w.next + 1 ≤ w.id → id_after w.id w.next + 1
            ≤ length (w.devices ++ met_as w.devices (Endpoint (id_after w.id w.next)) w.path ∷ [])
        before_bound early = go given
          where
            go : ((w.next ≡ w.id) × (id_after w.id w.next ≡ w.next + 1))
                ⊎ ((w.next ≢ w.id) × (id_after w.id w.next ≡ w.next))
                → id_after w.id w.next + 1
                ≤ length (w.devices ++ met_as w.devices (Endpoint (id_after w.id w.next)) w.path ∷
                [])
            go (inl (same, is)) = absurd (omega (arith, same, is, early))
            go (inr (other, is)) =
                let long = longer (Endpoint (id_after w.id w.next)) in
                let most = between.bounded.before (omega (arith, is, early)) in
                omega (arith, long, is, most)

    pub set_up_within : (stage : Stage) (ports entry : ℕ)
        → WalkerIsWithin (switch_set_up (at_stage stage) ports entry)
    set_up_within stage ports entry = record {
      proper = between.proper;
      leading = no_fresh w.view _ (leading_more (Switch ports entry));
      bounded = record {
        path_is = path_longer (Switch ports entry);
        next_is =
            let long = longer (Switch ports entry) in
            let next = between.bounded.next_is in
            omega (arith, long, next);
        before = λ early.
            let long = longer (Switch ports entry) in
            let before = between.bounded.before early in
            omega (arith, long, before);
        short = (
          let long = longer (Switch ports entry) in
              let path = between.bounded.path_is in
              omega (arith, long, path),
          short_longer (Switch ports entry),
        );
      };
    }
