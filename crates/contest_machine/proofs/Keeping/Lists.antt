-- Lists of paths.
use Rattle.contest_machine.proofs.Prelude.{◌≡◌, ◌≢◌, ℕ, List, [], ◌∷◌, ◌++◌, Option, Some, None, Contains, arith, ◌⊎◌, inl, inr, subst, sym, refl, ap, ◌∙◌, cases_eq, Contains-append_left, Contains-append_right, Contains-append_cases, Device, Topology, node_at, paths_of, Contains-first, Contains-rest, Contains-cases, PendingWrite, Tried, last_path, but_last, AreOwnWrites, AreListed, AreOnce}

-- one of these paths leads to a device
abbrev pub Leads : Topology → List (List ℕ) → ℕ → Type 0
Leads view paths node = (path : List ℕ) × Contains paths path × (node_at view path ≡ Some node)

pub leads_or_not : (view : Topology) (paths : List (List ℕ)) (node : ℕ)
    → Leads view paths node ⊎ (¬ Leads view paths node)
leads_or_not view [] node = inr (λ found. omega (arith, found.1.1))
leads_or_not view (path ∷ rest) node = go (node_at view path) refl (leads_or_not view rest node)
  where
    unlike : (o : Option ℕ) → node_at view path ≡ o → o ≢ Some node → ¬ Leads view rest node
        → ¬ Leads view (path ∷ rest) node
    unlike o is other none found = at (Contains-cases path rest found.0 found.1)
      where
        at : (path ≡ found.0) ⊎ Contains rest found.0 → ⊥
        at (inl equal) = other (sym is ∙ (ap (λ p. node_at view p) equal ∙ found.2))
        at (inr later) = none (found.0, later, found.2)

    go : (o : Option ℕ) → node_at view path ≡ o
        → Leads view rest node ⊎ (¬ Leads view rest node)
        → Leads view (path ∷ rest) node ⊎ (¬ Leads view (path ∷ rest) node)
    go o is (inl found) = inl (found.0, Contains-rest path rest found.0 found.1, found.2)
    go None is (inr none) = inr (unlike None is (λ same. absurd (cc)) none)
    go (Some n) is (inr none) = at (cases_eq n node)
      where
        at : (n ≡ node) ⊎ (n ≢ node)
            → Leads view (path ∷ rest) node ⊎ (¬ Leads view (path ∷ rest) node)
        at (inl same) = inl (path, Contains-first path rest, is ∙ ap (λ k. Some k) same)
        at (inr other) = inr (unlike (Some n) is (λ same. other (cc)) none)

pub once-push : (view : Topology) (paths : List (List ℕ)) (path : List ℕ) → AreOnce view paths
    → ((other : List ℕ) → Contains paths other → node_at view other ≢ node_at view path)
    → AreOnce view (paths ++ path ∷ [])
once-push view [] path once new = (λ other found. omega (arith, found.1), tt)
once-push view (first ∷ rest) path once new = (
  λ other found. at other (Contains-append_cases rest (path ∷ []) other found),
  once-push view rest path once.1 (λ other found. new other (Contains-rest first rest other found)),
)
  where
    last : (other : List ℕ) → (path ≡ other) ⊎ Contains [] other
        → node_at view first ≢ node_at view other
    last other (inl same) =
        subst (λ p. node_at view first ≢ node_at view p) same
        (new first (Contains-first first rest))
    last other (inr none) = absurd (omega (arith, none.1))

    at : (other : List ℕ) → Contains rest other ⊎ Contains (path ∷ []) other
        → node_at view first ≢ node_at view other
    at other (inl found) = once.0 other found
    at other (inr found) = last other (Contains-cases path [] other found)

pub once-front : (view : Topology) (paths : List (List ℕ)) (path : List ℕ)
    → AreOnce view (paths ++ path ∷ []) → AreOnce view paths
once-front view [] path once = tt
once-front view (first ∷ rest) path once = (
  λ other found. once.0 other (Contains-append_left rest (path ∷ []) other found),
  once-front view rest path once.1,
)

pub once-last : (view : Topology) (paths : List (List ℕ)) (path other : List ℕ)
    → AreOnce view (paths ++ path ∷ []) → Contains paths other
    → node_at view other ≢ node_at view path
once-last view [] path other once found = absurd (omega (arith, found.1))
once-last view (first ∷ rest) path other once found =
    go (Contains-cases first rest other found)
    (λ later. once-last view rest path other once.1 later)
  where
    go : (first ≡ other) ⊎ Contains rest other
        → (Contains rest other → node_at view other ≢ node_at view path)
        → node_at view other ≢ node_at view path
    go (inl same) on =
        subst (λ p. node_at view p ≢ node_at view path) same
        (once.0 path (Contains-append_right rest (path ∷ []) path (Contains-first path [])))
    go (inr later) on = on later

pub split_last : (devices : List Device) → devices ≢ []
    → paths_of devices ≡ paths_of (but_last devices) ++ last_path devices ∷ []
split_last [] some = absurd (some refl)
split_last (device ∷ []) some = refl
split_last (device ∷ second ∷ rest) some =
    ap (λ l. device.path ∷ l) (split_last (second ∷ rest) (λ e. cc))

-- more paths
pub writes-more : (paths more : List (List ℕ)) (todo : List PendingWrite)
    → ((path : List ℕ) → Contains paths path → Contains more path)
    → AreOwnWrites paths todo → AreOwnWrites more todo
writes-more paths more [] on own = tt
writes-more paths more (p ∷ rest) on own = (
  (on p.path own.0.0, own.0.1, own.0.2),
  writes-more paths more rest on own.1,
)

pub writes-append : (paths : List (List ℕ)) (first second : List PendingWrite)
    → AreOwnWrites paths first → AreOwnWrites paths second
    → AreOwnWrites paths (first ++ second)
writes-append paths [] second own more = more
writes-append paths (p ∷ rest) second own more = (own.0, writes-append paths rest second own.1 more)

pub listed-more : (paths more : List (List ℕ)) (tried : List Tried)
    → ((path : List ℕ) → Contains paths path → Contains more path)
    → AreListed paths tried → AreListed more tried
listed-more paths more [] on listed = tt
listed-more paths more (top ∷ rest) on listed =
    (on top.path listed.0, listed-more paths more rest on listed.1)
