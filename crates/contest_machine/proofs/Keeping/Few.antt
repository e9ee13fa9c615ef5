-- No more paths lead to different devices than there are devices.
use Rattle.contest_machine.proofs.Prelude.{◌≡◌, ◌≢◌, ℕ, ◌<◌, ◌≤◌, ◌||◌, Bool, true, false, eqb, List, [], ◌∷◌, length, map, Option, Some, None, IsSome, unwrap_or, Contains, subst, sym, refl, ne_eqb, list_any, IsDistinct, AllByRecursion, eqb-true, length-map, PortRef, Topology, IsTopology, entered, node_at, entered-inside, same_number, node_at-entered, Contains-first, Contains-rest, AreOnce}
use Rattle.std.proofs.lemmas.Map.Steps.{length-le_from_distinct_below}
use Rattle.std.proofs.lemmas.Map.Keys.{IsDistinct-cons}

-- ---- how many devices

abbrev number_of : Topology → List ℕ → ℕ
number_of view path = unwrap_or (node_at view path) 0

module _ (view : Topology) (proper : IsTopology view) where
  abbrev AreLeading : List (List ℕ) → Type 0
  AreLeading paths = (path : List ℕ) → Contains paths path → IsSome (node_at view path)

  apart : (path : List ℕ) (paths : List (List ℕ)) → IsSome (node_at view path)
      → AreLeading paths
      → ((other : List ℕ) → Contains paths other → node_at view path ≢ node_at view other)
      → AllByRecursion (λ y. eqb (number_of view path) y ≡ false) (map (number_of view) paths)
  apart path [] some leading other = tt
  apart path (first ∷ paths) some leading other = (
    ne_eqb (number_of view path) (number_of view first) (λ same.
        other first (Contains-first first paths)
        (same_number (node_at view path) (node_at view first) some
        (leading first (Contains-first first paths)) same)),
    apart path paths some (λ p listed. leading p (Contains-rest first paths p listed))
        (λ p listed. other p (Contains-rest first paths p listed)),
  )

  distinct : (paths : List (List ℕ)) → AreLeading paths → AreOnce view paths
      → IsDistinct eqb (map (number_of view) paths)
  unfolding IsDistinct
  distinct [] leading once = tt
  distinct (first ∷ paths) leading once =
      IsDistinct-cons eqb (number_of view first) (map (number_of view) paths)
      (apart first paths (leading first (Contains-first first paths))
      (λ p listed. leading p (Contains-rest first paths p listed)) once.0)
      (distinct paths (λ p listed. leading p (Contains-rest first paths p listed)) once.1)

  inside : (path : List ℕ) → IsSome (node_at view path) → number_of view path < view.nodes
  inside path some = go (entered view path) refl some
    where
      go : (o : Option PortRef) → entered view path ≡ o → IsSome (node_at view path)
          → number_of view path < view.nodes
      go None is some =
          let none : node_at view path ≡ None = cc in
          absurd (cc)
      go (Some at) is some =
          subst (λ n. unwrap_or n 0 < view.nodes) (sym (node_at-entered view path at is))
          (entered-inside view path at proper is)

  below : (paths : List (List ℕ)) → AreLeading paths → (q : ℕ)
      → list_any (eqb q) (map (number_of view) paths) ≡ true → q < view.nodes
  below [] leading q found = absurd (cc)
  below (first ∷ paths) leading q found =
      go (eqb q (number_of view first)) refl found
      (below paths (λ p listed. leading p (Contains-rest first paths p listed)) q)
    where
      go : (b : Bool) → eqb q (number_of view first) ≡ b
          → (b || list_any (eqb q) (map (number_of view) paths)) ≡ true
          → (list_any (eqb q) (map (number_of view) paths) ≡ true → q < view.nodes)
          → q < view.nodes
      go true is found on =
          subst (λ k. k < view.nodes) (sym (eqb-true q (number_of view first) is))
          (inside first (leading first (Contains-first first paths)))
      go false is found on = on found

  -- no more paths lead to different devices than there are devices
  pub once_few : (paths : List (List ℕ)) → AreLeading paths → AreOnce view paths
      → length paths ≤ view.nodes
  once_few paths leading once =
      subst (λ n. n ≤ view.nodes) (length-map paths (number_of view))
      (length-le_from_distinct_below (map (number_of view) paths) view.nodes
      (distinct paths leading once) (below paths leading))
