-- Fronts of paths: each front of a path of a walk is one of its paths.
use Rattle.fabric_map.proofs.Prelude.{◌≡◌, ◌≢◌, ℕ, zero, suc, List, [], ◌∷◌, ◌++◌, length, Contains, arith, ◌⊎◌, inl, inr, subst, sym, refl, ap, ◌∙◌, append_assoc, append-nil, length-append, Topology, Before, onward, Walked, IsNext}
use Rattle.fabric_map.proofs.Order.{front_of, front_of-onward}
use Rattle.fabric_map.proofs.Walks.{last_port}

pub not_before_empty : (p : List ℕ) → ¬ Before p []
not_before_empty [] before = before
not_before_empty (x ∷ p) before = before

-- each front of a path of the list is in the list
pub front_listed : (topology : Topology) (paths : List (List ℕ)) (bound front : List ℕ) (n : ℕ)
    (rest : List ℕ) → length rest ≡ n → Walked topology paths bound
    → Contains paths (front ++ rest) → Contains paths front
front_listed topology paths bound front zero [] long walked listed =
    subst (Contains paths) (append-nil front) listed
front_listed topology paths bound front zero (x ∷ rest) long walked listed =
    absurd (omega (arith, long))
front_listed topology paths bound front (suc n) rest long walked listed =
    go (last_port rest)
    (λ shorter short found. front_listed topology paths bound front n shorter short walked found)
  where
    go : (rest ≡ []) ⊎ ((shorter : List ℕ) × (port : ℕ) × (rest ≡ onward shorter port))
        → ((shorter : List ℕ) → length shorter ≡ n → Contains paths (front ++ shorter)
        → Contains paths front)
        → Contains paths front
    go (inl empty) on =
        let none = ap (λ (l : List ℕ). length l) empty in absurd (omega (arith, long, none))
    go (inr last) on =
        let more = ap (λ (l : List ℕ). length l) last.2
        ∙ length-append last.0 (last.1 ∷ []) in
        on last.0 (omega (arith, long, more))
        (walked.fronts (front ++ last.0) last.1
        (subst (Contains paths)
        (ap (λ l. front ++ l) last.2 ∙ sym (append_assoc front last.0 (last.1 ∷ []))) listed))

-- and so is each front of a path to be tried
pub passed_listed : (topology : Topology) (paths : List (List ℕ)) (bound path front later : List ℕ)
    (port : ℕ) → Walked topology paths bound → IsNext paths path → path ≡ front ++ port ∷ later
    → Contains paths front
passed_listed topology paths bound path front later port walked (inl empty) same =
    absurd (further-not_empty front port later (sym empty ∙ same))
  where
    further-not_empty : (front : List ℕ) (port : ℕ) (later : List ℕ)
        → ¬ ([] ≡ front ++ port ∷ later)
    further-not_empty [] port later same = absurd (cc)
    further-not_empty (x ∷ front) port later same = absurd (cc)
passed_listed topology paths bound path front later port walked (inr last) same =
    go (last_port (port ∷ later))
  where
    go : (port ∷ later ≡ []) ⊎ ((l : List ℕ) × (y : ℕ) × (port ∷ later ≡ onward l y))
        → Contains paths front
    go (inl empty) = absurd (cc)
    go (inr end) =
        let whole : onward last.0 last.1 ≡ onward (front ++ end.0) end.1 =
        sym last.3 ∙ (same ∙ (ap (λ l. front ++ l) end.2
        ∙ sym (append_assoc front end.0 (end.1 ∷ [])))) in
        let equal : last.0 ≡ front ++ end.0 =
        sym (front_of-onward last.0 last.1)
        ∙ (ap (λ l. front_of l) whole ∙ front_of-onward (front ++ end.0) end.1) in
        front_listed topology paths bound front (length end.0) end.0 refl walked
        (subst (Contains paths) equal last.2)

-- the path of a device that is not the host is not empty
pub some_port : (path : List ℕ) (port : ℕ) → onward path port ≢ []
some_port [] port same = absurd (cc)
some_port (x ∷ path) port same = absurd (cc)
