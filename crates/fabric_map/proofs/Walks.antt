-- Two walks of one fabric meet the same devices, as far as both go.
use Rattle.fabric_map.proofs.Prelude.{◌≡◌, ℕ, List, [], ◌∷◌, ◌++◌, IsSome, Contains, AllPairs, ◌⊎◌, inl, inr, subst, sym, refl, ◌∙◌, ap, append_assoc, append-nil, All-contains, Contains-append_left, Topology, node_at, Before, IsNotAfter, onward, IsMet, Walked, IsNext}
use Rattle.fabric_map.proofs.Order.{Before-irreflexive, Before-transitive, Before-further, compared}
use Rattle.fabric_map.proofs.Lists.{front_is_before, is_in_front, Contains-middle}

-- a path is empty or has a last port
pub last_port : (path : List ℕ)
    → (path ≡ []) ⊎ ((front : List ℕ) × (port : ℕ) × (path ≡ onward front port))
last_port [] = inl refl
last_port (x ∷ path) = inr (go (last_port path))
  where
    go : (path ≡ []) ⊎ ((front : List ℕ) × (port : ℕ) × (path ≡ onward front port))
        → (front : List ℕ) × (port : ℕ) × (x ∷ path ≡ onward front port)
    go (inl empty) = ([], x, ap (λ l. x ∷ l) empty)
    go (inr last) = (x ∷ last.0, last.1, ap (λ l. x ∷ l) last.2)

-- the path of a met device may be tried after the others
pub is_next : (topology : Topology) (paths : List (List ℕ)) (bound path : List ℕ)
    → Walked topology paths bound → Contains paths path → IsNext paths path
is_next topology paths bound path walked listed = go (last_port path)
  where
    go : (path ≡ []) ⊎ ((front : List ℕ) × (port : ℕ) × (path ≡ onward front port))
        → IsNext paths path
    go (inl empty) = inl empty
    go (inr last) =
        inr (
          last.0,
          last.1,
          walked.fronts last.0 last.1 (subst
              (Contains paths) last.2 listed),
          last.2,
        )

-- a device whose path may be tried, and stands before the bound, is met
pub met_before : (topology : Topology) (paths : List (List ℕ)) (bound path : List ℕ)
    → Walked topology paths bound → IsNext paths path → IsSome (node_at topology path)
    → Before path bound → IsMet topology paths path
met_before topology paths bound path walked (inl empty) leads before =
    record {
      met_on = path;
      listed = subst (Contains paths) (sym empty) (walked.host_met (subst
          (λ l. Before l bound) empty before));
      same_device = refl;
      not_after = inl refl;
    }
met_before topology paths bound path walked (inr last) leads before =
    subst (IsMet topology paths) (sym last.3)
    (walked.done last.0 last.1 last.2
    (subst (λ l. IsSome (node_at topology l)) last.3 leads)
    (subst (λ l. Before l bound) last.3 before))

-- If two walks meet the same devices before a path, and one meets a device on it, the other does,
-- unless it ends before.
shared_path : (topology : Topology) (first second : List (List ℕ)) (b c path : List ℕ)
    → Walked topology first b → Walked topology second c → Contains first path → Before path c
    → ((p : List ℕ) → Contains first p → Before p path → Contains second p) → ((p : List ℕ)
    → Contains second p → Before p path → Contains first p) → Contains second path
shared_path topology first second b c path one two listed before there here =
    on (met_before topology second c path two (next (is_next topology first b path one listed))
    (All-contains (λ p. IsSome (node_at topology p)) first path one.leading listed) before)
  where
    next : IsNext first path → IsNext second path
    next (inl empty) = inl empty
    next (inr last) =
        inr (
          last.0,
          last.1,
          there last.0 last.2 (subst (Before last.0) (sym last.3)
              (Before-further last.0 last.1 [])),
          last.3,
        )

    at : (met_on : List ℕ) → Contains second met_on
        → node_at topology met_on ≡ node_at topology path → IsNotAfter met_on path
        → Contains second path
    at met_on found same (inl equal) = subst (Contains second) equal found
    at met_on found same (inr earlier) =
        absurd (Before-irreflexive path
        (subst (λ p. Before p path) (one.once met_on path
        (here met_on found earlier) listed same) earlier))

    on : IsMet topology second path → Contains second path
    on met = at met.met_on met.listed met.same_device met.not_after

-- the one list is a front of the other
abbrev pub Longer : List (List ℕ) → List (List ℕ) → Type 0
Longer short long = (p : List ℕ) × (rest : List (List ℕ)) × (long ≡ short ++ p ∷ rest)

abbrev pub Agree : List (List ℕ) → List (List ℕ) → Type 0
Agree first second = (first ≡ second) ⊎ (Longer first second ⊎ Longer second first)

-- the lists differ in their next path, and that cannot be
differ : (topology : Topology) (first second : List (List ℕ)) (b c : List ℕ) (same : List
    (List ℕ)) (p q : List ℕ) (r s : List (List ℕ)) → Walked topology first b
    → Walked topology second c → first ≡ same ++ p ∷ r → second ≡ same ++ q ∷ s → ¬ Before p q
differ topology first second b c same p q r s one two is_one is_two less =
    let in_one : Contains first p = subst (λ l. Contains l p) (sym is_one)
    (Contains-middle same r p) in
    let in_two : Contains second q = subst (λ l. Contains l q) (sym is_two)
    (Contains-middle same s q) in
    let ordered_one = subst (AllPairs Before) is_one one.ordered in
    let ordered_two = subst (AllPairs Before) is_two two.ordered in
    let before = Before-transitive p q c less (All-contains
    (λ l. Before l c) second q two.before in_two) in
    let to_two = λ (l : List ℕ) (found : Contains first l) (earlier : Before l p).
    subst (λ list. Contains list l) (sym is_two)
    (Contains-append_left same (q ∷ s) l
    (is_in_front same r p l ordered_one (subst
    (λ list. Contains list l) is_one found) earlier)) in
    let to_same = λ (l : List ℕ) (found : Contains second l) (earlier : Before l p).
    is_in_front same s q l ordered_two (subst (λ list. Contains list l) is_two found)
    (Before-transitive l p q earlier less) in
    let to_one = λ (l : List ℕ) (found : Contains second l) (earlier : Before l p).
    subst (λ list. Contains list l) (sym is_one) (Contains-append_left same (p ∷ r) l
    (to_same l found earlier)) in
    let in_front = is_in_front same s q p ordered_two
    (subst (λ list. Contains list p) is_two
    (shared_path topology first second b c p one two in_one before to_two to_one)) less in
    Before-irreflexive p (front_is_before same r p p ordered_one in_front)

agree_on : (topology : Topology) (first second : List (List ℕ)) (b c : List ℕ) (same r s : List
    (List ℕ)) → Walked topology first b → Walked topology second c → first ≡ same ++ r
    → second ≡ same ++ s → Agree first second
agree_on topology first second b c same [] [] one two is_one is_two = inl (is_one ∙ sym is_two)
agree_on topology first second b c same [] (q ∷ s) one two is_one is_two =
    inr (inl (q, s, is_two ∙ ap (λ l. l ++ q ∷ s) (sym (is_one ∙ append-nil same))))
agree_on topology first second b c same (p ∷ r) [] one two is_one is_two =
    inr (inr (p, r, is_one ∙ ap (λ l. l ++ p ∷ r) (sym (is_two ∙ append-nil same))))
agree_on topology first second b c same (p ∷ r) (q ∷ s) one two is_one is_two =
    go (compared p q) (λ equal. agree_on topology first second b c (same ++ p ∷ []) r s one two
    (is_one ∙ sym (append_assoc same (p ∷ []) r))
    (is_two ∙ (ap (λ l. same ++ l ∷ s) (sym equal) ∙ sym (append_assoc same (p ∷ []) s))))
  where
    go : (p ≡ q) ⊎ (Before p q ⊎ Before q p) → ((p ≡ q) → Agree first second) → Agree first second
    go (inl equal) on = on equal
    go (inr (inl less)) on = absurd
        (differ topology first second b c same p q r s one two is_one is_two less)
    go (inr (inr more)) on = absurd
        (differ topology second first c b same q p s r two one is_two is_one more)

pub agree : (topology : Topology) (first second : List (List ℕ)) (b c : List ℕ)
    → Walked topology first b → Walked topology second c → Agree first second
agree topology first second b c one two = agree_on topology first second b c [] first second one
    two refl refl

-- the walk that goes further meets whatever the other meets
pub included : (topology : Topology) (first second : List (List ℕ)) (b c : List ℕ)
    → Walked topology first b → Walked topology second c → IsNotAfter b c → (path : List ℕ)
    → Contains first path → Contains second path
included topology first second b c one two further path listed = go
    (agree topology first second b c one two)
  where
    before_end : (p : List ℕ) → IsNotAfter b c → Before p b → Before p c
    before_end p (inl same) before = subst (Before p) same before
    before_end p (inr earlier) before = Before-transitive p b c before earlier

    too_long : Longer second first → Contains second path
    too_long longer =
        let p = longer.0 in
        let in_one : Contains first p = subst (λ l. Contains l p) (sym longer.2)
        (Contains-middle second longer.1 p) in
        let ordered = subst (AllPairs Before) longer.2 one.ordered in
        let in_two = shared_path topology first second b c p one two in_one
        (before_end p further (All-contains (λ l. Before l b) first p one.before in_one))
        (λ l found earlier. is_in_front second longer.1 p l ordered (subst
        (λ list. Contains list l) longer.2 found) earlier)
        (λ l found earlier. subst (λ list. Contains list l) (sym longer.2)
        (Contains-append_left second (p ∷ longer.1) l found)) in
        absurd (Before-irreflexive p (front_is_before second longer.1 p p ordered in_two))

    go : Agree first second → Contains second path
    go (inl same) = subst (λ l. Contains l path) same listed
    go (inr (inl longer)) =
        subst (λ l. Contains l path) (sym longer.2) (Contains-append_left first
        (longer.0 ∷ longer.1) path listed)
    go (inr (inr longer)) = too_long longer

-- two walks up to one path meet the same devices
pub one_walk : (topology : Topology) (bound : List ℕ) (first second : List (List ℕ))
    → Walked topology first bound → Walked topology second bound → first ≡ second
one_walk topology bound first second one two = go (agree topology first second bound bound one two)
  where
    no_longer : (short long : List (List ℕ)) → Walked topology short bound
        → Walked topology long bound → ¬ Longer short long
    no_longer short long less more longer =
        let p = longer.0 in
        let in_long : Contains long p = subst (λ l. Contains l p) (sym longer.2)
        (Contains-middle short longer.1 p) in
        let ordered = subst (AllPairs Before) longer.2 more.ordered in
        Before-irreflexive p
        (front_is_before short longer.1 p p ordered
        (included topology long short bound bound more less (inl refl) p in_long))

    go : Agree first second → first ≡ second
    go (inl same) = same
    go (inr (inl longer)) = absurd (no_longer first second one two longer)
    go (inr (inr longer)) = absurd (no_longer second first two one longer)
