-- How a walk goes on.
use Rattle.fabric_map.proofs.Prelude.{◌≡◌, ◌≢◌, ℕ, ◌+◌, ◌<◌, List, [], ◌∷◌, ◌++◌, IsSome, Contains, arith, ◌⊎◌, inl, inr, subst, sym, ap, ◌∙◌, append_assoc, append-nil, All-contains, All-push, All-weaker, Contains-push, Contains-push_cases, Contains-append_left, Topology, node_at, Before, IsNotAfter, onward, IsMet, Walked, IsNext}
use Rattle.std.proofs.lemmas.List.Quantifiers.{all_pairs_push}
use Rattle.fabric_map.proofs.Order.{Before-transitive, Before-further, onward-rises, further-not_less, below_next, below_first, behind_front, with_front, front_of, front_of-onward, last_of, last_of-onward, onward-not_empty}
use Rattle.fabric_map.proofs.Lists.{not_in_empty}
use Rattle.fabric_map.proofs.Walks.{last_port}

-- the same devices are met before a later path, if all between is met
later_bound : (topology : Topology) (paths : List (List ℕ)) (bound later : List ℕ)
    → Walked topology paths bound → Before [] bound → Before bound later
    → ((path : List ℕ) (port : ℕ) → Contains paths path
    → IsSome (node_at topology (onward path port)) → Before (onward path port) later
    → Before (onward path port) bound ⊎ IsMet topology paths (onward path port))
    → Walked topology paths later
later_bound topology paths bound later walked some on between = record {
  host_met = λ before. walked.host_met some;
  leading = walked.leading;
  fronts = walked.fronts;
  once = walked.once;
  ordered = walked.ordered;
  before = All-weaker (λ p. Before p bound) (λ p. Before p later)
      (λ p before. Before-transitive p bound later before on) paths walked.before;
  done = λ path port listed leads before.
      old path port listed leads (between path port listed leads before);
}
  where
    old : (path : List ℕ) (port : ℕ) → Contains paths path
        → IsSome (node_at topology (onward path port))
        → Before (onward path port) bound ⊎ IsMet topology paths (onward path port)
        → IsMet topology paths (onward path port)
    old path port listed leads (inl before) = walked.done path port listed leads before
    old path port listed leads (inr met) = met

pub empty-before : (path : List ℕ) (port : ℕ) → Before [] (onward path port)
empty-before [] port = tt
empty-before (x ∷ path) port = tt

-- a path with one port more, that is a path that goes on: the last port is the same, or its front
-- goes on
pub onward_further : (path base rest : List ℕ) (port : ℕ) → onward path port ≡ base ++ rest
    → (onward path port ≡ base) ⊎ ((on : List ℕ) × (path ≡ base ++ on) × (rest ≡ onward on port))
onward_further path base rest port same = go (last_port rest)
  where
    go : (rest ≡ []) ⊎ ((front : List ℕ) × (last : ℕ) × (rest ≡ onward front last))
        → (onward path port ≡ base) ⊎ ((on : List ℕ) × (path ≡ base ++ on) ×
        (rest ≡ onward on port))
    go (inl empty) = inl (same ∙ (ap (λ l. base ++ l) empty ∙ append-nil base))
    go (inr last) =
        let whole : onward path port ≡ onward (base ++ last.0) last.1 =
        same ∙ (ap (λ l. base ++ l) last.2 ∙ sym (append_assoc base last.0 (last.1 ∷ []))) in
        let front : path ≡ base ++ last.0 =
        sym (front_of-onward path port)
        ∙ (ap (λ l. front_of l) whole ∙ front_of-onward (base ++ last.0) last.1) in
        let port_same : last.1 ≡ port =
        sym (last_of-onward (base ++ last.0) last.1)
        ∙ (ap (λ l. last_of l) (sym whole) ∙ last_of-onward path port) in
        inr (last.0, front, last.2 ∙ ap (λ n. onward last.0 n) port_same)

pub goes_past : (topology : Topology) (paths : List (List ℕ)) (path : List ℕ) (port : ℕ)
    → Walked topology paths (onward path port) → Contains paths path
    → (IsSome (node_at topology (onward path port)) → IsMet topology paths (onward path port))
    → Walked topology paths (onward path (port + 1))
goes_past topology paths path port walked listed met =
    later_bound topology paths (onward path port) (onward path (port + 1)) walked
    (empty-before path port) (onward-rises path port)
    (λ d y in_list leads before.
    go d y in_list leads (below_next (onward d y) path port before))
  where
    further : (d rest : List ℕ) (y : ℕ) → Contains paths d → IsSome (node_at topology (onward d y))
        → (onward d y ≡ onward path port)
        ⊎ ((on : List ℕ) × (d ≡ onward path port ++ on) × (rest ≡ onward on y))
        → IsMet topology paths (onward d y)
    further d rest y in_list leads (inl same) =
        subst (IsMet topology paths) (sym same)
        (met (subst (λ l. IsSome (node_at topology l)) same leads))
    further d rest y in_list leads (inr on) =
        absurd (further-not_less (onward path port) on.0
        (subst (λ l. Before l (onward path port)) on.1
        (All-contains (λ l. Before l (onward path port)) paths d walked.before in_list)))

    go : (d : List ℕ) (y : ℕ) → Contains paths d → IsSome (node_at topology (onward d y))
        → Before (onward d y) (onward path port)
        ⊎ ((rest : List ℕ) × (onward d y ≡ onward path port ++ rest))
        → Before (onward d y) (onward path port) ⊎ IsMet topology paths (onward d y)
    go d y in_list leads (inl before) = inl before
    go d y in_list leads (inr on) =
        inr (further d on.0 y in_list leads (onward_further d (onward path port) on.0 y on.1))

pub closes : (topology : Topology) (paths : List (List ℕ)) (path : List ℕ) (port ports : ℕ)
    → Walked topology paths (onward (onward path port) ports)
    → ((on : ℕ) → IsSome (node_at topology (onward (onward path port) on)) → on < ports)
    → Walked topology paths (onward path (port + 1))
closes topology paths path port ports walked all_tried =
    later_bound topology paths (onward (onward path port) ports) (onward path (port + 1)) walked
    (empty-before (onward path port) ports) leaves
    (λ d y in_list leads before.
    inl (go d y in_list leads (below_next (onward d y) path port before)))
  where
    leaves : Before (onward (onward path port) ports) (onward path (port + 1))
    leaves =
        subst (λ l. Before l (onward path (port + 1))) (sym (append_assoc path (port ∷ [])
        (ports ∷ [])))
        (with_front path (port ∷ ports ∷ []) ((port + 1) ∷ []) (inl (omega arith)))

    below : (d on : List ℕ) (y : ℕ) → Contains paths d → IsSome (node_at topology (onward d y))
        → d ≡ onward path port ++ on → Before (onward on y) (ports ∷ [])
    below d [] y in_list leads same =
        inl (all_tried y (subst (λ l. IsSome (node_at topology (onward l y)))
        (same ∙ append-nil (onward path port)) leads))
    below d (z ∷ on) y in_list leads same =
        first (behind_front (onward path port) (z ∷ on) (ports ∷ [])
        (subst (λ l. Before l (onward (onward path port) ports)) same
        (All-contains (λ l. Before l (onward
        (onward path port) ports)) paths d walked.before in_list)))
      where
        first : Before (z ∷ on) (ports ∷ []) → Before (z ∷ onward on y) (ports ∷ [])
        first (inl less) = inl less
        first (inr equal) = absurd (none on equal.1)
          where
            none : (l : List ℕ) → ¬ Before l []
            none [] before = before
            none (x ∷ l) before = before

    further : (d rest : List ℕ) (y : ℕ) → Contains paths d → IsSome (node_at topology (onward d y))
        → (onward d y ≡ onward path port)
        ⊎ ((on : List ℕ) × (d ≡ onward path port ++ on) × (rest ≡ onward on y))
        → Before (onward d y) (onward (onward path port) ports)
    further d rest y in_list leads (inl same) =
        subst (λ l. Before l (onward (onward path port) ports)) (sym same)
        (Before-further (onward path port) ports [])
    further d rest y in_list leads (inr on) =
        subst (λ l. Before l (onward (onward path port) ports))
        (sym (ap (λ l. onward l y) on.1 ∙ append_assoc (onward path port) on.0 (y ∷ [])))
        (with_front (onward path port) (onward on.0 y) (ports ∷ [])
        (below d on.0 y in_list leads on.1))

    go : (d : List ℕ) (y : ℕ) → Contains paths d → IsSome (node_at topology (onward d y))
        → Before (onward d y) (onward path port)
        ⊎ ((rest : List ℕ) × (onward d y ≡ onward path port ++ rest))
        → Before (onward d y) (onward (onward path port) ports)
    go d y in_list leads (inl before) =
        Before-transitive (onward d y) (onward path port) (onward (onward path port) ports) before
        (Before-further (onward path port) ports [])
    go d y in_list leads (inr on) =
        further d on.0 y in_list leads (onward_further d (onward path port) on.0 y on.1)

pub takes_in : (topology : Topology) (paths : List (List ℕ)) (path : List ℕ)
    → Walked topology paths path → IsNext paths path → IsSome (node_at topology path)
    → ((other : List ℕ) → Contains paths other → node_at topology other ≢ node_at topology path)
    → Walked topology (paths ++ path ∷ []) (onward path 0)
takes_in topology paths path walked next leads fresh = record {
  host_met = λ before. host next;
  leading = All-push (λ l. IsSome (node_at topology l)) paths path walked.leading leads;
  fronts = λ l port listed. front l port (Contains-push_cases paths path (onward l port) listed);
  once = λ p q one two same.
      only p q (Contains-push_cases paths path p one) (Contains-push_cases paths path q two) same;
  ordered = all_pairs_push Before paths path walked.ordered walked.before;
  before = All-push (λ l. Before l (onward path 0)) paths path
      (All-weaker (λ l. Before l path) (λ l. Before l (onward path 0))
      (λ l before. Before-transitive l path (onward path 0) before (Before-further path 0 []))
      paths walked.before) (Before-further path 0 []);
  done = λ l port listed leads_on before.
      met l port (Contains-push_cases paths path l listed) leads_on before
      (below_first (onward l port) path before);
}
  where
    kept : (l : List ℕ) → Contains paths l → Contains (paths ++ path ∷ []) l
    kept l listed = Contains-append_left paths (path ∷ []) l listed

    host : IsNext paths path → Contains (paths ++ path ∷ []) []
    host (inl empty) = subst (Contains (paths ++ path ∷ [])) empty (Contains-push paths path)
    host (inr last) =
        kept [] (walked.host_met (subst (Before []) (sym last.3) (empty-before last.0 last.1)))

    front : (l : List ℕ) (port : ℕ) → Contains paths (onward l port) ⊎ (path ≡ onward l port)
        → Contains (paths ++ path ∷ []) l
    front l port (inl listed) = kept l (walked.fronts l port listed)
    front l port (inr same) = of_next next
      where
        of_next : IsNext paths path → Contains (paths ++ path ∷ []) l
        of_next (inl empty) = absurd (onward-not_empty l port (sym empty ∙ same))
        of_next (inr last) =
            kept l (subst (Contains paths)
            (sym (front_of-onward last.0 last.1)
            ∙ (ap (λ p. front_of p) (sym last.3 ∙ same) ∙ front_of-onward l port)) last.2)

    only : (p q : List ℕ) → Contains paths p ⊎ (path ≡ p) → Contains paths q ⊎ (path ≡ q)
        → node_at topology p ≡ node_at topology q → p ≡ q
    only p q (inl one) (inl two) same = walked.once p q one two same
    only p q (inl one) (inr two) same =
        absurd (fresh p one (same ∙ ap (λ l. node_at topology l) (sym two)))
    only p q (inr one) (inl two) same =
        absurd (fresh q two (sym same ∙ ap (λ l. node_at topology l) (sym one)))
    only p q (inr one) (inr two) same = sym one ∙ two

    lifted : (l : List ℕ) → IsMet topology paths l → IsMet topology (paths ++ path ∷ []) l
    lifted l met = record {
      met_on = met.met_on;
      listed = kept met.met_on met.listed;
      same_device = met.same_device;
      not_after = met.not_after;
    }

    met : (l : List ℕ) (port : ℕ) → Contains paths l ⊎ (path ≡ l)
        → IsSome (node_at topology (onward l port)) → Before (onward l port) (onward path 0)
        → IsNotAfter (onward l port) path → IsMet topology (paths ++ path ∷ []) (onward l port)
    met l port listed leads_on before (inl same) = record {
      met_on = path;
      listed = Contains-push paths path;
      same_device = ap (λ p. node_at topology p) (sym same);
      not_after = inl (sym same);
    }
    met l port (inl listed) leads_on before (inr earlier) =
        lifted (onward l port) (walked.done l port listed leads_on earlier)
    met l port (inr same) leads_on before (inr earlier) =
        absurd (further-not_less path (port ∷ [])
        (subst (λ p. Before (onward p port) path) (sym same) earlier))

pub begins : (topology : Topology) → Walked topology [] []
begins topology = record {
  host_met = λ before. absurd before;
  leading = λ k d within. absurd (omega (arith, within));
  fronts = λ path port listed. absurd (not_in_empty (onward path port) listed);
  once = λ p q one two same. absurd (not_in_empty p one);
  ordered = λ i j d less within. absurd (omega (arith, within));
  before = λ k d within. absurd (omega (arith, within));
  done = λ path port listed leads before. absurd (not_in_empty path listed);
}
