-- Where paths lead: whatever is reached is met by a whole walk.
use Rattle.fabric_map.proofs.Prelude.{◌≡◌, ℕ, ◌<◌, ◌≤◌, nat_lt, Bool, true, false, List, [], ◌∷◌, ◌++◌, Option, Some, None, IsSome, option_map, Contains, inl, subst, sym, refl, ap, ◌∙◌, if◌then◌else◌, ltb-true, eq-eqb, option_and_then, All-contains, PortRef, port_at, Topology, ports_followed, behind_port, along, entered, node_at, IsReached, Before, IsNotAfter, onward, Walked, after_all_paths}
use Rattle.fabric_map.proofs.Order.{further_from_between}

-- the device of a port
abbrev node_of : Option PortRef → Option ℕ
node_of o = option_map (λ (p : PortRef). p.node) o

pub followed-host : (topology : Topology) → ports_followed topology topology.host ≡ 1
followed-host topology = rw (eq-eqb topology.host topology.host refl) refl

-- every path that leads to a device stands before the path after all
pub leads_before_all : (topology : Topology) (path : List ℕ) → IsSome (node_at topology path)
    → Before path after_all_paths
leads_before_all topology [] leads = tt
leads_before_all topology (x ∷ path) leads = go (nat_lt x
    (ports_followed topology topology.host)) refl leads
  where
    go : (is_followed : Bool) → nat_lt x (ports_followed topology topology.host) ≡ is_followed
        → IsSome (option_map (λ (p : PortRef). p.node) (option_and_then
        (λ next. along topology next path) (if is_followed then topology.peer
        (port_at topology.host x) else None))) → Before (x ∷ path) after_all_paths
    go true is leads = inl (subst (λ n. x < n) (followed-host topology) (ltb-true x
        (ports_followed topology topology.host) is))
    go false is leads = absurd (cc)

and_then-Some : {A : Type 0} (o : Option A) → option_and_then (λ x. Some x) o ≡ o
and_then-Some None = refl
and_then-Some (Some x) = refl

-- one port more
pub along-onward : (topology : Topology) (at : PortRef) (path : List ℕ) (port : ℕ)
    → along topology at (onward path port) ≡ option_and_then (λ
    (p : PortRef). behind_port topology p.node port) (along topology at path)
along-onward topology at [] port = and_then-Some (behind_port topology at.node port)
along-onward topology at (x ∷ path) port =
    go (behind_port topology at.node x) (λ next. along-onward topology next path port)
  where
    go : (o : Option PortRef) → ((next : PortRef)
        → along topology next (onward path port) ≡ option_and_then (λ
        (p : PortRef). behind_port topology p.node port) (along topology next path))
        → option_and_then (λ next. along topology next (onward path port)) o ≡ option_and_then (λ
        (p : PortRef). behind_port topology p.node port) (option_and_then
        (λ next. along topology next path) o)
    go None more = refl
    go (Some next) more = more next

-- a path that goes on behind another leads on from its device
pub along-append : (topology : Topology) (at : PortRef) (path rest : List ℕ) (last : PortRef)
    → along topology at path ≡ Some last
    → along topology at (path ++ rest) ≡ along topology last rest
along-append topology at [] rest last leads = ap (λ (p : PortRef). along topology p rest) (cc)
along-append topology at (x ∷ path) rest last leads =
    go (behind_port topology at.node x) leads
    (λ next leads_on. along-append topology next path rest last leads_on)
  where
    go : (o : Option PortRef) → option_and_then (λ next. along topology next path) o ≡ Some last
        → ((next : PortRef) → along topology next path ≡ Some last
        → along topology next (path ++ rest) ≡ along topology last rest)
        → option_and_then (λ next. along topology next (path ++ rest)) o ≡ along topology last rest
    go None leads on = absurd (cc)
    go (Some next) leads on = on next leads

-- where a path leads on depends on the device alone
pub along-same_device : (topology : Topology) (p q : PortRef) (path : List ℕ) → p.node ≡ q.node
    → option_map (λ (p : PortRef). p.node) (along topology p path) ≡ option_map (λ
    (p : PortRef). p.node) (along topology q path)
along-same_device topology p q [] same = ap (λ n. Some n) same
along-same_device topology p q (x ∷ path) same =
    ap (λ n. option_map (λ (p : PortRef). p.node) (option_and_then
    (λ next. along topology next path) (behind_port topology n x))) same

-- a port by which a path goes on is one that is followed
pub onward_is_followed : (topology : Topology) (path : List ℕ) (at : PortRef) (port : ℕ)
    → entered topology path ≡ Some at → IsSome (node_at topology (onward path port))
    → port < ports_followed topology at.node
onward_is_followed topology path at port enters leads =
    go (nat_lt port (ports_followed topology at.node)) refl
    (subst (λ o. IsSome (node_of o))
    (along-onward topology (port_at topology.host 0) path port
    ∙ ap (λ o. option_and_then (λ (p : PortRef). behind_port topology p.node port) o) enters)
    leads)
  where
    go : (is_followed : Bool) → nat_lt port (ports_followed topology at.node) ≡ is_followed
        → IsSome (node_of (if is_followed then topology.peer (port_at at.node port) else None))
        → port < ports_followed topology at.node
    go true is leads = ltb-true port (ports_followed topology at.node) is
    go false is leads = absurd (cc)

-- what is met has a port of entry
pub port_of_entry : (o : Option PortRef) (node : ℕ)
    → option_map (λ (p : PortRef). p.node) o ≡ Some node
    → (at : PortRef) × (o ≡ Some at) × (at.node ≡ node)
port_of_entry None node same = absurd (cc)
port_of_entry (Some at) node same = (at, refl, cc)

Listed : Topology → List (List ℕ) → ℕ → Type 0
Listed topology paths node = (path : List ℕ) × Contains paths path ×
    (node_at topology path ≡ Some node)

pub some_from_same : {A : Type 0} (o : Option A) (x : A) → o ≡ Some x → IsSome o
some_from_same None x same = absurd (cc)
some_from_same (Some y) x same = refl

-- from a device that is met, whatever a path leads to is met
met_along : (topology : Topology) (paths : List (List ℕ))
    (walked : Walked topology paths after_all_paths) (path : List ℕ) (front : List ℕ)
    (at : PortRef) (node : ℕ) → Contains paths front → entered topology front ≡ Some at
    → option_map (λ (p : PortRef). p.node) (along topology at path) ≡ Some node
    → (found : List ℕ) × Contains paths found × (node_at topology found ≡ Some node)
met_along topology paths walked [] front at node listed enters same = (
  front,
  listed,
  ap
      (λ o. option_map (λ (p : PortRef). p.node) o) enters ∙ same,
)
met_along topology paths walked (x ∷ path) front at node listed enters same =
    go (behind_port topology at.node x) refl same
    (λ met next enters_met leads. met_along topology paths walked path met next node enters_met
    leads)
  where
    go : (o : Option PortRef) → behind_port topology at.node x ≡ o
        → option_map (λ (p : PortRef). p.node) (option_and_then
        (λ next. along topology next path) o) ≡ Some node
        → ((met : List ℕ) (next : PortRef) → Contains paths met
        → entered topology met ≡ Some next
        → option_map (λ (p : PortRef). p.node) (along topology next path) ≡ Some node
        → (found : List ℕ) × Contains paths found × (node_at topology found ≡ Some node))
        → (found : List ℕ) × Contains paths found × (node_at topology found ≡ Some node)
    go None is leads on = absurd (cc)
    go (Some next) is leads on =
        let enters_next : entered topology (onward front x) ≡ Some next =
        along-onward topology (port_at topology.host 0) front x
        ∙ (ap (λ o. option_and_then (λ (p : PortRef). behind_port topology p.node x) o) enters
        ∙ is) in
        let node_next : node_at topology (onward front x) ≡ Some next.node =
        ap (λ o. option_map (λ (p : PortRef). p.node) o) enters_next in
        let leads_on = some_from_same (node_at topology (onward front x)) next.node node_next in
        let met = walked.done front x listed leads_on (leads_before_all topology
        (onward front x) leads_on) in
        let entry = port_of_entry (entered topology met.met_on) next.node
        (met.same_device ∙ node_next) in
        on met.met_on entry.0 met.listed entry.1
        (along-same_device topology entry.0 next path entry.2 ∙ leads)

pub each_is_reached : (topology : Topology) (paths : List (List ℕ)) (node : ℕ)
    → Walked topology paths after_all_paths → IsReached topology node
    → (path : List ℕ) × Contains paths path × (node_at topology path ≡ Some node)
each_is_reached topology paths node walked reached =
    met_along topology paths walked reached.0 [] (port_at topology.host 0) node
    (walked.host_met tt) refl reached.1

pub later_is_below : (topology : Topology) (paths : List (List ℕ)) (first later : List ℕ)
    (port : ℕ) → Walked topology paths after_all_paths → Contains paths first
    → Contains paths later → node_at topology (onward first port) ≡ node_at topology later
    → Before first later → (by : ℕ) × (rest : List ℕ) × (by ≤ port) × (later ≡ first ++ by ∷ rest)
later_is_below topology paths first later port walked one two same before =
    let leads : IsSome (node_at topology (onward first port)) =
    subst (λ o. IsSome o) (sym same)
    (All-contains (λ p. IsSome (node_at topology p)) paths later walked.leading two) in
    let met = walked.done first port one leads (leads_before_all topology
    (onward first port) leads) in
    let is_later = walked.once met.met_on later met.listed two (met.same_device ∙ same) in
    further_from_between first later port before
    (subst (λ p. IsNotAfter p (onward first port)) is_later met.not_after)
