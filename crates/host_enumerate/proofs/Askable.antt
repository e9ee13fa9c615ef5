-- Which paths are open, and which devices they pass, while a fabric is numbered.
use Rattle.host_enumerate.proofs.Prelude.{◌≡◌, ◌≢◌, ℕ, ◌<◌, List, [], ◌∷◌, ◌++◌, length, Option, Some, None, unwrap_or, Contains, arith, ◌⊎◌, inl, inr, subst, sym, refl, ap, ◌∙◌, append-nil, length-append, option_and_then, same_Some, PortRef, port_at, next_port, Topology, IsTopology, device_ports, behind_port, along, ports_followed, entered, node_at, Before, onward, Walked, AllRegisters, IsOpened, IsNext, along-onward, followed-host, behind-link, first_link, onward_further, front_listed, passed_listed, node_at-entered, IsApart, PassesOnce}

not_further : (front : List ℕ) (port : ℕ) (rest : List ℕ) → ¬ (front ≡ front ++ port ∷ rest)
not_further front port rest same =
    let long = ap (λ (l : List ℕ). length l) same ∙ length-append front (port ∷ rest) in
    omega (arith, long)

-- a front of a path with one port more is the path, or a front of it
pub split-onward : (path front rest : List ℕ) (more port : ℕ)
    → onward path more ≡ front ++ port ∷ rest
    → ((path ≡ front) × (port ≡ more))
    ⊎ ((later : List ℕ) × (path ≡ front ++ port ∷ later))
split-onward path front rest more port same = go (onward_further path front (port ∷ rest) more same)
  where
    go : (onward path more ≡ front)
        ⊎ ((on : List ℕ) × (path ≡ front ++ on) × (port ∷ rest ≡ onward on more))
        → ((path ≡ front) × (port ≡ more))
        ⊎ ((later : List ℕ) × (path ≡ front ++ port ∷ later))
    go (inl whole) = absurd (not_further front port rest (sym whole ∙ same))
    go (inr ([], split, end)) = inl (split ∙ append-nil front, cc)
    go (inr (z ∷ on, split, end)) =
        let head : port ≡ z = cc in
        inr (on, split ∙ ap (λ n. front ++ n ∷ on) (sym head))

-- a path with fewer than two ports does not go on behind a first one
pub never_empty : (first : ℕ) (rest : List ℕ) → ¬ ([] ≡ first ∷ rest)
never_empty first rest same = absurd (cc)

pub never_single : (x first : ℕ) (front rest : List ℕ) (port : ℕ)
    → ¬ (x ∷ [] ≡ first ∷ front ++ port ∷ rest)
never_single x first [] rest port same = absurd (cc)
never_single x first (y ∷ front) rest port same = absurd (cc)

module _ (topology : Topology) (registers : AllRegisters) (host_id : ℕ) where
  -- the empty path passes no switch
  pub opened-empty : IsOpened topology registers host_id []
  opened-empty = record {
    onwards = λ first front rest port at is enters. absurd
        (never_empty first (front ++ port ∷ rest) is);
    home = λ first front rest port at is enters. absurd
        (never_empty first (front ++ port ∷ rest) is);
    not_host = λ first front rest port at is enters. absurd
        (never_empty first (front ++ port ∷ rest) is);
  }

  -- nor does a path of one port
  pub opened-first : (x : ℕ) → IsOpened topology registers host_id (x ∷ [])
  opened-first x = record {
    onwards = λ first front rest port at is enters. absurd
        (never_single x first front rest port is);
    home = λ first front rest port at is enters. absurd (never_single x first front rest port is);
    not_host = λ first front rest port at is enters. absurd
        (never_single x first front rest port is);
  }

  -- an open path goes on through a switch that sends by the next port and home
  pub opened-onward : (path : List ℕ) (at : PortRef) (more : ℕ)
      → IsOpened topology registers host_id path → entered topology path ≡ Some at
      → next_port (registers at.node) 255 ≡ Some more
      → next_port (registers at.node) host_id ≡ Some at.port → at.node ≢ topology.host
      → IsOpened topology registers host_id (onward path more)
  opened-onward path at more opened enters onwards home other = record {
    onwards = λ first front rest port end is ends.
        let cases = split-onward path (first ∷ front) rest more port is in
        on_by first front port end ends cases;
    home = λ first front rest port end is ends.
        home_by first front port end ends
        (split-onward path (first ∷ front) rest more port is);
    not_host = λ first front rest port end is ends.
        other_by first front port end ends
        (split-onward path (first ∷ front) rest more port is);
  }
    where
      same_end : (front : List ℕ) (end : PortRef) → path ≡ front
          → entered topology front ≡ Some end → at ≡ end
      same_end front end is ends =
          same_Some at end (sym enters ∙ (ap (λ l. entered topology l) is ∙ ends))

      on_by : (first : ℕ) (front : List ℕ) (port : ℕ) (end : PortRef)
          → entered topology (first ∷ front) ≡ Some end
          → ((path ≡ first ∷ front) × (port ≡ more))
          ⊎ ((later : List ℕ) × (path ≡ (first ∷ front) ++ port ∷ later))
          → next_port (registers end.node) 255 ≡ Some port
      on_by first front port end ends (inl last) =
          ap (λ (p : PortRef). next_port (registers p.node) 255)
          (sym (same_end (first ∷ front) end last.0 ends))
          ∙ (onwards ∙ ap (λ n. Some n) (sym last.1))
      on_by first front port end ends (inr inner) =
          opened.onwards first front inner.0 port end inner.1 ends

      home_by : (first : ℕ) (front : List ℕ) (port : ℕ) (end : PortRef)
          → entered topology (first ∷ front) ≡ Some end
          → ((path ≡ first ∷ front) × (port ≡ more))
          ⊎ ((later : List ℕ) × (path ≡ (first ∷ front) ++ port ∷ later))
          → next_port (registers end.node) host_id ≡ Some end.port
      home_by first front port end ends (inl last) =
          subst (λ (p : PortRef). next_port (registers p.node) host_id ≡ Some p.port)
          (same_end (first ∷ front) end last.0 ends) home
      home_by first front port end ends (inr inner) =
          opened.home first front inner.0 port end inner.1 ends

      other_by : (first : ℕ) (front : List ℕ) (port : ℕ) (end : PortRef)
          → entered topology (first ∷ front) ≡ Some end
          → ((path ≡ first ∷ front) × (port ≡ more))
          ⊎ ((later : List ℕ) × (path ≡ (first ∷ front) ++ port ∷ later))
          → end.node ≢ topology.host
      other_by first front port end ends (inl last) =
          subst (λ (p : PortRef). p.node ≢ topology.host)
          (same_end (first ∷ front) end last.0 ends) other
      other_by first front port end ends (inr inner) =
          opened.not_host first front inner.0 port end inner.1 ends

module _ (topology : Topology) (paths : List (List ℕ)) (bound : List ℕ)
    (walked : Walked topology paths bound) where
  -- no switch on the way to a listed path is its device
  pub apart-listed : (path : List ℕ) (at : PortRef) → Contains paths path
      → entered topology path ≡ Some at → IsApart topology path at.node
  apart-listed path at listed enters first front rest port end is ends same =
      let shorter = front_listed topology paths bound (first ∷ front) (length (port ∷ rest))
      (port ∷ rest) refl walked (subst (Contains paths) is listed) in
      let equal = walked.once path (first ∷ front) listed shorter
      (node_at-entered topology path at enters
      ∙ (ap (λ n. Some n) (sym same) ∙ sym (node_at-entered topology (first ∷ front) end ends))) in
      not_further (first ∷ front) port rest (sym equal ∙ is)

  -- nor on the way to a path to be tried, if the device is not one of those that were met
  pub apart-next : (path : List ℕ) (node : ℕ) → IsNext paths path
      → ((met : List ℕ) → Contains paths met → node_at topology met ≢ Some node)
      → IsApart topology path node
  apart-next path node is_next fresh first front rest port end is ends same =
      fresh (first ∷ front)
      (passed_listed topology paths bound path (first ∷ front) rest port walked is_next is)
      (node_at-entered topology (first ∷ front) end ends ∙ ap (λ n. Some n) same)

  -- a path to be tried passes no switch twice
  pub passes-once : (path : List ℕ) → IsNext paths path → PassesOnce topology path
  passes-once path is_next first front rest port at is enters =
      apart-listed (first ∷ front) at
      (passed_listed topology paths bound path (first ∷ front) rest port walked is_next is) enters

  -- the device of a listed path is the host only if the path is empty
  pub not_host-listed : (path : List ℕ) (at : PortRef) → Before [] bound → Contains paths path
      → entered topology path ≡ Some at → at.node ≡ topology.host → path ≡ []
  not_host-listed path at some listed enters is =
      walked.once path [] listed (walked.host_met some)
      (node_at-entered topology path at enters ∙ ap (λ n. Some n) is)

  -- a path to be tried leads back to the host only by the port of entry of its neighbour
  pub not_host-next : (path : List ℕ) (at end : PortRef) (port : ℕ) → IsTopology topology
      → Before [] bound → Contains paths path → entered topology path ≡ Some at
      → (path ≢ [] → port ≢ at.port) → entered topology (onward path port) ≡ Some end
      → end.node ≢ topology.host
  not_host-next path at end port proper some listed enters apart ends is = go path refl
    where
      link : topology.peer (port_at at.node port) ≡ Some end
      link =
          (behind-link topology at.node port end
          (sym (along-onward topology (port_at topology.host 0) path port
          ∙ ap (λ o. option_and_then (λ (p : PortRef). behind_port topology p.node port) o) enters)
          ∙ ends)).0

      host_end : end ≡ port_at topology.host 0
      host_end =
          let is_port = proper.ports end (port_at at.node port)
          (proper.both_ways (port_at at.node port) end link) in
          let one = subst (λ n. end.port < device_ports topology n) is is_port.port in
          let none = subst (λ o. end.port < unwrap_or o 1) proper.host_is_endpoint one in
          let zero_is : end.port ≡ 0 = omega (arith, none) in
          λ i. record { node = is i; port = zero_is i }

      back : topology.peer (port_at topology.host 0) ≡ Some (port_at at.node port)
      back = ap (λ p. topology.peer p) (sym host_end)
          ∙ proper.both_ways (port_at at.node port) end link

      go : (p : List ℕ) → path ≡ p → ⊥
      go [] empty =
          let at_host = same_Some (port_at topology.host 0) at
          (ap (λ l. entered topology l) (sym empty) ∙ enters) in
          let node_same : at.node ≡ topology.host = ap (λ (p : PortRef). p.node) (sym at_host) in
          let followed_one = (behind-link topology at.node port end
          (sym (along-onward topology (port_at topology.host 0) path port
          ∙ ap (λ o. option_and_then (λ (p : PortRef). behind_port topology p.node port) o) enters)
          ∙ ends)).1 in
          let less = subst (λ n. port < n) (ap (λ n. ports_followed topology n) node_same
          ∙ followed-host topology) followed_one in
          let zero_is : port ≡ 0 = omega (arith, less) in
          let self : port_at at.node port ≡ port_at topology.host 0 =
          λ i. record { node = node_same i; port = zero_is i } in
          proper.two_ports (port_at topology.host 0) (back ∙ ap (λ (p : PortRef). Some p) self)
      go (x ∷ p) is_path = first_of (behind_port topology topology.host x) refl
          (ap (λ l. entered topology l) (sym is_path) ∙ enters)
        where
          some_path : path ≢ []
          some_path empty = let none : [] ≡ x ∷ p = sym empty ∙ is_path in absurd (cc)

          first_of : (o : Option PortRef) → behind_port topology topology.host x ≡ o
              → option_and_then (λ next. along topology next p) o ≡ Some at → ⊥
          first_of None is_next on = absurd (cc)
          first_of (Some next) is_next on =
              let next_is : next ≡ port_at at.node port =
              same_Some next (port_at at.node port)
              (sym (first_link topology x next is_next) ∙ back) in
              let enters_first : entered topology (x ∷ []) ≡ Some next =
              ap (λ o. option_and_then (λ (q : PortRef). Some q) o) is_next in
              let listed_first = front_listed topology paths bound (x ∷ []) (length p) p refl
              walked (subst (Contains paths) is_path listed) in
              let equal = walked.once path (x ∷ []) listed listed_first
              (node_at-entered topology path at enters
              ∙ (ap (λ (q : PortRef). Some q.node) (sym next_is)
              ∙ sym (node_at-entered topology (x ∷ []) next enters_first))) in
              let at_next : at ≡ next =
              same_Some at next (sym enters ∙ (ap (λ l. entered topology l) equal
              ∙ enters_first)) in
              apart some_path (ap (λ (q : PortRef). q.port) (sym (at_next ∙ next_is)))

-- the neighbour of the host is another device
pub not_host-first : (topology : Topology) (at : PortRef) → IsTopology topology
    → entered topology (0 ∷ []) ≡ Some at → at.node ≢ topology.host
not_host-first topology at proper enters is = go (behind_port topology topology.host 0) refl enters
  where
    go : (o : Option PortRef) → behind_port topology topology.host 0 ≡ o
        → option_and_then (λ (next : PortRef). Some next) o ≡ Some at → ⊥
    go None is_next same = absurd (cc)
    go (Some next) is_next same =
        let link : topology.peer (port_at topology.host 0) ≡ Some at =
        first_link topology 0 next is_next ∙ same in
        let is_port = proper.ports at (port_at topology.host 0)
        (proper.both_ways (port_at topology.host 0) at link) in
        let one = subst (λ n. at.port < device_ports topology n) is is_port.port in
        let none = subst (λ o. at.port < unwrap_or o 1) proper.host_is_endpoint one in
        let zero_is : at.port ≡ 0 = omega (arith, none) in
        let self : at ≡ port_at topology.host 0 =
        λ i. record { node = is i; port = zero_is i } in
        proper.two_ports (port_at topology.host 0) (link ∙ ap (λ (p : PortRef). Some p) self)
