-- A request goes down its path, and its answer comes home.
use Rattle.fabric_map.proofs.Prelude.{◌≡◌, ◌≢◌, ℕ, zero, suc, ◌+◌, ◌<◌, ◌≤◌, ◌==◌, nat_lt, Bool, true, false, List, [], ◌∷◌, ◌++◌, length, Option, Some, None, unwrap_or, arith, subst, sym, refl, ap, ◌∙◌, if◌then◌else◌, ltb-true, eqb-true, append_assoc, option_and_then, PortRef, port_at, next_port, Topology, IsTopology, ports_followed, behind_port, along, entered, AllRegisters, passed, walk}
use Rattle.fabric_map.specs.Ways.{IsOpened}
use Rattle.fabric_map.proofs.Leading.{followed-host, along-append}

-- where a packet ends that came to a port
abbrev arrive : Topology → AllRegisters → ℕ → ℕ → PortRef → Option PortRef
arrive topology registers dest zero at = Some at
arrive topology registers dest (suc hops) at =
    passed topology registers dest (λ next. walk topology registers dest hops next) at

and_then_self : (o : Option PortRef) → o ≡ option_and_then (λ (p : PortRef). Some p) o
and_then_self None = refl
and_then_self (Some p) = refl

walk-arrive : (topology : Topology) (registers : AllRegisters) (dest hops : ℕ) (at : PortRef)
    → walk topology registers dest hops at
    ≡ option_and_then (λ next. arrive topology registers dest hops next) (topology.peer at)
walk-arrive topology registers dest zero at = and_then_self (topology.peer at)
walk-arrive topology registers dest (suc hops) at = refl

-- over a link
walk-linked : (topology : Topology) (registers : AllRegisters) (dest hops : ℕ) (at next : PortRef)
    → topology.peer at ≡ Some next
    → walk topology registers dest hops at ≡ arrive topology registers dest hops next
walk-linked topology registers dest hops at next link =
    walk-arrive topology registers dest hops at
    ∙ ap (λ o. option_and_then (λ next. arrive topology registers dest hops next) o) link

-- through a switch
abbrev through : Topology → AllRegisters → ℕ → ℕ → PortRef → Option ℕ → Option ℕ → Option PortRef
through topology registers dest hops at None by = Some at
through topology registers dest hops at (Some ports) by =
    option_and_then (λ port. walk topology registers dest hops (port_at at.node port)) by

arrive-through : (topology : Topology) (registers : AllRegisters) (dest hops : ℕ) (at : PortRef)
    (kind : Option ℕ)
    → topology.switch_ports at.node ≡ kind
    → arrive topology registers dest (suc hops) at
    ≡ through topology registers dest hops at kind (next_port (registers at.node) dest)
arrive-through topology registers dest hops at None is = rw is refl
arrive-through topology registers dest hops at (Some ports) is = rw is refl

-- a switch is passed by the port that its table names
arrive-passed : (topology : Topology) (registers : AllRegisters) (dest hops ports port : ℕ)
    (at : PortRef)
    → topology.switch_ports at.node ≡ Some ports → next_port (registers at.node) dest ≡ Some port
    → arrive topology registers dest (suc hops) at
    ≡ walk topology registers dest hops (port_at at.node port)
arrive-passed topology registers dest hops ports port at is by =
    arrive-through topology registers dest hops at (Some ports) is
    ∙ ap (λ o. option_and_then (λ port. walk topology registers dest hops
    (port_at at.node port)) o) by

-- an endpoint is the end
arrive-endpoint : (topology : Topology) (registers : AllRegisters) (dest hops : ℕ) (at : PortRef)
    → topology.switch_ports at.node ≡ None → arrive topology registers dest hops at ≡ Some at
arrive-endpoint topology registers dest zero at is = refl
arrive-endpoint topology registers dest (suc hops) at is =
    arrive-through topology registers dest hops at None is

-- a port that is followed has a link
pub behind-link : (topology : Topology) (node port : ℕ) (next : PortRef)
    → behind_port topology node port ≡ Some next
    → (topology.peer (port_at node port) ≡ Some next) × (port < ports_followed topology node)
behind-link topology node port next same = go (nat_lt port (ports_followed topology node)) refl same
  where
    go : (is : Bool) → nat_lt port (ports_followed topology node) ≡ is
        → (if is then topology.peer (port_at node port) else None) ≡ Some next
        → (topology.peer (port_at node port) ≡ Some next) × (port < ports_followed topology node)
    go true less found = (found, ltb-true port (ports_followed topology node) less)
    go false less found = absurd (cc)

-- what follows a port, other than the host, is a switch
pub followed-switch : (topology : Topology) (node port : ℕ) → node ≢ topology.host
    → port < ports_followed topology node
    → (ports : ℕ) × (topology.switch_ports node ≡ Some ports)
followed-switch topology node port other less = go (node == topology.host) refl
    (topology.switch_ports node) refl less
  where
    go : (is : Bool) → (node == topology.host) ≡ is → (kind : Option ℕ)
        → topology.switch_ports node ≡ kind
        → port < (if is then 1 else unwrap_or kind 0)
        → (ports : ℕ) × (topology.switch_ports node ≡ Some ports)
    go true is kind same less = absurd (other (eqb-true node topology.host is))
    go false is None same less = absurd (omega (arith, less))
    go false is (Some ports) same less = (ports, same)

-- the first port of a path is the host's
pub first_link : (topology : Topology) (first : ℕ) (at : PortRef)
    → behind_port topology topology.host first ≡ Some at
    → topology.peer (port_at topology.host 0) ≡ Some at
first_link topology first at same =
    let parts = behind-link topology topology.host first at same in
    let less = subst (λ n. first < n) (followed-host topology) parts.1 in
    let zero_is : first ≡ 0 = omega (arith, less) in
    subst (λ n. topology.peer (port_at topology.host n) ≡ Some at) zero_is parts.0

go_down : (topology : Topology) (registers : AllRegisters) (host_id first : ℕ) (front rest : List ℕ)
    (at end : PortRef)
    → IsOpened topology registers host_id (first ∷ front ++ rest)
    → entered topology (first ∷ front) ≡ Some at → along topology at rest ≡ Some end
    → arrive topology registers 255 (length rest) at ≡ Some end
go_down topology registers host_id first front [] at end opened enters leads = leads
go_down topology registers host_id first front (port ∷ rest) at end opened enters leads =
    go (behind_port topology at.node port) refl leads
    (λ next opened_on enters_next leads_on. go_down topology registers host_id first
    (front ++ port ∷ []) rest next end opened_on enters_next leads_on)
  where
    go : (o : Option PortRef) → behind_port topology at.node port ≡ o
        → option_and_then (λ next. along topology next rest) o ≡ Some end
        → ((next : PortRef)
        → IsOpened topology registers host_id (first ∷ (front ++ port ∷ []) ++ rest)
        → entered topology (first ∷ front ++ port ∷ []) ≡ Some next
        → along topology next rest ≡ Some end
        → arrive topology registers 255 (length rest) next ≡ Some end)
        → arrive topology registers 255 (suc (length rest)) at ≡ Some end
    go None is leads on = absurd (cc)
    go (Some next) is leads on =
        let link = behind-link topology at.node port next is in
        let switch = followed-switch topology at.node port
        (opened.not_host first front rest port at refl enters) link.1 in
        arrive-passed topology registers 255 (length rest) switch.0 port at switch.1
        (opened.onwards first front rest port at refl enters)
        ∙ (walk-linked topology registers 255 (length rest) (port_at at.node port) next link.0
        ∙ on next (subst (λ l. IsOpened topology registers host_id (first ∷ l)) (sym
        (append_assoc front (port ∷ []) rest)) opened)
        (along-append topology (port_at topology.host 0) (first ∷ front)
        (port ∷ []) at enters ∙ ap (λ o. option_and_then (λ (p : PortRef). Some p) o) is) leads)

pub request_ends : (topology : Topology) (registers : AllRegisters) (host_id first : ℕ)
    (rest : List ℕ) (at : PortRef)
    → IsTopology topology → IsOpened topology registers host_id (first ∷ rest)
    → entered topology (first ∷ rest) ≡ Some at
    → walk topology registers 255 (length rest) (port_at topology.host 0) ≡ Some at
request_ends topology registers host_id first rest at proper opened enters =
    go (behind_port topology topology.host first) refl enters
  where
    go : (o : Option PortRef) → behind_port topology topology.host first ≡ o
        → option_and_then (λ next. along topology next rest) o ≡ Some at
        → walk topology registers 255 (length rest) (port_at topology.host 0) ≡ Some at
    go None is leads = absurd (cc)
    go (Some next) is leads =
        walk-linked topology registers 255 (length rest) (port_at topology.host 0) next
        (first_link topology first next is)
        ∙ go_down topology registers host_id first [] rest next at opened
        (ap (λ o. option_and_then (λ (p : PortRef). Some p) o) is) leads

-- A packet for the host that leaves a port comes home, if it has so many hops.
abbrev ComesHome : Topology → AllRegisters → ℕ → ℕ → PortRef → Type 0
ComesHome topology registers host_id least at =
    (hops : ℕ) → least ≤ hops
    → walk topology registers host_id hops at ≡ Some (port_at topology.host 0)

go_home : (topology : Topology) (registers : AllRegisters) (host_id first least : ℕ)
    (front rest : List ℕ) (at end : PortRef)
    → IsTopology topology → IsOpened topology registers host_id (first ∷ front ++ rest)
    → entered topology (first ∷ front) ≡ Some at → along topology at rest ≡ Some end
    → ComesHome topology registers host_id least at
    → ComesHome topology registers host_id (least + length rest) end
go_home topology registers host_id first least front [] at end proper opened enters leads home =
    λ hops enough.
    let same : at ≡ end = cc in
    subst (λ p. walk topology registers host_id hops p ≡ Some (port_at topology.host 0)) same
    (home hops (omega (arith, enough)))
go_home topology registers host_id first least front
    (port ∷ rest) at end proper opened enters leads home =
    go (behind_port topology at.node port) refl leads
    (λ next opened_on enters_next leads_on home_on. go_home topology registers host_id first
    (suc least)
    (front ++ port ∷ []) rest next end proper opened_on enters_next leads_on home_on)
  where
    back : (next : PortRef) → topology.peer (port_at at.node port) ≡ Some next → (ports : ℕ)
        → topology.switch_ports at.node ≡ Some ports
        → ComesHome topology registers host_id (suc least) next
    back next link ports is zero enough = absurd (omega (arith, enough))
    back next link ports is (suc hops) enough =
        walk-linked topology registers host_id (suc hops) next (port_at at.node port)
        (proper.both_ways (port_at at.node port) next link)
        ∙ (arrive-passed topology registers host_id hops ports at.port (port_at at.node port) is
        (opened.home first front rest port at refl enters)
        ∙ home hops (omega (arith, enough)))

    go : (o : Option PortRef) → behind_port topology at.node port ≡ o
        → option_and_then (λ next. along topology next rest) o ≡ Some end
        → ((next : PortRef)
        → IsOpened topology registers host_id (first ∷ (front ++ port ∷ []) ++ rest)
        → entered topology (first ∷ front ++ port ∷ []) ≡ Some next
        → along topology next rest ≡ Some end
        → ComesHome topology registers host_id (suc least) next
        → ComesHome topology registers host_id (suc least + length rest) end)
        → ComesHome topology registers host_id (least + suc (length rest)) end
    go None is leads on hops enough = absurd (cc)
    go (Some next) is leads on hops enough =
        let link = behind-link topology at.node port next is in
        let switch = followed-switch topology at.node port
        (opened.not_host first front rest port at refl enters) link.1 in
        on next (subst (λ l. IsOpened topology registers host_id (first ∷ l)) (sym
        (append_assoc front (port ∷ []) rest)) opened)
        (along-append topology (port_at topology.host 0) (first ∷ front)
        (port ∷ []) at enters ∙ ap (λ o. option_and_then (λ (p : PortRef). Some p) o) is)
        leads (back next link.0 switch.0 switch.1) hops (omega (arith, enough))

pub answer_returns : (topology : Topology) (registers : AllRegisters) (host_id first : ℕ)
    (rest : List ℕ) (at : PortRef) (hops : ℕ)
    → IsTopology topology → IsOpened topology registers host_id (first ∷ rest)
    → entered topology (first ∷ rest) ≡ Some at → length rest ≤ hops
    → walk topology registers host_id hops at ≡ Some (port_at topology.host 0)
answer_returns topology registers host_id first rest at hops proper opened enters enough =
    go (behind_port topology topology.host first) refl enters
  where
    near : (next : PortRef) → topology.peer (port_at topology.host 0) ≡ Some next
        → ComesHome topology registers host_id 0 next
    near next link hops enough =
        walk-linked topology registers host_id hops next (port_at topology.host 0)
        (proper.both_ways (port_at topology.host 0) next link)
        ∙ arrive-endpoint topology registers host_id hops
        (port_at topology.host 0) proper.host_is_endpoint

    go : (o : Option PortRef) → behind_port topology topology.host first ≡ o
        → option_and_then (λ next. along topology next rest) o ≡ Some at
        → walk topology registers host_id hops at ≡ Some (port_at topology.host 0)
    go None is leads = absurd (cc)
    go (Some next) is leads =
        go_home topology registers host_id first 0 [] rest next at proper opened
        (ap (λ o. option_and_then (λ (p : PortRef). Some p) o) is) leads
        (near next (first_link topology first next is)) hops (omega (arith, enough))
