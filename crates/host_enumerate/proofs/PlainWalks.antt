-- Where a request goes by plain registers, one link after another.
use Rattle.std.proofs.Common.{◌≡◌, ◌≢◌, ℕ, zero, suc, ◌-◌, ◌<◌, true, false, List, length, slice_index_or, Option, Some, None, option_and_then, arith, refl, sym, ap, subst, ◌∙◌}
use Rattle.host_enumerate.proofs.Prelude.{same_Some, PortRef, Registers, is_switch, next_port, peer_in, port_at, Topology, IsTopology, AllRegisters, passed, walk, ports_of_switch, topology_of, registers_of}
use Rattle.host_enumerate.proofs.Accessed.{read_is, registers_of-read}

-- behind a link there is a device
pub linked-inside : (devices : List Registers) (links : List (PortRef × PortRef)) (host : ℕ)
    (from at : PortRef)
    → IsTopology (topology_of devices links host) → peer_in links from ≡ Some at
    → at.node < length devices
linked-inside devices links host from at is linked =
    (is.ports at from (is.both_ways from at linked)).node

-- at a device without ports of a switch it ends
ends : (topology : Topology) (registers : AllRegisters) (dest hops : ℕ) (from at : PortRef)
    → topology.peer from ≡ Some at → topology.switch_ports at.node ≡ None
    → walk topology registers dest hops from ≡ Some at
ends topology registers dest zero from at linked kind = linked
ends topology registers dest (suc hops) from at linked kind =
    ap (λ o. option_and_then (passed topology registers dest
    (λ next. walk topology registers dest hops next)) o) linked
    ∙ through
  where
    through : passed topology registers dest (λ next. walk topology registers dest hops next) at
        ≡ Some at
    through = rw kind refl

-- and behind one with them it goes on
goes_on : (topology : Topology) (registers : AllRegisters) (dest hops ports : ℕ) (from at : PortRef)
    → topology.peer from ≡ Some at → topology.switch_ports at.node ≡ Some ports
    → walk topology registers dest (suc hops) from
    ≡ option_and_then (λ port. walk topology registers dest hops (port_at at.node port))
    (next_port (registers at.node) dest)
goes_on topology registers dest hops ports from at linked kind =
    ap (λ o. option_and_then (passed topology registers dest
    (λ next. walk topology registers dest hops next)) o) linked
    ∙ through
  where
    through : passed topology registers dest (λ next. walk topology registers dest hops next) at
        ≡ option_and_then (λ port. walk topology registers dest hops (port_at at.node port))
        (next_port (registers at.node) dest)
    through = rw kind refl

of_endpoint : (device : Registers) → is_switch device ≡ false → ports_of_switch device ≡ None
of_endpoint device is = rw is refl

of_switch : (device : Registers) → is_switch device ≡ true
    → ports_of_switch device ≡ Some device.ports
of_switch device is = rw is refl

-- at an endpoint a request ends
pub walk-endpoint : (devices : List Registers) (links : List (PortRef × PortRef))
    (host dest hops : ℕ)
    (from at : PortRef) (device : Registers)
    → IsTopology (topology_of devices links host) → peer_in links from ≡ Some at
    → device ≡ slice_index_or devices at.node device → is_switch device ≡ false
    → walk (topology_of devices links host) (registers_of devices) dest hops from ≡ Some at
walk-endpoint devices links host dest hops from at device is linked read kind =
    ends (topology_of devices links host) (registers_of devices) dest hops from at linked
    (ap (λ d. option_and_then ports_of_switch d) (read_is devices at.node device
    (linked-inside devices links host from at is linked) read)
    ∙ of_endpoint device kind)

-- behind a switch it goes on by the port that the table names
pub walk-switch : (devices : List Registers) (links : List (PortRef × PortRef)) (host dest hops : ℕ)
    (from at : PortRef) (device : Registers) (by : Option ℕ)
    → IsTopology (topology_of devices links host) → peer_in links from ≡ Some at
    → device ≡ slice_index_or devices at.node device → is_switch device ≡ true
    → hops ≢ 0 → next_port device dest ≡ by
    → walk (topology_of devices links host) (registers_of devices) dest hops from
    ≡ option_and_then (λ port. walk (topology_of devices links host) (registers_of devices) dest
    (hops - 1) (port_at at.node port)) by
walk-switch devices links host dest zero from at device by is linked read kind some named =
    absurd (some refl)
walk-switch devices links host dest (suc hops) from at device by is linked read kind some named =
    goes_on topology registers dest hops device.ports from at linked
    (ap (λ d. option_and_then ports_of_switch d) (read_is devices at.node device inside read)
    ∙ of_switch device kind)
    ∙ (ap (λ o. option_and_then (λ port. walk topology registers dest hops
    (port_at at.node port)) o)
    (ap (λ d. next_port d dest) (registers_of-read devices at.node device inside read) ∙ named)
    ∙ ap (λ n. option_and_then (λ port. walk topology registers dest n (port_at at.node port)) by)
    less)
  where
    topology : Topology
    topology = topology_of devices links host

    registers : AllRegisters
    registers = registers_of devices

    inside : at.node < length devices
    inside = linked-inside devices links host from at is linked

    less : hops ≡ suc hops - 1
    less = omega arith

-- a switch without a port for the destination discards the request
pub walk-discarded : (devices : List Registers) (links : List (PortRef × PortRef))
    (host dest hops : ℕ) (from at : PortRef) (device : Registers)
    → IsTopology (topology_of devices links host) → peer_in links from ≡ Some at
    → device ≡ slice_index_or devices at.node device → is_switch device ≡ true
    → hops ≢ 0 → next_port device dest ≡ None
    → None ≡ walk (topology_of devices links host) (registers_of devices) dest hops from
walk-discarded devices links host dest hops from at device is linked read kind some named =
    sym (walk-switch devices links host dest hops from at device None is linked read kind some
    named)

pub walk-passed : (devices : List Registers) (links : List (PortRef × PortRef))
    (host dest hops port : ℕ) (from at : PortRef) (device : Registers)
    → IsTopology (topology_of devices links host) → peer_in links from ≡ Some at
    → device ≡ slice_index_or devices at.node device → is_switch device ≡ true
    → hops ≢ 0 → next_port device dest ≡ Some port
    → walk (topology_of devices links host) (registers_of devices) dest (hops - 1)
    (port_at at.node port)
    ≡ walk (topology_of devices links host) (registers_of devices) dest hops from
walk-passed devices links host dest hops port from at device is linked read kind some named =
    sym (walk-switch devices links host dest hops from at device (Some port) is linked read kind
    some named)

-- where a request ends there is a device
pub walk-inside : (topology : Topology) (registers : AllRegisters) (dest hops : ℕ)
    (from at : PortRef)
    → IsTopology topology → walk topology registers dest hops from ≡ Some at
    → at.node < topology.nodes
walk-inside topology registers dest zero from at is ended =
    (is.ports at from (is.both_ways from at ended)).node
walk-inside topology registers dest (suc hops) from at is ended =
    linked (λ p rest. walk-inside topology registers dest hops p at is rest) (topology.peer from)
    refl ended
  where
    on : PortRef → Option PortRef
    on next = walk topology registers dest hops next

    Goes : Type 0
    Goes = (p : PortRef) → walk topology registers dest hops p ≡ Some at
        → at.node < topology.nodes

    entry : (next : PortRef) → topology.peer from ≡ Some next → Some next ≡ Some at
        → at.node < topology.nodes
    entry next link same =
        subst (λ (p : PortRef). p.node < topology.nodes) (same_Some next at same)
        (is.ports next from (is.both_ways from next link)).node

    sent : Goes → (next : PortRef) (by : Option ℕ)
        → option_and_then (λ port. on (port_at next.node port)) by ≡ Some at
        → at.node < topology.nodes
    sent goes next None same = absurd (cc)
    sent goes next (Some port) same = goes (port_at next.node port) same

    passing : Goes → (next : PortRef) (kind : Option ℕ) → topology.peer from ≡ Some next
        → topology.switch_ports next.node ≡ kind
        → passed topology registers dest on next ≡ Some at → at.node < topology.nodes
    passing goes next None link kind same = entry next link (sym through ∙ same)
      where
        through : passed topology registers dest on next ≡ Some next
        through = rw kind refl
    passing goes next (Some ports) link kind same =
        sent goes next (next_port (registers next.node) dest) (sym through ∙ same)
      where
        through : passed topology registers dest on next
            ≡ option_and_then (λ port. on (port_at next.node port))
            (next_port (registers next.node) dest)
        through = rw kind refl

    linked : Goes → (link : Option PortRef) → topology.peer from ≡ link
        → option_and_then (passed topology registers dest on) link ≡ Some at
        → at.node < topology.nodes
    linked goes None link same = absurd (cc)
    linked goes (Some next) link same =
        passing goes next (topology.switch_ports next.node) link refl same
