-- Packets for one ID that leave one port come to one endpoint.
use Rattle.fabric_map.proofs.Prelude.{◌≡◌, ℕ, subst, sym, PortRef, port_at, Topology, AllRegisters, Arrives, AtEndpoint, ThroughSwitch}

pub one_endpoint : (topology : Topology) (registers : AllRegisters)
    (id node other : ℕ) {at : PortRef} → Arrives topology registers id node at
    → Arrives topology registers id other at → node ≡ other
one_endpoint topology registers id node other (AtEndpoint at next link is_end is)
    (AtEndpoint at2 next2 link2 is_end2 is2) =
    let same : next ≡ next2 = cc in
    cc
one_endpoint topology registers id node other (AtEndpoint at next link is_end is)
    (ThroughSwitch at2 next2 ports2 port2 link2 is_switch2 sent2 on2) =
    let same : next ≡ next2 = cc in
    absurd (cc)
one_endpoint topology registers id node other
    (ThroughSwitch at next ports port link is_switch sent on)
    (AtEndpoint at2 next2 link2 is_end2 is2) =
    let same : next ≡ next2 = cc in
    absurd (cc)
one_endpoint topology registers id node other
    (ThroughSwitch at next ports port link is_switch sent on)
    (ThroughSwitch at2 next2 ports2 port2 link2 is_switch2 sent2 on2) =
    let same : next ≡ next2 = cc in
    let by : port ≡ port2 = cc in
    one_endpoint topology registers id node other on
    (subst (λ p. Arrives topology registers id other (port_at next.node p)) (sym by)
    (subst (λ (q : PortRef). Arrives topology registers id other (port_at q.node port2))
    (sym same) on2))
