-- What is asked of each of several events, and of packets among others.
use Rattle.std.proofs.Common.{◌≡◌, ◌↔◌, ℕ, zero, suc, ◌<◌, ◌||◌, Bool, true, false, Decides, List, [], ◌∷◌, Contains, nat_eq, inl, inr, ◌⊎◌, refl, sym, ap, ◌∙◌, subst, arith}
use Rattle.std.proofs.lemmas.Bool.{false≢true, true≢false}
use Rattle.std.specs.Prelude.{IsTrue}
use Rattle.std.specs.Cmp.Lexicographic.{pointwise, bytes_decides}
use Rattle.std.specs.List.{list_any}
use Rattle.rio_packets.specs.Fields.{prio_of}
use Rattle.link_buffers.specs.Queues.{list_at}
use Rattle.fabric_script.specs.declared.ports.PortRef.{PortRef}
use Rattle.fabric_model.specs.Network.{Network}
use Rattle.fabric_trace.specs.Owned.{HasPacket}
use Rattle.fabric_trace.specs.Views.{packets_in}
use Rattle.fabric_trace.proofs.Network.Lanes.{lane_at}
use Rattle.trace_check.specs.Sending.{AreToSend}

same_other : (other packet : List ℕ) → Decides (pointwise nat_eq other packet) (other ≡ packet)
same_other other packet = bytes_decides other packet

found_in : (packets : List (List ℕ)) (packet : List ℕ)
    → list_any (λ other. pointwise nat_eq other packet) packets ≡ true → Contains packets packet
found_in [] packet found = absurd (false≢true found)
found_in (other ∷ packets) packet found =
    by_test (pointwise nat_eq other packet) refl found (found_in packets packet)
  where
    by_test : (b : Bool) → pointwise nat_eq other packet ≡ b
        → b || list_any (λ other. pointwise nat_eq other packet) packets ≡ true
        → (list_any (λ other. pointwise nat_eq other packet) packets ≡ true
        → Contains packets packet) → Contains (other ∷ packets) packet
    by_test true same found later = (0, omega arith, (same_other other packet).0 same)
    by_test false same found later =
        let there = later found in (suc there.0, omega (arith, there.1), there.2)

in_found : (packets : List (List ℕ)) (packet : List ℕ) → Contains packets packet
    → list_any (λ other. pointwise nat_eq other packet) packets ≡ true
in_found [] packet has = absurd (omega (arith, has.1))
in_found (other ∷ packets) packet (zero, within, is) =
    ap (λ b. b || list_any (λ other. pointwise nat_eq other packet) packets)
    ((same_other other packet).1 is)
in_found (other ∷ packets) packet (suc k, within, is) =
    by_test (pointwise nat_eq other packet)
    (in_found packets packet (k, omega (arith, within), is))
  where
    by_test : (b : Bool) → list_any (λ other. pointwise nat_eq other packet) packets ≡ true
        → b || list_any (λ other. pointwise nat_eq other packet) packets ≡ true
    by_test true later = refl
    by_test false later = later

-- whether a packet is found among others is whether they have it
pub found_both : (packets : List (List ℕ)) (packet : List ℕ) (found : Bool)
    → found ≡ list_any (λ other. pointwise nat_eq other packet) packets
    → IsTrue found ↔ Contains packets packet
found_both packets packet found is = (
  λ yes. found_in packets packet (sym is ∙ yes),
  λ has. is ∙ in_found packets packet has,
)

-- the packet waits in the lane of its priority, or it is lent
pub has_both : (net : Network) (p : PortRef) (waiting : List (List (List ℕ)))
    (lent : List (List ℕ)) (packet : List ℕ) → AreToSend net p waiting lent
    → prio_of packet < 4
    → (Contains (list_at waiting (prio_of packet)) packet ⊎ Contains lent packet)
    ↔ HasPacket net p packet
has_both net p waiting lent packet is few =
    let r = prio_of packet in
    let lane : list_at waiting r ≡ packets_in (net.waiting p r)
    = ap (λ l. list_at l r) is.waits ∙ lane_at (net.waiting p) r few in
    let Has : List (List ℕ) → List (List ℕ) → Type 0
    = λ waits lends. Contains waits packet ⊎ Contains lends packet in (
      λ has. subst (Has (packets_in (net.waiting p r))) is.lends
          (subst (λ waits. Has waits lent) lane has),
      λ has. subst (λ waits. Has waits lent) (sym lane)
          (subst (Has (packets_in (net.waiting p r))) (sym is.lends) has),
    )

-- found among those that wait
pub waits_has : (net : Network) (p : PortRef) (waiting : List (List (List ℕ)))
    (lent : List (List ℕ)) (packet : List ℕ) (waits : Bool) → AreToSend net p waiting lent
    → prio_of packet < 4 → IsTrue waits ↔ Contains (list_at waiting (prio_of packet)) packet
    → waits ≡ true → IsTrue true ↔ HasPacket net p packet
waits_has net p waiting lent packet waits is few first found =
    let both = has_both net p waiting lent packet is few in
    (λ t. both.0 (inl (first.0 found)), λ has. refl)

-- or not, and then among those that are lent
pub lent_has : (net : Network) (p : PortRef) (waiting : List (List (List ℕ)))
    (lent : List (List ℕ)) (packet : List ℕ) (waits lends : Bool) → AreToSend net p waiting lent
    → prio_of packet < 4 → IsTrue waits ↔ Contains (list_at waiting (prio_of packet)) packet
    → IsTrue lends ↔ Contains lent packet → waits ≡ false → IsTrue lends ↔ HasPacket net p packet
lent_has net p waiting lent packet waits lends is few first second missing =
    let both = has_both net p waiting lent packet is few in
    (λ found. both.0 (inr (second.0 found)), λ has. by_place (both.1 has))
  where
    by_place : Contains (list_at waiting (prio_of packet)) packet ⊎ Contains lent packet
        → IsTrue lends
    by_place (inl there) = absurd (true≢false (sym (first.1 there) ∙ missing))
    by_place (inr there) = second.1 there
