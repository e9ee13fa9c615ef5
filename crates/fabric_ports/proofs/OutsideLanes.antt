-- What is known if a port without a link stands in another state: that port, all others, the links,
-- and that a trace may go on from it.
use Rattle.std.proofs.Common.{◌≡◌, ℕ, zero, suc, ◌+◌, ◌<◌, ◌≤◌, ◌==◌, Bool, true, false, List, [], ◌∷◌, ◌++◌, All, filter, length, take, None, refl, sym, ap, ◌∙◌, subst, inl, inr, arith, if◌then◌else◌}
use Rattle.std.proofs.lemmas.Bool.{cases_lt}
use Rattle.std.specs.List.{AllByRecursion}
use Rattle.rio_packets.specs.Fields.{prio_of}
use Rattle.rio_packets.specs.LinkForm.{Passes}
use Rattle.link_buffers.specs.Queues.{list_at, packet_count}
use Rattle.link_port.specs.Ports.{PortState, IsPort}
use Rattle.link_machine.specs.Queues.{Queues, queues_of}
use Rattle.link_machine.specs.Sound.{IsSoundLink}
use Rattle.fabric_script.specs.declared.ports.PortRef.{PortRef}
use Rattle.fabric_model.specs.Network.{Item, Network, same_port}
use Rattle.fabric_model.specs.Laws.Forms.{IsFormed}
use Rattle.fabric_model.specs.Laws.Priorities.{ByPriority}
use Rattle.fabric_model.proofs.Peers.{same_port-refl, unlinked_apart, apart_back, peer_back}
use Rattle.fabric_trace.specs.Known.{Seen, peer_of, link_at, port_seen}
use Rattle.fabric_trace.specs.Links.{queues_in, IsLink}
use Rattle.fabric_trace.specs.Ready.{IsReady}
use Rattle.fabric_trace.specs.Views.{half_of, packets_in, lists_in}
use Rattle.fabric_ports.specs.Outside.{numbered_items, numbered_lanes, seen_outside}
use Rattle.fabric_ports.proofs.IdleLaws.{link_stays}

-- ---- packets as items

packets-numbered : (p : PortRef) (number : ℕ) (packets : List (List ℕ))
    → packets_in (numbered_items p number packets) ≡ packets
packets-numbered p number [] = refl
packets-numbered p number (packet ∷ packets) =
    ap (λ (l : List (List ℕ)). packet ∷ l) (packets-numbered p (suc number) packets)

lists-numbered : (p : PortRef) (number : ℕ) (lists : List (List (List ℕ))) → length lists ≡ 4
    → lists_in (numbered_lanes p number lists) ≡ lists
lists-numbered p number [] four = absurd (omega (arith, four))
lists-numbered p number (a ∷ []) four = absurd (omega (arith, four))
lists-numbered p number (a ∷ b ∷ []) four = absurd (omega (arith, four))
lists-numbered p number (a ∷ b ∷ c ∷ []) four = absurd (omega (arith, four))
lists-numbered p number (a ∷ b ∷ c ∷ d ∷ []) four =
    let lists = a ∷ b ∷ c ∷ d ∷ [] in
    let of_lane = λ (r : ℕ). packets-numbered p (number + packet_count (take r lists))
    (list_at lists r) in
    λ i. of_lane 0 i ∷ of_lane 1 i ∷ of_lane 2 i ∷ of_lane 3 i ∷ []
lists-numbered p number (a ∷ b ∷ c ∷ d ∷ e ∷ lists) four = absurd (omega (arith, four))

-- what holds of each packet holds of each item
items_hold : (P : List ℕ → Type 0) (p : PortRef) (number : ℕ) (packets : List (List ℕ))
    → All P packets → AllByRecursion (λ item. P item.now) (numbered_items p number packets)
items_hold P p number [] all = tt
items_hold P p number (packet ∷ packets) all = (
  all 0 packet (omega arith),
  items_hold P p (suc number) packets (λ k x below. all (suc k) x (omega (arith, below))),
)

no_list : (lists : List (List (List ℕ))) (r : ℕ) → length lists ≤ r → list_at lists r ≡ []
no_list [] r beyond = refl
no_list (l ∷ lists) zero beyond = absurd (omega (arith, beyond))
no_list (l ∷ lists) (suc r) beyond = no_list lists r (omega (arith, beyond))

lane_holds : (P : List ℕ → Type 0) (p : PortRef) (number : ℕ) (lists : List (List (List ℕ)))
    (r : ℕ) → length lists ≡ 4 → (r < 4 → All P (list_at lists r))
    → AllByRecursion (λ item. P item.now) (numbered_lanes p number lists r)
lane_holds P p number lists r four all =
    let from = number + packet_count (take r lists) in
    elim (cases_lt r 4) [
      | inl below ↦ items_hold P p from (list_at lists r) (all below)
      | inr beyond ↦
          subst (λ l. AllByRecursion (λ item. P item.now) (numbered_items p from l))
          (sym (no_list lists r (omega (arith, four, beyond)))) tt
    ]

-- of lanes of which one port has these
own_or_other : (P : Item → Type 0) (b : Bool) (own other : ℕ → List Item) (r : ℕ)
    → AllByRecursion P (own r) → AllByRecursion P (other r)
    → AllByRecursion P ((if b then own else other) r)
own_or_other P true own other r first second = first
own_or_other P false own other r first second = second

lent_or_none : (P : Item → Type 0) (b : Bool) (lent : List Item) → AllByRecursion P lent
    → AllByRecursion P (if b then [] else lent)
lent_or_none P true lent all = tt
lent_or_none P false lent all = all

module _ (p : PortRef) (x : PortState) (s : Seen) where
  abbrev net : Network
  net = s.network

  abbrev t : Seen
  t = seen_outside p x s

  abbrev held : ℕ → List Item
  held = numbered_lanes p net.given x.received.lists

  abbrev queued : ℕ → List Item
  queued = numbered_lanes p (net.given + packet_count x.received.lists) x.queued

  -- ---- ports

  -- a port, which is the one or is not
  port_by : Bool → PortRef → PortState
  port_by own q =
      let half = if own then half_of x else s.halves q in
      record {
        place = half.place;
        output = half.output;
        input = half.input;
        queued = lists_in (λ r. filter (λ item. prio_of item.now == r)
            (if own then [] else net.lent q) ++ (if own then queued else net.waiting q) r);
        received = record {
          lists = lists_in (if own then held else net.received q);
          buffers = net.buffers q;
        };
        tells = net.tells q;
      }

  by_port : (q : PortRef) → port_seen t q ≡ port_by (same_port q p) q
  unfolding port_by
  by_port q = refl

  pub others_stay : (q : PortRef) → same_port q p ≡ false → port_seen t q ≡ port_seen s q
  unfolding port_by
  others_stay q apart = by_port q ∙ ap (λ b. port_by b q) apart

  pub stands_there : IsPort x → x.received.buffers ≡ (port_seen s p).received.buffers
      → x.tells ≡ (port_seen s p).tells → port_seen t p ≡ x
  unfolding port_by
  stands_there is buffers tells =
      let first = lists-numbered p net.given x.received.lists is.receives.four in
      let second = lists-numbered p (net.given + packet_count x.received.lists) x.queued
      is.sends.four in
      by_port p ∙ ap (λ b. port_by b p) (same_port-refl p)
      ∙ λ i. record {
        place = x.place;
        output = x.output;
        input = x.input;
        queued = second i;
        received = record { lists = first i; buffers = sym buffers i };
        tells = sym tells i;
      }

  -- ---- links

  queues_by : Bool → Bool → PortRef → PortRef → Queues
  queues_by first second a b = record {
    lent_a = packets_in (if first then [] else net.lent a);
    waiting_a = lists_in (if first then queued else net.waiting a);
    received_a = record {
      lists = lists_in (if first then held else net.received a);
      buffers = net.buffers a;
    };
    lent_b = packets_in (if second then [] else net.lent b);
    waiting_b = lists_in (if second then queued else net.waiting b);
    received_b = record {
      lists = lists_in (if second then held else net.received b);
      buffers = net.buffers b;
    };
  }

  queues_stay : (a b : PortRef) → same_port a p ≡ false → same_port b p ≡ false
      → queues_in t.network a b ≡ queues_in net a b
  unfolding queues_by
  queues_stay a b first second =
      let by : queues_in t.network a b ≡ queues_by (same_port a p) (same_port b p) a b = refl in
      by ∙ ap (λ c. queues_by c (same_port b p) a b) first
      ∙ ap (λ c. queues_by false c a b) second

  pub link_kept : (a b : PortRef) → same_port a p ≡ false → same_port b p ≡ false
      → link_at t a b ≡ link_at s a b
  link_kept a b first second =
      link_stays s t a b (others_stay a first) (others_stay b second) refl refl

  link_on : (a b : PortRef) → same_port a p ≡ false → same_port b p ≡ false → IsLink s a b
      → IsLink t a b
  link_on a b first second is =
      let same = link_kept a b first second in
      record {
        sound = subst IsSoundLink (sym same) is.sound;
        stands = queues_stay a b first second ∙ is.stands ∙ ap queues_of (sym same);
        kept_a = is.kept_a;
        kept_b = is.kept_b;
      }

  -- ---- a trace may go on

  formed_on : IsPort x → IsFormed net → IsFormed t.network
  formed_on is formed = record {
    received = λ q r. own_or_other (λ item. Passes item.now) (same_port q p) held
        (net.received q) r
        (lane_holds Passes p net.given x.received.lists r is.receives.four
        (λ below. is.receives.packets r below))
        (formed.received q r);
    waiting = λ q r. own_or_other (λ item. Passes item.now) (same_port q p) queued
        (net.waiting q) r
        (lane_holds Passes p (net.given + packet_count x.received.lists) x.queued r is.sends.four
        (λ below. is.sends.packets r below))
        (formed.waiting q r);
    lent = λ q. lent_or_none (λ item. Passes item.now) (same_port q p) (net.lent q)
        (formed.lent q);
    registers = formed.registers;
  }

  priorities_on : IsPort x → ByPriority net → ByPriority t.network
  priorities_on is by = record {
    received = λ q r. own_or_other (λ item. prio_of item.now ≡ r) (same_port q p) held
        (net.received q) r
        (lane_holds (λ packet. prio_of packet ≡ r) p net.given x.received.lists r
        is.receives.four (λ below. is.receives.sorted r below))
        (by.received q r);
    waiting = λ q r. own_or_other (λ item. prio_of item.now ≡ r) (same_port q p) queued
        (net.waiting q) r
        (lane_holds (λ packet. prio_of packet ≡ r) p
        (net.given + packet_count x.received.lists) x.queued r is.sends.four
        (λ below. is.sends.sorted r below))
        (by.waiting q r);
  }

  pub outside_ready : IsPort x → peer_of s p ≡ None → IsReady s → IsReady t
  outside_ready is unlinked ready = record {
    formed = formed_on is ready.formed;
    by_priority = priorities_on is ready.by_priority;
    proper = ready.proper;
    links = λ sent a b peer.
        let first = unlinked_apart net.links p a b unlinked peer in
        let second = unlinked_apart net.links p b a unlinked
        (peer_back net.links b a ready.proper peer) in
        link_on a b (apart_back p a first) (apart_back p b second) (ready.links sent a b peer);
  }
