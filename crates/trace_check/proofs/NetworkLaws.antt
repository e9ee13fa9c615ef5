-- What a part of a step leaves of the network, table by table.
use Rattle.std.proofs.Common.{◌≡◌, ◌↔◌, ℕ, ◌+◌, ◌-◌, ◌<◌, ◌==◌, ◌++◌, List, [], ◌∷◌, count_by, drop, filter, length, map, nat_lt, Err, IfOk, Ok, Result, slice_get, slice_set, false, Some, sym, ap, ◌∙◌, subst, arith}
use Rattle.std.proofs.lemmas.Bool.Decides.{nat_tests}
use Rattle.std.proofs.lemmas.List.{length-map}
use Rattle.std.proofs.lemmas.List.Sums.{length-filter}
use Rattle.rio_packets.specs.Fields.{prio_of}
use Rattle.link_buffers.specs.Queues.{appended, list_at, popped}
use Rattle.maint_packets.specs.NextHops.{moved}
use Rattle.maint_registers.specs.Changes.{with_device}
use Rattle.maint_registers.specs.Devices.{Registers}
use Rattle.maint_registers.proofs.ChangeLaws.{length-with_device}
use Rattle.fabric_script.specs.declared.ports.PortRef.{PortRef}
use Rattle.fabric_model.specs.Network.{first_packet, Item, Lanes, Network, with_lane, with_lent}
use Rattle.fabric_model.specs.Steps.{behind_first, moved_item, Needs, only_first, Step}
use Rattle.fabric_trace.specs.Views.{lists_in, packets_in}
use Rattle.fabric_trace.proofs.Network.Lanes.{behind_is, first_is, lane_at, lane_other, lent_other, lent_own, lists_set, of_prio_is, packets-append}
use Rattle.trace_check.specs.declared.network.Network.{Network as Kept}
use Rattle.trace_check.specs.Networks.{IsNetwork, MakesIt}
use Rattle.trace_check.specs.Tables.{IsIn, IsTable, table_place}
use Rattle.trace_check.proofs.TableLaws.{table_set}

first_back : (items : List Item) (packet : List ℕ) → first_packet items ≡ Some packet
    → slice_get (packets_in items) 0 ≡ Some packet
first_back [] packet is = absurd cc
first_back (item ∷ items) packet is = is

-- the packet is first in the lists exactly if it is first in the lane
pub first_both : {lists : List (List (List ℕ))} (lanes : ℕ → List Item) (r : ℕ) (packet : List ℕ)
    → r < 4 → lists ≡ lists_in lanes
    → (slice_get (list_at lists r) 0 ≡ Some packet) ↔ (first_packet (lanes r) ≡ Some packet)
first_both {lists} lanes r packet few is =
    let same : list_at lists r ≡ packets_in (lanes r)
    = ap (λ l. list_at l r) is ∙ lane_at lanes r few in (
      λ first. first_is (lanes r) packet
          (ap (λ (l : List (List ℕ)). slice_get l 0) (sym same) ∙ first),
      λ first. ap (λ (l : List (List ℕ)). slice_get l 0) same ∙ first_back (lanes r) packet first,
    )

abbrev pub AreLanes : ℕ → Lanes → List (List (List (List ℕ))) → Type 0
AreLanes nodes lanes list = IsTable nodes (λ p lists. lists ≡ lists_in (lanes p)) list

module _ {nodes : ℕ} {list : List (List (List (List ℕ)))} {p : PortRef} {i : ℕ} where
  lanes_set : {after : List (List (List ℕ))} (lanes : Lanes) (r : ℕ) (items : List Item)
      → AreLanes nodes lanes list → IsIn nodes p → i ≡ table_place p → r < 4
      → after ≡ slice_set (lists_in (lanes p)) r (packets_in items)
      → AreLanes nodes (with_lane lanes p r items) (slice_set list i after)
  lanes_set {after} lanes r items table is_in here few same =
      table_set after table is_in here (same ∙ sym (lists_set lanes p r items few))
      (λ q lists other has. has ∙ ap lists_in (sym (lane_other lanes p r items q other)))

  pub lanes_taken : {before after : List (List (List ℕ))} (lanes : Lanes) (r : ℕ)
      → AreLanes nodes lanes list → IsIn nodes p → i ≡ table_place p → r < 4
      → before ≡ lists_in (lanes p) → after ≡ popped before r
      → AreLanes nodes (with_lane lanes p r (behind_first (lanes p r))) (slice_set list i after)
  lanes_taken lanes r table is_in here few was taken =
      lanes_set lanes r (behind_first (lanes p r)) table is_in here few
      (taken ∙ (λ j. slice_set (was j) r (drop 1 (list_at (was j) r)))
      ∙ ap (λ (l : List (List ℕ)). slice_set (lists_in (lanes p)) r (drop 1 l))
      (lane_at (lanes p) r few)
      ∙ ap (slice_set (lists_in (lanes p)) r) (sym (behind_is (lanes p r))))

  pub lanes_put : {before after : List (List (List ℕ))} {packet : List ℕ} (lanes : Lanes) (r : ℕ)
      (items : List Item) → AreLanes nodes lanes list → IsIn nodes p → i ≡ table_place p → r < 4
      → before ≡ lists_in (lanes p) → after ≡ appended before r packet
      → packets_in items ≡ packet ∷ []
      → AreLanes nodes (with_lane lanes p r (lanes p r ++ items)) (slice_set list i after)
  lanes_put {packet = packet} lanes r items table is_in here few was put one =
      lanes_set lanes r (lanes p r ++ items) table is_in here few
      (put ∙ (λ j. slice_set (was j) r (list_at (was j) r ++ packet ∷ []))
      ∙ ap (λ (l : List (List ℕ)). slice_set (lists_in (lanes p)) r (l ++ packet ∷ []))
      (lane_at (lanes p) r few)
      ∙ ap (λ (l : List (List ℕ)). slice_set (lists_in (lanes p)) r (packets_in (lanes p r) ++ l))
      (sym one)
      ∙ ap (slice_set (lists_in (lanes p)) r) (sym (packets-append (lanes p r) items)))

pub lent_set : {Q : Type 0} {nodes : ℕ} {list : List Q} {items_of : Q → List (List ℕ)}
    {p : PortRef} {i : ℕ} (lent : PortRef → List Item) (after : Q) (items : List Item)
    → IsTable nodes (λ q queue. items_of queue ≡ packets_in (lent q)) list → IsIn nodes p
    → i ≡ table_place p → items_of after ≡ packets_in items
    → IsTable nodes (λ q queue. items_of queue ≡ packets_in (with_lent lent p items q))
    (slice_set list i after)
lent_set {p = p} lent after items table is_in here same =
    table_set after table is_in here (same ∙ ap packets_in (sym (lent_own lent p items)))
    (λ q queue other has. has ∙ ap packets_in (sym (lent_other lent p items q other)))

-- the links are kept elsewhere, and the number of packets given nowhere
pub same_tables : {nodes : ℕ} {net : Network} {kept : Kept} {links : List (PortRef × PortRef)}
    {given : ℕ} → IsNetwork nodes net kept
    → IsNetwork nodes (record net { links = links; given = given }) kept
same_tables is = record {
  count = is.count;
  registers = is.registers;
  buffers = is.buffers;
  received = is.received;
  waiting = is.waiting;
  lent = is.lent;
}

-- the registers of one node change, and nothing else
pub registers_set : {nodes : ℕ} {net : Network} {old new : Kept} (node : ℕ)
    (change : Registers → Registers) → IsNetwork nodes net old
    → new.registers.items ≡ with_device old.registers.items node change
    → new ≡ record old { registers = new.registers }
    → IsNetwork nodes (record net { registers = with_device net.registers node change }) new
registers_set {nodes} {net} {old} {new} node change is changed rest =
    subst (IsNetwork nodes (record net { registers = with_device net.registers node change }))
    (sym rest) (record {
      count = length-with_device net.registers node change ∙ is.count;
      registers = changed ∙ ap (λ (d : List Registers). with_device d node change) is.registers;
      buffers = is.buffers;
      received = is.received;
      waiting = is.waiting;
      lent = is.lent;
    })

-- how many packets of a priority there are, counted in items
pub count_is : (r : ℕ) (items : List Item)
    → count_by (λ packet. prio_of packet == r) (packets_in items)
    ≡ length (filter (λ item. prio_of item.now == r) items)
count_is r items =
    sym (length-filter (λ packet. prio_of packet == r) (packets_in items))
    ∙ ap length (sym (of_prio_is r items))
    ∙ length-map (filter (λ item. prio_of item.now == r) items) (λ item. item.now)

-- fewer are lent than places are left beside those that wait
pub room_is : (lent waiting : ℕ) → nat_lt lent (16 - waiting) ≡ nat_lt (waiting + lent) 16
room_is lent waiting = grind (arith, nat_tests)

pub lane_count : {lists : List (List (List ℕ))} (lanes : ℕ → List Item) (r : ℕ) → r < 4
    → lists ≡ lists_in lanes → length (list_at lists r) ≡ length (lanes r)
lane_count lanes r few is =
    ap (λ l. length (list_at l r)) is ∙ ap length (lane_at lanes r few)
    ∙ length-map (lanes r) (λ item. item.now)

-- the packet is first in the queue exactly if it is the first item
pub first_of_both : {queue : List (List ℕ)} (items : List Item) (packet : List ℕ)
    → queue ≡ packets_in items
    → (slice_get queue 0 ≡ Some packet) ↔ (first_packet items ≡ Some packet)
first_of_both items packet is = (
  λ first. first_is items packet (ap (λ (l : List (List ℕ)). slice_get l 0) (sym is) ∙ first),
  λ first. ap (λ (l : List (List ℕ)). slice_get l 0) is ∙ first_back items packet first,
)

-- without its first packet
pub rest_is : {queue after : List (List ℕ)} (items : List Item) → queue ≡ packets_in items
    → after ≡ drop 1 queue → after ≡ packets_in (behind_first items)
rest_is items is rest = rest ∙ ap (drop 1) is ∙ sym (behind_is items)

-- with one more
pub more_is : {queue after : List (List ℕ)} {copy packet : List ℕ} (items more : List Item)
    → queue ≡ packets_in items → after ≡ queue ++ copy ∷ [] → copy ≡ packet
    → packets_in more ≡ packet ∷ [] → after ≡ packets_in (items ++ more)
more_is items more is put same one =
    put ∙ (λ i. is i ++ same i ∷ []) ∙ ap (λ (l : List (List ℕ)). packets_in items ++ l) (sym one)
    ∙ sym (packets-append items more)

-- what holds of a value follows for it, if each such value has it
pub if_ok_map : {T E : Type 0} {P Q : T → Type 0} (result : Result T E) → IfOk result P
    → ((x : T) → P x → Q x) → IfOk result Q
if_ok_map (Ok x) is follows = follows x is
if_ok_map (Err e) is follows = tt

-- ---- steps

-- what lacks what it needs is not made
pub not_made : {nodes : ℕ} {kept : Kept} (net : Network) (step : Step) → (Needs net step → ⊥)
    → MakesIt nodes net step kept false
not_made net step never =
    ((λ yes. absurd (cc yes), λ needs. absurd (never needs)), λ yes. absurd (cc yes))

-- ---- steps of devices

-- the first packet as it moves on
pub moved_is : (items : List Item) (packet : List ℕ) → first_packet items ≡ Some packet
    → packets_in (only_first (map moved_item items)) ≡ moved packet ∷ []
moved_is [] packet is = absurd cc
moved_is (item ∷ items) packet is =
    let same : item.now ≡ packet = cc in
    ap (λ (k : List ℕ). moved k ∷ []) same
