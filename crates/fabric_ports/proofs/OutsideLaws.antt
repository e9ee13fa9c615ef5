-- A fabric of which a port without a link went on to another state, and one of which a device shows
-- that such a port has a link.
use Rattle.std.proofs.Common.{◌≡◌, ℕ, zero, suc, ◌<◌, ◌≤◌, Bool, true, false, List, [], ◌∷◌, length, Option, Some, None, slice_get, get_or, refl, sym, ap, ◌∙◌, subst, arith, cond, length-set}
use Rattle.std.proofs.lemmas.Option.{get_or_from_slice_get, slice_get-get_or}
use Rattle.link_port.specs.Ports.{PortState, IsPort}
use Rattle.maint_registers.specs.Devices.{Registers, with_link}
use Rattle.maint_registers.specs.Changes.{linked_at}
use Rattle.maint_registers.proofs.WithinLaws.{links_within}
use Rattle.fabric_script.specs.declared.ports.PortRef.{PortRef}
use Rattle.fabric_model.specs.Laws.Nodes.{IsPortOf}
use Rattle.fabric_model.specs.Network.{same_port, peer_in}
use Rattle.fabric_trace.specs.Fold.{seen}
use Rattle.fabric_trace.specs.Known.{Seen, peer_of, port_seen}
use Rattle.fabric_trace.specs.Parts.{Done}
use Rattle.fabric_trace.proofs.Traces.Existing.{ready_on}
use Rattle.trace_lines.specs.Lines.{TraceLine}
use Rattle.trace_lines.specs.Writing.{Adds}
use Rattle.trace_lines.specs.declared.writer.TraceWriter.{TraceWriter}
use Rattle.fabric_ports.specs.Idling.{KnowsIdle, Wakes}
use Rattle.fabric_ports.specs.Outside.{IsFreePort, PortIsFree, seen_outside, OutsideDid, OutsideJoined}
use Rattle.fabric_ports.specs.Places.{place_of}
use Rattle.fabric_ports.specs.Showing.{ShowsFabric}
use Rattle.fabric_ports.specs.Standing.{Stands}
use Rattle.fabric_ports.specs.declared.fabric.Fabric.{Fabric}
use Rattle.fabric_ports.specs.declared.idle.Idle.{Idle}
use Rattle.fabric_ports.proofs.ChangedLaws.{with_registers, stands_changed}
use Rattle.fabric_ports.proofs.DeviceLaws.{same_devices}
use Rattle.fabric_ports.proofs.FaceLaws.{nodes_differ, port}
use Rattle.fabric_ports.proofs.IdleLaws.{idle_stays, move_stays, face_stays}
use Rattle.fabric_ports.proofs.NodeLaws.{served_shows, with_port}
use Rattle.fabric_ports.proofs.OutsideLanes.{others_stay, stands_there, link_kept, outside_ready}
use Rattle.fabric_ports.proofs.OutsidePorts.{IsAsPlanned}
use Rattle.fabric_ports.proofs.Rows.{has_node}
use Rattle.fabric_ports.proofs.ShowLaws.{one_set}
use Rattle.fabric_ports.proofs.StillLaws.{LeavesWays, still_rests}

-- ---- a port without a link

-- whatever lines the fabric stands for, the port has none
pub free_on : {from : Seen} {lines : List TraceLine} {fabric : Fabric} {p : PortRef}
    → PortIsFree fabric p → Stands from lines fabric → IsFreePort (seen from lines) p
free_on {from} {lines} {fabric} {p} free stands =
    let own = free.stands.shows in
    let shows = stands.shows in
    record {
      at_device = subst (λ l. IsPortOf l p) (own.registers ∙ sym shows.registers)
          free.free.at_device;
      unlinked = ap (λ l. peer_in l p) (sym shows.links ∙ own.links) ∙ free.free.unlinked;
    }

pub free_port : {fabric : Fabric} {p : PortRef} → PortIsFree fabric p
    → IsPortOf fabric.devices.items p
free_port {fabric} {p} free =
    subst (λ l. IsPortOf l p) free.stands.shows.registers free.free.at_device

pub free_shown : {fabric : Fabric} {p : PortRef} → PortIsFree fabric p
    → (s : Seen) × ShowsFabric fabric s
free_shown free = (seen free.from free.lines, free.stands.shows)

pub free_node : {fabric : Fabric} {p : PortRef} → PortIsFree fabric p
    → p.node < length fabric.devices.items
free_node {fabric} {p} free = has_node fabric.devices.items p.node p.port (free_port free)

-- its node has a name if each device has one
pub free_named : {fabric : Fabric} {p : PortRef} {n : ℕ} → PortIsFree fabric p
    → length fabric.devices.items ≤ n → p.node < n
free_named free enough = let there = free_node free in omega (arith, there, enough)

-- the port that was read at its place is the one that is known
pub free_read : {fabric : Fabric} {s : Seen} {p : PortRef} {place : ℕ} {x : PortState}
    → PortIsFree fabric p → ShowsFabric fabric s → place ≡ place_of fabric.firsts.items p
    → x ≡ get_or fabric.ports.items place x → port_seen s p ≡ x
free_read {fabric} {s} {p} {x = x} free shows is value =
    let there = shows.ports p (free_port free) in
    sym (get_or_from_slice_get fabric.ports.items (place_of fabric.firsts.items p)
    (port_seen s p) x there)
    ∙ ap (λ i. get_or fabric.ports.items i x) (sym is) ∙ sym value

-- ---- links

none_of : (s t : Bool) (x y : PortRef) (o : Option PortRef)
    → cond s (Some x) (cond t (Some y) o) ≡ None → (s ≡ false) × (t ≡ false) × (o ≡ None)
none_of true t x y o none = absurd cc
none_of false true x y o none = absurd cc
none_of false false x y o none = (refl, refl, none)

-- no link has it
no_end : (links : List (PortRef × PortRef)) (p : PortRef) (k : ℕ) (link : PortRef × PortRef)
    → peer_in links p ≡ None → slice_get links k ≡ Some link
    → (same_port link.0 p ≡ false) × (same_port link.1 p ≡ false)
no_end [] p k link none at = absurd cc
no_end (l ∷ links) p zero link none at =
    let parts = none_of (same_port l.0 p) (same_port l.1 p) l.1 l.0 (peer_in links p) none in
    let own : l ≡ link = cc in (
      ap (λ (e : PortRef × PortRef). same_port e.0 p) (sym own) ∙ parts.0,
      ap (λ (e : PortRef × PortRef). same_port e.1 p) (sym own) ∙ parts.1,
    )
no_end (l ∷ links) p (suc k) link none at =
    let parts = none_of (same_port l.0 p) (same_port l.1 p) l.1 l.0 (peer_in links p) none in
    no_end links p k link parts.2 at

-- ---- the fabric, of which such a port stands in another state

-- The port was read at its place, went on to this state and was written back. The switch that has
-- it was woken.
module _ {from : Seen} {lines : List TraceLine} {fabric : Fabric} {p : PortRef} {place : ℕ}
    {x : PortState} (y : PortState) (idle : Idle) (free : PortIsFree fabric p)
    (stands : Stands from lines fabric) (here : place ≡ place_of fabric.firsts.items p)
    (value : x ≡ get_or fabric.ports.items place x) (is : IsPort y)
    (woke : Wakes (λ k. ⊥) (λ n. n ≡ p.node) fabric.idle idle) where
  abbrev s : Seen
  s = seen from lines

  abbrev t : Seen
  t = seen_outside p y s

  abbrev later : Fabric
  later = with_port fabric place y idle

  unlinked : peer_of s p ≡ None
  unlinked = (free_on free stands).unlinked

  read : port_seen s p ≡ x
  read = free_read free stands.shows here value

  others : (q : PortRef) → same_port q p ≡ false → port_seen t q ≡ port_seen s q
  others q apart = others_stay p y s q apart

  own : IsAsPlanned x y → port_seen t p ≡ y
  own plan =
      stands_there p y s is (plan.buffers ∙ ap (λ (q : PortState). q.received.buffers) (sym read))
      (plan.tells ∙ ap (λ (q : PortState). q.tells) (sym read))

  knows : KnowsIdle idle t
  knows =
      idle_stays fabric.idle idle s t stands.shows.idle woke refl refl
      (λ k link there none.
      let apart = no_end s.network.links p k link unlinked there in
      link_kept p y s link.0 link.1 apart.0 apart.1)
      (λ n marked none move. move_stays refl
      (λ j. face_stays s t (port n j) (others (port n j) (nodes_differ p (port n j) none))) move)

  shown : IsAsPlanned x y → ShowsFabric later t
  shown plan =
      let shows = stands.shows in
      let ports = one_set fabric.devices.items fabric.firsts.items fabric.ports.items s t p y
      shows.firsts shows.count shows.ports (free_port free) (own plan) others in
      served_shows fabric later s t shows
      (record {
        devices = same_devices fabric.devices.items;
        firsts = refl;
        count = length-set fabric.ports.items place y;
        cables = refl;
        cable_at = refl;
      })
      (rw here ports) refl refl shows.registers knows

  outside_stands : IsAsPlanned x y → Stands t [] later
  outside_stands plan = record {
    ready = outside_ready p y s is unlinked (ready_on stands.ready stands.made);
    made = Done refl;
    sent = stands.sent;
    shows = shown plan;
  }

  -- It did what leads to this state and is written so, by the state that it was in.
  pub outside_did : {K : Type 0} {before after : TraceWriter K} (leads : PortState → PortState)
      (told : PortState → List TraceLine) → y ≡ leads x → IsAsPlanned x (leads x)
      → Adds before after (told x)
      → OutsideDid p (leads (port_seen s p)) (told (port_seen s p)) from lines later before after
  outside_did {before = before} {after = after} leads told becomes plan adds =
      subst (λ (q : PortState). OutsideDid p (leads q) (told q) from lines later before after)
      (sym read)
      (subst (λ (z : PortState). OutsideDid p z (told x) from lines later before after) becomes
      (record {
        stands = outside_stands (subst (λ (z : PortState). IsAsPlanned x z) (sym becomes) plan);
        adds = adds;
      }))

-- ---- a device shows that a port has a link

leaves_linked : (k : ℕ) → LeavesWays (linked_at k)
leaves_linked k = record {
  kind = λ device. refl;
  ports = λ device. refl;
  next = λ device packet. refl;
}

pub joined_stands : {from : Seen} {lines : List TraceLine} {fabric : Fabric} {p : PortRef}
    {place : ℕ} (device next : Registers) → PortIsFree fabric p → Stands from lines fabric
    → place ≡ p.node → device ≡ get_or fabric.devices.items place device
    → next ≡ linked_at p.port device
    → OutsideJoined p from lines (with_registers fabric place next)
joined_stands {from} {lines} {fabric} {p} {place} device next free stands here read becomes =
    let s = seen from lines in
    let within : place < length fabric.devices.items =
    subst (λ n. n < length fabric.devices.items) (sym here) (free_node free) in
    let there : slice_get fabric.devices.items p.node ≡ Some device =
    ap (slice_get fabric.devices.items) (sym here)
    ∙ slice_get-get_or fabric.devices.items place device within ∙ ap Some (sym read) in
    stands_changed from lines fabric p.node place (linked_at p.port) device next stands
    (ap (λ (l : List Registers). slice_get l p.node) stands.shows.registers ∙ there) here becomes
    (record {
      kind = ap (λ (d : Registers). d.kind) becomes;
      ports = ap (λ (d : Registers). d.ports) becomes;
    })
    (links_within device (with_link device.linked p.port))
    (still_rests (linked_at p.port) (leaves_linked p.port) s.network p.node)
