-- The link that a port has.
use Rattle.std.proofs.Common.{◌≡◌, ◌≢◌, ℕ, suc, ◌<◌, Bool, true, false, List, [], ◌∷◌, map, length, Option, Some, IsSome, slice_get, slice_index_or, option_map, refl, sym, ap, ◌∙◌, subst, if◌then◌else◌}
use Rattle.std.proofs.lemmas.Option.{same_Some, slice_get-map, slice_get_within, slice_get-get_or, get_or_from_slice_get}
use Rattle.link_port.specs.Ports.{PortState}
use Rattle.link_machine.specs.States.{link}
use Rattle.link_watch.specs.declared.side.Side.{Side}
use Rattle.link_watch.specs.declared.side.Side.TheVariants.{A, B}
use Rattle.fabric_script.specs.declared.ports.PortRef.{PortRef}
use Rattle.trace_lines.specs.Notes.{port_at_side}
use Rattle.fabric_model.specs.Network.{same_port, link_in, peer_in}
use Rattle.fabric_model.specs.Laws.Proper.{AreProper}
use Rattle.fabric_model.proofs.Peers.{port_is}
use Rattle.fabric_ports.specs.Ends.{PortIsLinked, side_in, IsEndOf, IsPlaceOf}
use Rattle.fabric_ports.specs.Places.{IsPortOf, place_of}
use Rattle.fabric_ports.specs.Showing.{ends_of, ShowsCable, ShowsFabric}
use Rattle.fabric_ports.specs.Standing.{Stands}
use Rattle.fabric_ports.specs.declared.ends.LinkPlace.{LinkPlace}
use Rattle.fabric_ports.specs.declared.fabric.Cable.{Cable}
use Rattle.fabric_ports.specs.declared.fabric.Fabric.{Fabric}
use Rattle.fabric_ports.proofs.Cables.{own_apart}
use Rattle.fabric_ports.proofs.PlaceLaws.{places_apart}
use Rattle.fabric_trace.proofs.Shown.Wiring.{seen_links}
use Rattle.fabric_trace.specs.Fold.{seen}
use Rattle.fabric_trace.specs.Known.{Seen, port_seen, link_at}
use Rattle.trace_lines.specs.Lines.{TraceLine}

link_first : (a b : Bool) (ends : PortRef × PortRef) (later : Option (PortRef × PortRef)) → a ≡ true
    → (if a then Some ends else (if b then Some ends else later)) ≡ Some ends
link_first a b ends later is = ap (λ x. if x then Some ends else (if b then Some ends else later))
    is

link_second : (a b : Bool) (ends : PortRef × PortRef) (later : Option (PortRef × PortRef))
    → b ≡ true → (if a then Some ends else (if b then Some ends else later)) ≡ Some ends
link_second true b ends later is = refl
link_second false b ends later is = ap (λ x. if x then Some ends else later) is

-- the link that a port has, and where it stands
pub record HasCable (cables : List Cable) (port : PortRef) : Type 0 where
  pub place : ℕ
  pub cable : Cable
  pub at : slice_get cables place ≡ Some cable
  pub found : link_in (map ends_of cables) port ≡ Some (ends_of cable)
  pub end : port ≡ port_at_side cable.a cable.b (side_in cable.a port)

has_cable : (cables : List Cable) (port : PortRef) → IsSome (peer_in (map ends_of cables) port)
    → HasCable cables port
has_cable [] port is = absurd cc
has_cable (c ∷ cables) port is =
    by_ends (same_port c.a port) (same_port c.b port) refl refl is
    (λ later. has_cable cables port later)
  where
    first : same_port c.a port ≡ true → HasCable (c ∷ cables) port
    first same = record {
      place = 0;
      cable = c;
      at = refl;
      found = link_first (same_port c.a port) (same_port c.b port) (ends_of c)
          (link_in (map ends_of cables) port) same;
      end = sym (port_is c.a port same)
          ∙ ap (λ x. port_at_side c.a c.b (if x then A else B)) (sym same);
    }

    second : same_port c.a port ≡ false → same_port c.b port ≡ true → HasCable (c ∷ cables) port
    second other same = record {
      place = 0;
      cable = c;
      at = refl;
      found = link_second (same_port c.a port) (same_port c.b port) (ends_of c)
          (link_in (map ends_of cables) port) same;
      end = sym (port_is c.b port same)
          ∙ ap (λ x. port_at_side c.a c.b (if x then A else B)) (sym other);
    }

    behind : same_port c.a port ≡ false → same_port c.b port ≡ false → HasCable cables port
        → HasCable (c ∷ cables) port
    behind apart_a apart_b own = record {
      place = suc own.place;
      cable = own.cable;
      at = own.at;
      found = ap (λ x. if x then Some (ends_of c) else (if same_port c.b port then Some (ends_of c)
          else link_in (map ends_of cables) port)) apart_a
          ∙ ap (λ x. if x then Some (ends_of c) else link_in (map ends_of cables) port) apart_b
          ∙ own.found;
      end = own.end;
    }

    by_ends : (a b : Bool) → same_port c.a port ≡ a → same_port c.b port ≡ b
        → IsSome (if a then Some c.b else
        (if b then Some c.a else peer_in (map ends_of cables) port))
        → (IsSome (peer_in (map ends_of cables) port) → HasCable cables port)
        → HasCable (c ∷ cables) port
    by_ends true b is_a is_b some later = first is_a
    by_ends false true is_a is_b some later = second is_a is_b
    by_ends false false is_a is_b some later = behind is_a is_b (later some)

-- ---- a fabric that stands for some lines

pub links_stand : {from : Seen} {lines : List TraceLine} {fabric : Fabric}
    → Stands from lines fabric → map ends_of fabric.cables.items ≡ from.network.links
links_stand {from} {lines} {fabric} stands = stands.shows.links ∙ seen_links from lines

-- a port with a link has one of the fabric
pub cable_of : {fabric : Fabric} {port : PortRef} → PortIsLinked fabric port
    → HasCable fabric.cables.items port
cable_of {fabric = fabric} {port = port} is =
    has_cable fabric.cables.items port
    (subst (λ (l : List (PortRef × PortRef)). IsSome (peer_in l port)) (sym (links_stand is.stands))
    is.linked)

-- what a fabric shows of one of its links
pub cable_shown : {from : Seen} {lines : List TraceLine} {fabric : Fabric} (k : ℕ) (cable : Cable)
    → Stands from lines fabric → slice_get fabric.cables.items k ≡ Some cable
    → ShowsCable fabric.devices.items (seen from lines) cable
cable_shown {from} {lines} {fabric} k cable stands at =
    subst (ShowsCable fabric.devices.items (seen from lines))
    (get_or_from_slice_get fabric.cables.items k cable cable at)
    (stands.shows.cables k cable (slice_get_within fabric.cables.items k cable at))

pub links_proper : {from : Seen} {lines : List TraceLine} {fabric : Fabric}
    → Stands from lines fabric → AreProper (map ends_of fabric.cables.items)
links_proper stands = subst AreProper (sym (links_stand stands)) stands.ready.proper

-- its ports have two places
pub ends_apart : {from : Seen} {lines : List TraceLine} {fabric : Fabric} (k : ℕ) (cable : Cable)
    → Stands from lines fabric → slice_get fabric.cables.items k ≡ Some cable
    → place_of fabric.firsts.items cable.a ≢ place_of fabric.firsts.items cable.b
ends_apart {from} {lines} {fabric} k cable stands at =
    let shown = cable_shown k cable stands at in
    places_apart fabric.devices.items fabric.firsts.items cable.a cable.b stands.shows.firsts
    shown.port_a shown.port_b (own_apart fabric.cables.items k cable (links_proper stands) at)

-- the link at a place, by the two ports that were read at its ends, is the one that is known
pub link_there : {fabric : Fabric} {s : Seen} (k : ℕ) (cable : Cable) {i j : ℕ} {x y : PortState}
    → ShowsFabric fabric s → k < length fabric.cables.items
    → cable ≡ slice_index_or fabric.cables.items k cable
    → i ≡ place_of fabric.firsts.items cable.a → j ≡ place_of fabric.firsts.items cable.b
    → x ≡ slice_index_or fabric.ports.items i x → y ≡ slice_index_or fabric.ports.items j y
    → (a b : PortRef) → slice_get (map ends_of fabric.cables.items) k ≡ Some (a, b)
    → link cable.link x y ≡ link_at s a b
link_there {fabric = fabric} {s = s} k cable {x = x} {y = y} shows within is first second value
    other a b ends =
    let at : slice_get fabric.cables.items k ≡ Some cable =
    slice_get-get_or fabric.cables.items k cable within ∙ ap Some (sym is) in
    let shown = subst (ShowsCable fabric.devices.items s)
    (get_or_from_slice_get fabric.cables.items k cable cable at) (shows.cables k cable within) in
    let own : x ≡ port_seen s cable.a =
    value ∙ ap (λ n. slice_index_or fabric.ports.items n x) first
    ∙ get_or_from_slice_get fabric.ports.items (place_of fabric.firsts.items cable.a)
    (port_seen s cable.a) x (shows.ports cable.a shown.port_a) in
    let far : y ≡ port_seen s cable.b =
    other ∙ ap (λ n. slice_index_or fabric.ports.items n y) second
    ∙ get_or_from_slice_get fabric.ports.items (place_of fabric.firsts.items cable.b)
    (port_seen s cable.b) y (shows.ports cable.b shown.port_b) in
    let same : ends_of cable ≡ (a, b) =
    same_Some (ends_of cable) (a, b)
    (sym (slice_get-map ends_of fabric.cables.items k ∙ ap (option_map ends_of) at) ∙ ends) in
    subst (λ (l : PortRef × PortRef). link cable.link x y ≡ link_at s l.0 l.1) same
    (λ n. link (shown.wires n) (own n) (far n))

-- what holds of both ends of a link holds of one of them
at_side : (P : PortRef → Type 0) (a b : PortRef) (side : Side) → P a → P b
    → P (port_at_side a b side)
at_side P a b A first second = first
at_side P a b B first second = second

-- a port with a link is one of the devices
pub linked_port : {fabric : Fabric} {port : PortRef} → PortIsLinked fabric port
    → IsPortOf fabric.devices.items port
linked_port {fabric = fabric} {port = port} is =
    let own = cable_of is in
    let shown = cable_shown own.place own.cable is.stands own.at in
    subst (IsPortOf fabric.devices.items) (sym own.end)
    (at_side (IsPortOf fabric.devices.items) own.cable.a own.cable.b (side_in own.cable.a port)
    shown.port_a shown.port_b)

-- the number that stands at the place of a port
abbrev IsNumber : Fabric → ℕ → PortRef → Type 0
IsNumber fabric n port =
    slice_get fabric.cable_at.items (place_of fabric.firsts.items port) ≡ Some n

-- it leads to the port's link
pub number_at : {fabric : Fabric} {port : PortRef} (is : PortIsLinked fabric port)
    → slice_get fabric.cable_at.items (place_of fabric.firsts.items port)
    ≡ Some (cable_of is).place
number_at {fabric = fabric} {port = port} is =
    let own = cable_of is in
    let shows = is.stands.shows in
    let leads = shows.lead own.place (ends_of own.cable)
    (ap (λ (l : List (PortRef × PortRef)). slice_get l own.place) (sym shows.links)
    ∙ slice_get-map ends_of fabric.cables.items own.place ∙ ap (option_map ends_of) own.at) in
    subst (IsNumber fabric own.place) (sym own.end)
    (at_side (IsNumber fabric own.place) own.cable.a own.cable.b (side_in own.cable.a port) leads.0
    leads.1)

-- the number that was read there
pub number_is : {fabric : Fabric} {port : PortRef} (is : PortIsLinked fabric port) {place n : ℕ}
    → place ≡ place_of fabric.firsts.items port → n ≡ slice_index_or fabric.cable_at.items place n
    → n ≡ (cable_of is).place
number_is {fabric = fabric} {port = port} is {n = n} stands read =
    read ∙ ap (λ i. slice_index_or fabric.cable_at.items i n) stands
    ∙ get_or_from_slice_get fabric.cable_at.items (place_of fabric.firsts.items port)
    (cable_of is).place n (number_at is)

-- the link that stands there, and the end of it
pub cable_read : {fabric : Fabric} {port : PortRef} (is : PortIsLinked fabric port) {n : ℕ}
    {cable : Cable} → n ≡ (cable_of is).place
    → cable ≡ slice_index_or fabric.cables.items n cable → cable ≡ (cable_of is).cable
cable_read {fabric = fabric} is {n = n} {cable = cable} number read =
    let own = cable_of is in
    read ∙ get_or_from_slice_get fabric.cables.items n own.cable cable
    (ap (slice_get fabric.cables.items) number ∙ own.at)

pub end_read : {fabric : Fabric} {port : PortRef} (is : PortIsLinked fabric port) {n : ℕ}
    {cable : Cable} {side : Side} → n ≡ (cable_of is).place
    → cable ≡ slice_index_or fabric.cables.items n cable → side ≡ side_in cable.a port
    → IsEndOf fabric.cables.items port n side
end_read {fabric = fabric} {port = port} is {cable = cable} number read told =
    let own = cable_of is in
    let same = cable_read is number read in
    record {
      cable = own.cable;
      at = ap (slice_get fabric.cables.items) number ∙ own.at;
      found = own.found;
      end = own.end ∙ ap (port_at_side own.cable.a own.cable.b)
          (sym (told ∙ ap (λ (c : Cable). side_in c.a port) same));
    }

-- the link at that place
pub cable_is : (cables : List Cable) (port : PortRef) (k : ℕ) (side : Side)
    (e : IsEndOf cables port k side) (cable : Cable) → cable ≡ slice_index_or cables k cable
    → cable ≡ e.cable
cable_is cables port k side e cable is = is ∙ get_or_from_slice_get cables k e.cable cable e.at

pub places_found : {fabric : Fabric} {port : PortRef} (place : LinkPlace) {cable : Cable}
    → PortIsLinked fabric port → IsEndOf fabric.cables.items port place.cable place.side
    → cable ≡ slice_index_or fabric.cables.items place.cable cable
    → place.a ≡ place_of fabric.firsts.items cable.a
    → place.b ≡ place_of fabric.firsts.items cable.b
    → place.a < length fabric.ports.items → place.b < length fabric.ports.items
    → IsPlaceOf fabric port place
places_found {fabric = fabric} {port = port} place {cable = cable} linked e is first second
    first_within
    second_within =
    let same = cable_is fabric.cables.items port place.cable place.side e cable is in
    let at_a = first ∙ ap (λ (c : Cable). place_of fabric.firsts.items c.a) same in
    let at_b = second ∙ ap (λ (c : Cable). place_of fabric.firsts.items c.b) same in
    record {
      is = e;
      first = at_a;
      second = at_b;
      first_within = first_within;
      second_within = second_within;
      apart = λ one. ends_apart place.cable e.cable linked.stands e.at (sym at_a ∙ one ∙ at_b);
    }
