-- Which link of a fabric a port has.
use Rattle.std.specs.Prelude.{◌≡◌, ◌≢◌, ◌<◌, ℕ, List, length, Some, map, slice_get, if◌then◌else◌}
use Rattle.link_watch.specs.declared.side.Side.{Side}
use Rattle.link_watch.specs.declared.side.Side.TheVariants.{A, B}
use Rattle.fabric_script.specs.declared.ports.PortRef.{PortRef}
use Rattle.fabric_model.specs.Network.{same_port, link_in}
use Rattle.trace_lines.specs.Notes.{port_at_side}
use Rattle.fabric_trace.specs.Events.{HasLink}
use Rattle.fabric_trace.specs.Known.{Seen}
use Rattle.trace_lines.specs.Lines.{TraceLine}
use Rattle.fabric_ports.specs.Places.{place_of}
use Rattle.fabric_ports.specs.Showing.{ends_of}
use Rattle.fabric_ports.specs.Standing.{Stands}
use Rattle.fabric_ports.specs.declared.ends.LinkPlace.{LinkPlace}
use Rattle.fabric_ports.specs.declared.fabric.Cable.{Cable}
use Rattle.fabric_ports.specs.declared.fabric.Fabric.{Fabric}

-- the fabric stands for some lines, and the port has a link
pub record PortIsLinked (fabric : Fabric) (port : PortRef) : Type 0 where
  pub from : Seen
  pub lines : List TraceLine
  pub stands : Stands from lines fabric
  pub linked : HasLink from.network port

-- which end of its link a port is, whose first end is this one
abbrev pub side_in : PortRef → PortRef → Side
side_in a port = if same_port a port then A else B

-- the link of a port stands at this place, and the port is this end of it
pub record IsEndOf (cables : List Cable) (port : PortRef) (place : ℕ) (side : Side) : Type 0 where
  pub cable : Cable
  pub at : slice_get cables place ≡ Some cable
  pub found : link_in (map ends_of cables) port ≡ Some (ends_of cable)
  pub end : port ≡ port_at_side cable.a cable.b side

-- These are the places of a port's link and of the two ports that it joins.
pub record IsPlaceOf (fabric : Fabric) (port : PortRef) (place : LinkPlace) : Type 0 where
  pub is : IsEndOf fabric.cables.items port place.cable place.side
  pub first : place.a ≡ place_of fabric.firsts.items is.cable.a
  pub second : place.b ≡ place_of fabric.firsts.items is.cable.b
  pub first_within : place.a < length fabric.ports.items
  pub second_within : place.b < length fabric.ports.items
  pub apart : place.a ≢ place.b
