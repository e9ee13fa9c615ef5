-- What a round makes of the one packet.
use Rattle.std.specs.Prelude.{◌≡◌, ◌≢◌, ℕ, ◌<◌, false, List, Some, None, slice_get, option_map}
use Rattle.rio_packets.specs.Fields.{is_request}
use Rattle.maint_registers.specs.Devices.{Registers, is_switch}
use Rattle.maint_packets.specs.declared.next_hop.Next.TheVariants.{Nowhere, Port}
use Rattle.maint_packets.specs.Requests.{request_of}
use Rattle.fabric_script.specs.declared.ports.PortRef.{PortRef}
use Rattle.fabric_script.specs.Ports.{port_at}
use Rattle.fabric_model.specs.Network.{Item, Network, port_of, with_device, peer_in, IsEndpoint}
use Rattle.fabric_model.specs.Serving.{next_at, response_at, device_after}
use Rattle.fabric_model.specs.Steps.{IsForRegisters, moved_item, item_of}
use Rattle.fabric_ask.specs.Only.{Held, Waits, IsOnly, IsClear, IsSame}

-- it is a port of a device
pub record IsDevicePort (registers : List Registers) (q : PortRef) : Type 0 where
  pub device : Registers
  pub stands : slice_get registers q.node ≡ Some device
  pub below : q.port < device.ports

-- the registers with those of the device that has answered
abbrev pub answered_registers : Network → PortRef → List ℕ → List Registers
answered_registers net q packet = with_device net.registers q.node
    (device_after q.port (request_of packet))

-- What becomes of a packet that a port has received: a switch moves it on, or drops it; registers
-- answer it; or it leaves.
pub data HandledAs (net : Network) (q : PortRef) (item : Item) (end : Network) : Type 0 where
  Moves : (to : ℕ) → next_at net q.node item.now ≡ Some (Port to)
      → IsOnly end (Waits (port_at q.node to)) (moved_item item) → end.registers ≡ net.registers
      → HandledAs net q item end
  Falls : next_at net q.node item.now ≡ Some Nowhere → IsClear end → end.registers ≡ net.registers
      → HandledAs net q item end
  IsHeard : (response : List ℕ) → IsForRegisters net q item.now
      → response_at net q item.now ≡ Some response
      → IsOnly end (Waits q) (item_of net q response)
      → end.registers ≡ answered_registers net q item.now → HandledAs net q item end
  GoesOut : IsEndpoint net q.node → is_request item.now ≡ false → IsClear end
      → end.registers ≡ net.registers → HandledAs net q item end

-- a node is an endpoint
abbrev pub IsEndpointIn : List Registers → ℕ → Type 0
IsEndpointIn registers n = option_map is_switch (slice_get registers n) ≡ Some false

-- Links join ports of devices, at an endpoint its one port. The host is an endpoint.
pub record IsLaid (registers : List Registers) (links : List (PortRef × PortRef))
    (host : ℕ) : Type 0
  where
    pub ports : (q p : PortRef) → peer_in links q ≡ Some p → IsDevicePort registers q
    pub ends : (q p : PortRef) → peer_in links q ≡ Some p → IsEndpointIn registers q.node
        → q ≡ port_of q.node
    pub host_is : IsEndpointIn registers host

-- what becomes of it behind the links: at the host nothing
pub data Handled (host : ℕ) (net : Network) (q : PortRef) (item : Item) (end : Network) : Type 0
  where
    Home : q.node ≡ host → end ≡ net → Handled host net q item end
    Away : q.node ≢ host → HandledAs net q item end → Handled host net q item end

-- What a round makes of a packet that waits at a port: nothing if the port has no link; else the
-- other end of the link receives it, and something becomes of it there.
pub data Rounded (host : ℕ) (net : Network) (p : PortRef) (item : Item) (end : Network) : Type 0
  where
    Waited : peer_in net.links p ≡ None → end ≡ net → Rounded host net p item end
    Handed : (q : PortRef) (mid : Network) → peer_in net.links q ≡ Some p → IsOnly mid (Held q) item
        → IsSame net mid → mid.links ≡ net.links → Handled host mid q item end
        → Rounded host net p item end

-- What becomes of it at the end of its way, with so many hops left.
pub data Final (net : Network) (q : PortRef) (item : Item) (hops : ℕ) (end : Network) : Type 0 where
  Fell : hops ≡ 0 → next_at net q.node item.now ≡ Some Nowhere → IsClear end
      → end.registers ≡ net.registers → Final net q item hops end
  WasHeard : (response : List ℕ) → response_at net q item.now ≡ Some response
      → IsOnly end (Waits q) (item_of net q response)
      → end.registers ≡ answered_registers net q item.now → Final net q item hops end
  HasLeft : IsEndpoint net q.node → is_request item.now ≡ false → IsClear end
      → end.registers ≡ net.registers → Final net q item hops end

pub data FinalAt (host : ℕ) (net : Network) (q : PortRef) (item : Item) (hops : ℕ)
    (end : Network) : Type 0 where
  AtHost : q.node ≡ host → IsOnly end (Held q) item → end.registers ≡ net.registers
      → FinalAt host net q item hops end
  NotHost : q.node ≢ host → Final net q item hops end → FinalAt host net q item hops end
