-- Where the packet of an ask is behind it.
use Rattle.std.specs.Prelude.{◌≡◌, ℕ, ◌<◌, List, ◌++◌, None, Some}
use Rattle.rio_packets.specs.LinkForm.{LinkForm}
use Rattle.maint_packets.specs.Requests.{request_of, request_body}
use Rattle.maint_packets.specs.declared.request.Request.{Request}
use Rattle.rio_chars.specs.declared.edit.Edit.{Edit}
use Rattle.fabric_script.specs.declared.ports.PortRef.{PortRef}
use Rattle.fabric_model.specs.Network.{Item, port_of, peer_in}
use Rattle.trace_lines.specs.Lines.{TraceLine}
use Rattle.fabric_trace.specs.Fold.{seen}
use Rattle.fabric_trace.specs.Known.{Seen}
use Rattle.fabric_trace.specs.Ready.{IsReady}
use Rattle.fabric_trace.specs.Served.{IsCollect}
use Rattle.fabric_ask.specs.Asks.{IsAsk}
use Rattle.fabric_ask.specs.Course.{IsLaid}
use Rattle.fabric_ask.specs.Only.{Held, Waits, IsOnly, IsClear}

-- No packet is in the network. One waits at a port without a link, and no other is there. One came
-- to the host, which collected in the last lines.
pub data AskEnded (host : ℕ) (s : Seen) (lines : List TraceLine) : Type 0 where
  IsGone : IsClear (seen s lines).network → AskEnded host s lines
  WaitsThere : (p : PortRef) (item : Item) → IsOnly (seen s lines).network (Waits p) item
      → peer_in s.network.links p ≡ None → AskEnded host s lines
  CameHome : (front rest : List TraceLine) (item : Item) → lines ≡ front ++ rest
      → IsOnly (seen s front).network (Held (port_of host)) item
      → IsCollect (seen s front).network host rest → AskEnded host s lines

-- So each ask ends, if every event that was acted on was sent.
abbrev pub AsksEndSomewhere : Type 0
AsksEndSomewhere = (host : ℕ) (request : Request) (noise : List Edit) (s : Seen)
    (lines : List TraceLine) → IsReady s → s.undetected ≡ None → IsClear s.network
    → IsLaid s.network.registers s.network.links host → request.hop < 256
    → ((packet : List ℕ) → LinkForm (request_body request) packet
    → request_of packet ≡ Some request)
    → IsAsk host request noise s lines → (seen s lines).undetected ≡ None
    → AskEnded host s lines
