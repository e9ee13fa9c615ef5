-- Asks of one fabric that differ in noise.
use Rattle.std.specs.Prelude.{◌≡◌, ℕ, List, Option}
use Rattle.maint_packets.specs.declared.request.Request.{Request}
use Rattle.maint_packets.specs.declared.response.Response.{Response}
use Rattle.rio_chars.specs.declared.edit.Edit.{Edit}
use Rattle.fabric_trace.specs.Known.{Seen}
use Rattle.trace_lines.specs.Lines.{TraceLine}
use Rattle.fabric_ports.specs.Asking.{CanAsk, Replied, Lost}
use Rattle.fabric_ports.specs.declared.fabric.Fabric.{Fabric}

-- A host asks a fabric while wires meet the edits of a noise. It gets this response, and leaves
-- this fabric.
pub record GetsResponse (noise : List Edit) (host : ℕ) (request : Request) (old new : Fabric)
    (response : Response) : Type 0 where
  pub from : Seen
  pub lines : List TraceLine
  pub can : CanAsk host from lines old
  pub names : List (List ℕ)
  pub before : Option (List ℕ)
  pub after : Option (List ℕ)
  pub left : List Edit
  pub replied : Replied names before after host request noise left from lines new response

-- It gets none, though every event that was acted on was sent.
pub record GetsNone (noise : List Edit) (host : ℕ) (request : Request) (old : Fabric) : Type 0
  where
    pub from : Seen
    pub lines : List TraceLine
    pub can : CanAsk host from lines old
    pub names : List (List ℕ)
    pub before : Option (List ℕ)
    pub after : Option (List ℕ)
    pub lost : Lost names before after host request noise from lines

-- two responses to one request are the same, and so are the registers that both asks leave
abbrev pub ResponsesAreOne : Type 0
ResponsesAreOne = (noise noise2 : List Edit) (host : ℕ) (request : Request)
    (old new new2 : Fabric) (response response2 : Response)
    → GetsResponse noise host request old new response
    → GetsResponse noise2 host request old new2 response2
    → (response ≡ response2) × (new.devices.items ≡ new2.devices.items)

-- no request gets a response with one noise and none with another
abbrev pub ResponsesStay : Type 0
ResponsesStay = (noise noise2 : List Edit) (host : ℕ) (request : Request) (old new : Fabric)
    (response : Response) → GetsResponse noise host request old new response
    → ¬ GetsNone noise2 host request old
