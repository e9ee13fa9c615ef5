-- What registers answer is a packet in its link form.
use Rattle.std.specs.Prelude.{◌≡◌, ℕ, ◌<◌, List, Some}
use Rattle.rio_packets.specs.LinkForm.{Passes}
use Rattle.maint_registers.specs.Devices.{Registers, IsSameDevice}
use Rattle.maint_registers.specs.Within.{IsWithin}
use Rattle.maint_packets.specs.declared.request.Request.{Request}
use Rattle.maint_packets.specs.Requests.{request_of}
use Rattle.maint_packets.specs.Responses.{response_bytes}
use Rattle.maint_packets.specs.Answers.{request_answered}

-- the response to a request that came to a port
abbrev pub ResponsesPass : Type 0
ResponsesPass = (device : Registers) (packet : List ℕ) (request : Request) (port : ℕ)
    → IsWithin device → port < 0x100 → Passes packet → request_of packet ≡ Some request
    → Passes (response_bytes (request_answered device request port).response)

-- a device after it
abbrev pub AnsweredStaysWithin : Type 0
AnsweredStaysWithin = (device : Registers) (packet : List ℕ) (request : Request) (port : ℕ)
    → IsWithin device → Passes packet → request_of packet ≡ Some request
    → IsWithin (request_answered device request port).device

-- It is the same device after it, of its kind, with its ports and its links.
abbrev pub AnsweredIsSame : Type 0
AnsweredIsSame = (device : Registers) (request : Request) (port : ℕ)
    → IsSameDevice device (request_answered device request port).device
