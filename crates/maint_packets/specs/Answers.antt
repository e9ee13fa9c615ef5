-- What a device answers to a request, and what becomes of its registers.
use Rattle.std.specs.Prelude.{ℕ, ◌+◌, Bool, true, false, min, Option, None, option_map}
use Rattle.maint_registers.specs.Devices.{Registers}
use Rattle.maint_registers.specs.Access.{Accessed, read_from, write_into, access_status}
use Rattle.maint_packets.specs.declared.request.Op.{Op}
use Rattle.maint_packets.specs.declared.request.Op.TheVariants.{Read, Write, BadRead, BadWrite}
use Rattle.maint_packets.specs.declared.request.Request.{Request}
use Rattle.maint_packets.specs.declared.response.Response.{Response}
use Rattle.maint_packets.specs.Requests.{in_half}

-- a response, and the registers after it
pub record RequestAnswered : Type 0 where
  pub response : Response
  pub device : Registers

-- A response goes back to where the request came from, with IDs of the same size, the next higher
-- priority if there is one and the same transaction number. It starts with the greatest hop count.
abbrev pub back : Request → Bool → ℕ → Option (ℕ × ℕ) → Response
back request write status words = record {
  prio = min (request.prio + 1) 3;
  dest = request.source;
  source = request.dest;
  large = request.large;
  write = write;
  status = status;
  tid = request.tid;
  hop = 255;
  words = words;
}

-- a request to write
abbrev pub is_writing : Op → Bool
is_writing Read = false
is_writing (Write value) = true
is_writing BadRead = false
is_writing BadWrite = true

-- what it comes to at a device, if it came to a port; one that is not of the right form is refused
abbrev pub accessed_by : Registers → ℕ → ℕ → Op → Accessed
accessed_by device offset port Read = read_from device offset port
accessed_by device offset port (Write value) = write_into device offset value
accessed_by device offset port _ = record { value = None; device = device }

-- what was read, in the half that the offset names
abbrev pub words_read : ℕ → Op → Option ℕ → Option (ℕ × ℕ)
words_read offset Read value = option_map (in_half offset) value
words_read offset _ value = None

-- the answer to a request, by what it came to
abbrev pub answered_with : Request → Accessed → RequestAnswered
answered_with request accessed = record {
  response = back request (is_writing request.op) (access_status accessed.value)
      (words_read request.offset request.op accessed.value);
  device = accessed.device;
}

abbrev pub request_answered : Registers → Request → ℕ → RequestAnswered
request_answered device request port =
    answered_with request (accessed_by device request.offset port request.op)
