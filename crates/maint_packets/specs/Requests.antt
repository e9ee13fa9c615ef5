-- Maintenance requests, and the packets that carry them (RapidIO Interconnect Specification 1.3,
-- Part 1, maintenance packets; that only four bytes at a time are read or written is this project's
-- profile).
use Rattle.std.specs.Prelude.{ℕ, ◌+◌, ◌/◌, ◌%◌, ◌==◌, ◌&&◌, Bool, List, length, slice_index, Option, Some, None, unwrap_or, if◌then◌else◌}
use Rattle.rio_packets.specs.Hops.{message_ended, is_large}
use Rattle.rio_packets.specs.Fields.{prio_of, dest_of, source_of, ids_end, hop_place, ttype_of, is_request, body_of}
use Rattle.rio_packets.specs.Words.{word_at}
use Rattle.maint_packets.specs.declared.request.Op.{Op}
use Rattle.maint_packets.specs.declared.request.Op.TheVariants.{Read, Write, BadRead, BadWrite}
use Rattle.maint_packets.specs.declared.request.Request.{Request}
use Rattle.maint_packets.specs.Layout.{offset_of, tid_of, low_half_of, short_length, long_length, behind_ids}

-- A double-word has two words. Bit 2 of the offset, wdptr, names the second.
abbrev pub names_second : ℕ → Bool
names_second offset = offset / 4 % 2 == 1

-- two words: the one that the offset names is the value, and the other 0
abbrev pub in_half : ℕ → ℕ → ℕ × ℕ
in_half offset value = if names_second offset then (0, value) else (value, 0)

-- the word of the data that the offset names
abbrev pub value_in : List ℕ → ℕ
value_in bytes = word_at bytes (ids_end bytes + (if names_second (offset_of bytes) then 10 else 6))

-- the size is that of four bytes, and the link form has so many bytes
abbrev pub has_form : List ℕ → ℕ → Bool
has_form bytes long = (low_half_of bytes == 8) && (length bytes == long)

-- what a request asks for: without data if it reads, with two words if it writes
abbrev pub op_of : List ℕ → Op
op_of bytes =
    if ttype_of bytes == 0
    then (if has_form bytes (short_length (is_large bytes)) then Read else BadRead)
    else (if has_form bytes (long_length (is_large bytes)) then Write (value_in bytes)
    else BadWrite)

-- a request with the fields of a packet
abbrev pub request_in : List ℕ → Request
request_in bytes = record {
  prio = prio_of bytes;
  dest = unwrap_or (dest_of bytes) 0;
  source = unwrap_or (source_of bytes) 0;
  large = is_large bytes;
  op = op_of bytes;
  tid = tid_of bytes;
  hop = slice_index bytes (hop_place bytes);
  offset = offset_of bytes;
}

-- the request that a packet carries, if it is a maintenance packet of transaction type 0 or 1
abbrev pub request_of : List ℕ → Option Request
request_of bytes = if is_request bytes then Some (request_in bytes) else None

-- it asks to read or to write
abbrev pub IsGoodOp : Op → Type 0
IsGoodOp Read = Unit {0}
IsGoodOp (Write value) = Unit {0}
IsGoodOp BadRead = ⊥
IsGoodOp BadWrite = ⊥

-- what stands behind the IDs of a request
abbrev pub op_bytes : Request → Op → List ℕ
op_bytes request (Write value) =
    behind_ids 1 8 request.tid request.hop request.offset (Some (in_half request.offset value))
op_bytes request _ = behind_ids 0 8 request.tid request.hop request.offset None

-- the body of the packet that carries a request
abbrev pub request_body : Request → List ℕ
request_body request =
    body_of request.prio 8 request.large request.dest request.source (op_bytes request request.op)

-- the packet that carries a request
abbrev pub request_bytes : Request → List ℕ
request_bytes request = message_ended request.large (request_body request)
