-- Maintenance responses, and the packets that carry them (RapidIO Interconnect Specification 1.3,
-- Part 1, maintenance packets; that a response with an error has no data is this project's
-- profile).
use Rattle.std.specs.Prelude.{◌≡◌, ℕ, ◌+◌, ◌==◌, ◌&&◌, ◌||◌, ◌⊎◌, Bool, true, false, List, length, slice_index, Option, Some, None, unwrap_or, if◌then◌else◌}
use Rattle.rio_packets.specs.Hops.{message_ended, is_large}
use Rattle.rio_packets.specs.Fields.{prio_of, dest_of, source_of, ids_end, hop_place, ttype_of, is_maintenance, body_of}
use Rattle.rio_packets.specs.Words.{is_status, word_at}
use Rattle.maint_packets.specs.declared.response.Response.{Response}
use Rattle.maint_packets.specs.Layout.{tid_of, low_half_of, short_length, long_length, behind_ids}

-- a read that was done, with two words
abbrev pub is_with_data : List ℕ → Bool
is_with_data bytes =
    (ttype_of bytes == 2)
    && ((low_half_of bytes == 0) && (length bytes == long_length (is_large bytes)))

-- a read that failed, or a write that was done or failed
abbrev pub is_without_data : List ℕ → Bool
is_without_data bytes =
    (length bytes == short_length (is_large bytes))
    && (((ttype_of bytes == 2) && (low_half_of bytes == 7))
    || ((ttype_of bytes == 3) && is_status (low_half_of bytes)))

-- the two words of data
abbrev pub data_words : List ℕ → ℕ × ℕ
data_words bytes = (word_at bytes (ids_end bytes + 6), word_at bytes (ids_end bytes + 10))

-- a response with the fields of a packet, and these words
abbrev pub with_words : List ℕ → Option (ℕ × ℕ) → Response
with_words bytes words = record {
  prio = prio_of bytes;
  dest = unwrap_or (dest_of bytes) 0;
  source = unwrap_or (source_of bytes) 0;
  large = is_large bytes;
  write = ttype_of bytes == 3;
  status = low_half_of bytes;
  tid = tid_of bytes;
  hop = slice_index bytes (hop_place bytes);
  words = words;
}

-- the response that a packet carries, if it is a maintenance packet of one of these forms
abbrev pub response_of : List ℕ → Option Response
response_of bytes =
    if is_maintenance bytes
    then (if is_with_data bytes
    then Some (with_words bytes (Some (data_words bytes)))
    else (if is_without_data bytes then Some (with_words bytes None) else None))
    else None

-- one of the forms of a response: a read that is done has words, and no other has
abbrev pub IsResponseForm : Bool → ℕ → Option (ℕ × ℕ) → Type 0
IsResponseForm false status (Some words) = status ≡ 0
IsResponseForm false status None = status ≡ 7
IsResponseForm true status (Some words) = ⊥
IsResponseForm true status None = (status ≡ 0) ⊎ (status ≡ 7)

-- the body of the packet that carries a response
abbrev pub response_body : Response → List ℕ
response_body response =
    body_of response.prio 8 response.large response.dest response.source
    (behind_ids (if response.write then 3 else 2)
    response.status response.tid response.hop 0 response.words)

-- the packet that carries a response
abbrev pub response_bytes : Response → List ℕ
response_bytes response = message_ended response.large (response_body response)
