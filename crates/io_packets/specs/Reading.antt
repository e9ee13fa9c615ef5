-- The read, write or response that a packet carries (RapidIO Interconnect Specification 1.3, Part
-- 1, request and response packet formats; the sizes, and that a request of another size is a bad
-- one, are this project's profile).
use Rattle.std.specs.Prelude.{ℕ, ◌+◌, ◌-◌, ◌==◌, ◌&&◌, Bool, false, nat_le, List, length, slice_index, Option, Some, None, if◌then◌else◌}
use Rattle.rio_packets.specs.Fields.{tt_of, ftype_of}
use Rattle.rio_packets.specs.Words.{word_at, is_status}
use Rattle.io_packets.specs.declared.io.Io.{Io}
use Rattle.io_packets.specs.declared.io.Io.TheVariants.{NRead, NWrite, NWriteR, SWrite, Reply, BadRead, BadWriteR, BadWrite, Other}
use Rattle.io_packets.specs.Layout.{io_low_half_of, io_tid_of, addr_in, extension_in, size_of, between, high_half_of}
use Rattle.io_packets.specs.Forms.{is_size, is_stream_size}

-- ---- ftype 2: NREAD has transaction type 4, and 12 bytes

abbrev pub read_or_bad : List ℕ → Option ℕ → Io
read_or_bad bytes (Some size) = NRead (io_tid_of bytes) (addr_in (word_at bytes 6)) size
read_or_bad bytes None = BadRead (io_tid_of bytes)

abbrev pub read_of : List ℕ → Io
read_of bytes =
    if (high_half_of bytes == 4) && (length bytes == 12)
    then read_or_bad bytes (size_of bytes) else Other

-- ---- ftype 5: NWRITE has transaction type 4 and NWRITE_R 5, and 12 bytes and its data

-- the link form has just the data that the size says
abbrev pub has_data : List ℕ → Option ℕ → Bool
has_data bytes (Some size) = length bytes == 12 + size
has_data bytes None = false

abbrev pub write_of : List ℕ → Io
write_of bytes =
    if has_data bytes (size_of bytes)
    then NWrite (addr_in (word_at bytes 6)) (between bytes 10 2) else BadWrite

abbrev pub write_with_response_of : List ℕ → Io
write_with_response_of bytes =
    if has_data bytes (size_of bytes)
    then NWriteR (io_tid_of bytes) (addr_in (word_at bytes 6)) (between bytes 10 2)
    else BadWriteR (io_tid_of bytes)

abbrev pub any_write_of : List ℕ → Io
any_write_of bytes =
    if nat_le 12 (length bytes)
    then (if high_half_of bytes == 4 then write_of bytes
    else (if high_half_of bytes == 5 then write_with_response_of bytes else Other))
    else Other

-- ---- ftype 6: SWRITE has 12 bytes and its data, of which the last two are the pad

abbrev pub has_pad : List ℕ → Bool
has_pad bytes =
    (slice_index bytes (length bytes - 2) == 0) && (slice_index bytes (length bytes - 1) == 0)

abbrev pub is_stream : List ℕ → Bool
is_stream bytes =
    is_stream_size (length bytes - 12)
    && ((extension_in (word_at bytes 4) == 0) && has_pad bytes)

abbrev pub streaming_write_of : List ℕ → Io
streaming_write_of bytes =
    if is_stream bytes
    then SWrite (addr_in (word_at bytes 4)) (between bytes 8 4) else BadWrite

-- ---- ftype 13: a response has transaction type 0, or 8 with data, and 8 bytes and its data

abbrev pub is_plain_reply : List ℕ → Bool
is_plain_reply bytes =
    (high_half_of bytes == 0) && (is_status (io_low_half_of bytes) && (length bytes == 8))

abbrev pub is_reply_with_data : List ℕ → Bool
is_reply_with_data bytes =
    (high_half_of bytes == 8) && ((io_low_half_of bytes == 0) && is_size (length bytes - 8))

abbrev pub io_response_of : List ℕ → Io
io_response_of bytes =
    if is_plain_reply bytes then Reply (io_low_half_of bytes) (io_tid_of bytes) None
    else (if is_reply_with_data bytes
    then Reply 0 (io_tid_of bytes) (Some (between bytes 6 2)) else Other)

-- ---- by the format type

abbrev pub io_of_type : ℕ → List ℕ → Io
io_of_type ftype bytes =
    if ftype == 2 then read_of bytes
    else (if ftype == 5 then any_write_of bytes
    else (if ftype == 6 then streaming_write_of bytes
    else (if ftype == 13 then io_response_of bytes else Other)))

-- what a packet carries; with IDs of another width than eight bits it carries nothing that is known
-- here
abbrev pub io_of : List ℕ → Io
io_of bytes = if tt_of bytes == 0 then io_of_type (ftype_of bytes) bytes else Other
