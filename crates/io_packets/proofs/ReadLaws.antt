-- What is read of bytes is good, as far as it is not bad.
use Rattle.std.proofs.Common.{◌≡◌, ℕ, ◌+◌, ◌-◌, ◌%◌, ◌≤◌, ◌==◌, ◌&&◌, Bool, true, false, Option, Some, None, List, length, drop, refl, subst, arith, if◌then◌else◌, length-drop, length-take, eqb-true, leb-true}
use Rattle.std.specs.Prelude.{nat_le}
use Rattle.std.proofs.lemmas.Bool.{and_parts}
use Rattle.rio_packets.specs.Fields.{tt_of, ftype_of}
use Rattle.rio_packets.specs.Words.{word_at, is_status}
use Rattle.io_packets.specs.declared.io.Io.{Io}
use Rattle.io_packets.specs.declared.io.Io.TheVariants.{NRead, NWrite, NWriteR, SWrite, Reply, BadRead, BadWriteR, BadWrite, Other}
use Rattle.io_packets.specs.Layout.{io_low_half_of, io_tid_of, addr_in, wdptr_in, extension_in, size_named, size_of, between, high_half_of}
use Rattle.io_packets.specs.Forms.{is_size, is_stream_size, IsAligned, CanBeRead, IsSized}
use Rattle.io_packets.specs.Reading.{read_or_bad, read_of, has_data, write_of, write_with_response_of, any_write_of, is_stream, has_pad, streaming_write_of, is_plain_reply, is_reply_with_data, io_response_of, io_of_type, io_of}
use Rattle.io_packets.proofs.SizeLaws.{size_least, named_size}

aligned : (word : ℕ) → IsAligned (addr_in word)
aligned word = omega arith

choose : (b : Bool) (x y : Io) → (b ≡ true → CanBeRead x) → CanBeRead y
    → CanBeRead (if b then x else y)
choose true x y h k = h refl
choose false x y h k = k

size_read : (bytes : List ℕ) (size : ℕ) → size_of bytes ≡ Some size → is_size size ≡ true
size_read bytes size is = by (extension_in (word_at bytes 6) == 0) is
  where
    by : (plain : Bool)
        → (if plain then size_named (io_low_half_of bytes) (wdptr_in (word_at bytes 6)) else None)
        ≡ Some size
        → is_size size ≡ true
    by true e = named_size (io_low_half_of bytes) (wdptr_in (word_at bytes 6)) size e
    by false e = absurd (cc)

length-between : (bytes : List ℕ) (from behind : ℕ) → from + behind ≤ length bytes
    → length (between bytes from behind) ≡ length bytes - (from + behind)
length-between bytes from behind h =
    let taken = length-take (length bytes - behind - from) (drop from bytes) in
    let dropped = length-drop from bytes in
    omega (arith, taken, dropped)

-- ---- by the format type

read_good : (bytes : List ℕ) → CanBeRead (read_of bytes)
read_good bytes =
    choose ((high_half_of bytes == 4) && (length bytes == 12)) (read_or_bad bytes (size_of bytes))
    Other
    (λ _. by (size_of bytes) refl) tt
  where
    by : (o : Option ℕ) → size_of bytes ≡ o → CanBeRead (read_or_bad bytes o)
    by None is = tt
    by (Some size) is = (aligned (word_at bytes 6), size_read bytes size is)

-- the data of a write are as many as its size says
data_size : (bytes : List ℕ) (o : Option ℕ) → size_of bytes ≡ o → has_data bytes o ≡ true
    → is_size (length (between bytes 10 2)) ≡ true
data_size bytes None is has = absurd (cc)
data_size bytes (Some size) is has =
    let whole = eqb-true (length bytes) (12 + size) has in
    let loaded = length-between bytes 10 2 (omega arith) in
    let same : size ≡ length (between bytes 10 2) = omega (arith, loaded, whole) in
    subst (λ n. is_size n ≡ true) same (size_read bytes size is)

pub any_write_good : (bytes : List ℕ) → CanBeRead (any_write_of bytes)
any_write_good bytes =
    choose (nat_le 12 (length bytes)) _ Other
    (λ _. choose (high_half_of bytes == 4) (write_of bytes) _
    (λ _. choose (has_data bytes (size_of bytes)) _ BadWrite good tt)
    (choose (high_half_of bytes == 5) (write_with_response_of bytes) Other
    (λ _. choose (has_data bytes (size_of bytes)) _ (BadWriteR (io_tid_of bytes)) good tt) tt)) tt
  where
    good : has_data bytes (size_of bytes) ≡ true
        → IsAligned (addr_in (word_at bytes 6)) × (is_size (length (between bytes 10 2)) ≡ true)
    good has = (aligned (word_at bytes 6), data_size bytes (size_of bytes) refl has)

pub streaming_write_good : (bytes : List ℕ) → CanBeRead (streaming_write_of bytes)
streaming_write_good bytes = choose (is_stream bytes) _ BadWrite good tt
  where
    good : is_stream bytes ≡ true
        → IsAligned (addr_in (word_at bytes 4))
        × (is_stream_size (length (between bytes 8 4)) ≡ true)
    good is =
        let n = length bytes - 12 in
        let size : is_stream_size n ≡ true =
        (and_parts (is_stream_size n) ((extension_in (word_at bytes 4) == 0) && has_pad bytes) is).0
        in
        let bounds = (and_parts (n % 8 == 0) (nat_le 8 n && nat_le n 64) size).1 in
        let least = leb-true 8 n (and_parts (nat_le 8 n) (nat_le n 64) bounds).0 in
        let loaded = length-between bytes 8 4 (omega arith) in
        let same : n ≡ length (between bytes 8 4) = omega (arith, loaded) in
        (aligned (word_at bytes 4), subst (λ n. is_stream_size n ≡ true) same size)

pub response_good : (bytes : List ℕ) → CanBeRead (io_response_of bytes)
response_good bytes =
    choose (is_plain_reply bytes) _ _
    (λ is. (and_parts (is_status (io_low_half_of bytes)) (length bytes == 8)
    (and_parts (high_half_of bytes == 0) (is_status (io_low_half_of bytes) && (length bytes == 8))
    is).1).0)
    (choose (is_reply_with_data bytes) _ Other (λ is. (refl, good is)) tt)
  where
    good : is_reply_with_data bytes ≡ true → is_size (length (between bytes 6 2)) ≡ true
    good is =
        let n = length bytes - 8 in
        let size = (and_parts (io_low_half_of bytes == 0) (is_size n)
        (and_parts (high_half_of bytes == 8) ((io_low_half_of bytes == 0) && is_size n) is).1).1 in
        let least = size_least n size in
        let loaded = length-between bytes 6 2 (omega arith) in
        let same : n ≡ length (between bytes 6 2) = omega (arith, loaded) in
        subst (λ n. is_size n ≡ true) same size

pub io_good : (bytes : List ℕ) → CanBeRead (io_of bytes)
io_good bytes =
    choose (tt_of bytes == 0) (io_of_type (ftype_of bytes) bytes) Other
    (λ _. by_type (ftype_of bytes)) tt
  where
    by_type : (ftype : ℕ) → CanBeRead (io_of_type ftype bytes)
    by_type ftype =
        choose (ftype == 2) (read_of bytes) _ (λ _. read_good bytes)
        (choose (ftype == 5) (any_write_of bytes) _ (λ _. any_write_good bytes)
        (choose (ftype == 6) (streaming_write_of bytes) _ (λ _. streaming_write_good bytes)
        (choose (ftype == 13) (io_response_of bytes) Other (λ _. response_good bytes) tt)))

-- and if it is a read, its size is good
pub sized-from_read : (io : Io) → CanBeRead io → IsSized io
sized-from_read (NRead tid addr size) good = good.1
sized-from_read (NWrite addr load) good = tt
sized-from_read (NWriteR tid addr load) good = tt
sized-from_read (SWrite addr load) good = tt
sized-from_read (Reply status tid load) good = tt
sized-from_read (BadRead tid) good = tt
sized-from_read (BadWriteR tid) good = tt
sized-from_read BadWrite good = tt
sized-from_read Other good = tt
