-- What is read of a packet whose fields are known.
use Rattle.std.proofs.Common.{◌≡◌, ℕ, ◌+◌, ◌-◌, ◌==◌, true, Some, None, List, length, arith, eq-eqb, le-leb}
use Rattle.std.specs.Prelude.{nat_le}
use Rattle.rio_packets.specs.Fields.{tt_of, ftype_of}
use Rattle.rio_packets.specs.Words.{word_at, is_status}
use Rattle.io_packets.specs.declared.io.Io.TheVariants.{NRead, NWrite, NWriteR, SWrite, Reply}
use Rattle.io_packets.specs.Layout.{io_low_half_of, io_tid_of, addr_in, size_of, between, high_half_of}
use Rattle.io_packets.specs.Forms.{is_size}
use Rattle.io_packets.specs.Reading.{is_stream, io_of}

-- an NREAD
pub reads : (p : List ℕ) (tid addr size : ℕ) → tt_of p ≡ 0 → ftype_of p ≡ 2 → high_half_of p ≡ 4
    → length p ≡ 12 → size_of p ≡ Some size → io_tid_of p ≡ tid → addr_in (word_at p 6) ≡ addr
    → io_of p ≡ NRead tid addr size
reads p tid addr size t f y n s a b = rw (t, f, y, n, s) (λ i. NRead (a i) (b i) size)

-- a write of as many bytes as its size says
module _ (p load : List ℕ) (addr : ℕ) (t : tt_of p ≡ 0) (f : ftype_of p ≡ 5)
    (n : length p ≡ 12 + length load) (s : size_of p ≡ Some (length load))
    (a : addr_in (word_at p 6) ≡ addr) (b : between p 10 2 ≡ load) where
  long : nat_le 12 (length p) ≡ true
  long = le-leb 12 (length p) (omega arith)

  whole : (length p == 12 + length load) ≡ true
  whole = eq-eqb (length p) (12 + length load) n

  pub writes : high_half_of p ≡ 4 → io_of p ≡ NWrite addr load
  writes y = rw (t, f, long, y, s, whole) (λ i. NWrite (a i) (b i))

  pub writes_with_response : (tid : ℕ) → high_half_of p ≡ 5 → io_tid_of p ≡ tid
      → io_of p ≡ NWriteR tid addr load
  writes_with_response tid y c = rw (t, f, long, y, s, whole) (λ i. NWriteR (c i) (a i) (b i))

-- an SWRITE
pub streams : (p load : List ℕ) (addr : ℕ) → tt_of p ≡ 0 → ftype_of p ≡ 6 → is_stream p ≡ true
    → addr_in (word_at p 4) ≡ addr → between p 8 4 ≡ load → io_of p ≡ SWrite addr load
streams p load addr t f y a b = rw (t, f, y) (λ i. SWrite (a i) (b i))

-- a response without data
pub replies : (p : List ℕ) (status tid : ℕ) → tt_of p ≡ 0 → ftype_of p ≡ 13 → high_half_of p ≡ 0
    → io_low_half_of p ≡ status → is_status status ≡ true → length p ≡ 8 → io_tid_of p ≡ tid
    → io_of p ≡ Reply status tid None
replies p status tid t f y l good n a = rw (t, f, y, l, good, n) (λ i. Reply status (a i) None)

-- and with data
pub replies_with_data : (p load : List ℕ) (tid : ℕ) → tt_of p ≡ 0 → ftype_of p ≡ 13
    → high_half_of p ≡ 8 → io_low_half_of p ≡ 0 → is_size (length p - 8) ≡ true → io_tid_of p ≡ tid
    → between p 6 2 ≡ load → io_of p ≡ Reply 0 tid (Some load)
replies_with_data p load tid t f y l good a b =
    rw (t, f, y, l, good) (λ i. Reply 0 (a i) (Some (b i)))
