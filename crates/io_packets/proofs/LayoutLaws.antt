-- The fields of a packet of a request are what it was built of.
use Rattle.std.proofs.Common.{◌≡◌, ℕ, ◌+◌, ◌*◌, ◌<◌, true, Some, List, ◌∷◌, ◌++◌, get_or, ap, ◌∙◌, arith, eq-eqb, false}
use Rattle.rio_packets.specs.LinkForm.{LinkForm}
use Rattle.rio_packets.specs.Fields.{body_of}
use Rattle.rio_packets.specs.Words.{word_at, word_bytes}
use Rattle.rio_packets.proofs.FieldLaws.{get_or-link_form}
use Rattle.io_packets.specs.Layout.{io_low_half_of, io_tid_of, addr_in, wdptr_in, extension_in, size_of, high_half_of}
use Rattle.io_packets.specs.Forms.{is_size, IsAligned}
use Rattle.io_packets.specs.Writing.{code_of, wdptr_of, io_request_head}
use Rattle.io_packets.proofs.SizeLaws.{code_small, wdptr_small, size_named-size}

-- ---- an address word is made of an address and wdptr

addr_in-made : (addr wdptr : ℕ) → IsAligned addr → wdptr < 2 → addr_in (addr + 4 * wdptr) ≡ addr
addr_in-made addr wdptr h k = omega arith

wdptr_in-made : (addr wdptr : ℕ) → IsAligned addr → wdptr < 2
    → wdptr_in (addr + 4 * wdptr) ≡ wdptr
wdptr_in-made addr wdptr h k = omega arith

extension_in-made : (addr wdptr : ℕ) → IsAligned addr → extension_in (addr + 4 * wdptr) ≡ 0
extension_in-made addr wdptr h = omega arith

-- ---- bytes 4 to 9

record Bytes (p : List ℕ) (ttype half tid word : ℕ) : Type 0 where
  kind : high_half_of p ≡ ttype
  low : io_low_half_of p ≡ half
  number : io_tid_of p ≡ tid
  place : word_at p 6 ≡ word

module _ (prio ftype dest source ttype low tid word : ℕ) (load p : List ℕ)
    (form : LinkForm (body_of prio ftype false dest source
    ((16 * ttype + low) ∷ tid ∷ (word_bytes word ++ load))) p) where
  abbrev body : List ℕ
  body = body_of prio ftype false dest source ((16 * ttype + low) ∷ tid ∷ (word_bytes word ++ load))

  byte : (i : ℕ) → i < 10 → get_or p i 0 ≡ get_or body i 0
  byte i h = get_or-link_form body p i form (omega arith) (omega arith)

  bytes-built : low < 16 → Bytes p ttype low tid word
  bytes-built small =
      let four = byte 4 (omega arith) in
      let six = byte 6 (omega arith) in let seven = byte 7 (omega arith) in
      let eight = byte 8 (omega arith) in let nine = byte 9 (omega arith) in
      record {
        kind = omega arith;
        low = omega arith;
        number = byte 5 (omega arith);
        place = omega arith;
      }

-- ---- the fields of a request

pub record Asks (p : List ℕ) (ttype n tid at : ℕ) : Type 0 where
  pub kind : high_half_of p ≡ ttype
  pub number : io_tid_of p ≡ tid
  pub size : size_of p ≡ Some n
  pub addr : addr_in (word_at p 6) ≡ at

-- what a request of a good size asks for, at an address that begins a double-word
pub asks : (prio ftype dest source ttype size tid addr : ℕ) (load p : List ℕ) → IsAligned addr
    → is_size size ≡ true
    → LinkForm (body_of prio ftype false dest source (io_request_head ttype size tid addr ++ load))
    p
    → Asks p ttype size tid addr
asks prio ftype dest source ttype size tid addr load p aligned good form =
    let wdptr = wdptr_of size in
    let small = wdptr_small size good in
    let bytes = bytes-built prio ftype dest source ttype (code_of size) tid (addr + 4 * wdptr)
    load p form (code_small size good) in
    let plain : extension_in (word_at p 6) ≡ 0 =
    ap extension_in bytes.place ∙ extension_in-made addr wdptr aligned in
    let half = ap wdptr_in bytes.place ∙ wdptr_in-made addr wdptr aligned small in
    record {
      kind = bytes.kind;
      number = bytes.number;
      size =
          rw (eq-eqb (extension_in (word_at p 6)) 0 plain, bytes.low, half)
          (size_named-size size good);
      addr = ap addr_in bytes.place ∙ addr_in-made addr wdptr aligned small;
    }
