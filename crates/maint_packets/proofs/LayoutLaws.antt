-- The fields of a packet of the layout of maintenance packets are what it was built of.
use Rattle.std.proofs.Common.{◌≡◌, ℕ, ◌+◌, ◌-◌, ◌*◌, ◌/◌, ◌%◌, ◌<◌, ◌≤◌, ◌==◌, Bool, true, false, Option, Some, None, unwrap_or, List, [], ◌∷◌, length, get_or, ap, sym, ◌∙◌, refl, arith, eq-eqb, length-append, if◌then◌else◌}
use Rattle.std.proofs.lemmas.List.{get_or-append-add, get_or_append_left}
use Rattle.rio_packets.specs.LinkForm.{LinkForm}
use Rattle.rio_packets.specs.Fields.{prio_of, tt_of, ftype_of, dest_of, source_of, ids_end, hop_place, ttype_of, is_maintenance, is_maintenance_length, types_of, ids_of, body_of}
use Rattle.rio_packets.specs.Hops.{closed, message_ended, is_large}
use Rattle.rio_packets.specs.Words.{word_at}
use Rattle.rio_packets.proofs.FieldLaws.{get_or-link_form}
use Rattle.maint_packets.proofs.FormLaws.{length-closed, above_fours, ended-link_form}
use Rattle.maint_packets.specs.Layout.{offset_of, tid_of, low_half_of, short_length, long_length, behind_ids}

-- ---- what the size of the IDs says

-- the transport type
abbrev type_of : Bool → ℕ
type_of false = 0
type_of true = 1

-- where the IDs end
abbrev end_of : Bool → ℕ
end_of false = 4
end_of true = 6

-- the length of the CRC and the pad
abbrev tail_of : Bool → ℕ
tail_of false = 2
tail_of true = 4

end-most : (large : Bool) → end_of large ≤ 6
end-most false = omega arith
end-most true = omega arith

-- the IDs, the CRC and the pad have six bytes more in one form than in the other, two of them a pad
ends : (large : Bool) → end_of large + 2 ≡ 6 + (tail_of large - 2)
ends false = refl
ends true = refl

fills-up : (large : Bool) (n : ℕ) → n % 4 ≡ 2 → (end_of large + n) % 4 ≡ above_fours large
fills-up false n e = omega (arith, e)
fills-up true n e = omega (arith, e)

short : (large : Bool) → end_of large + 6 + tail_of large ≡ short_length large
short false = refl
short true = refl

long : (large : Bool) → end_of large + 14 + tail_of large ≡ long_length large
long false = refl
long true = refl

-- what stands before the rest of a body
abbrev front : ℕ → Bool → ℕ → ℕ → List ℕ
front prio large dest source = 0 ∷ types_of large prio 8 ∷ ids_of large dest source

length-front : (prio : ℕ) (large : Bool) (dest source : ℕ) → length
    (front prio large dest source) ≡ end_of large
length-front prio false dest source = refl
length-front prio true dest source = refl

length-ended : (large : Bool) (body : List ℕ)
    → length (message_ended large body) ≡ length body + tail_of
    large
length-ended false body = length-closed body
length-ended true body =
    let size = length-closed body in
    let whole = length-append (closed body) (0 ∷ 0 ∷ []) in
    omega (arith, size, whole)

types : (large : Bool) (prio byte : ℕ) → prio < 4 → byte ≡ types_of large prio 8
    → (byte / 64 ≡ prio) × ((byte % 16 ≡ 8) × (byte / 16 % 4 ≡ type_of large))
types false prio byte h e = (omega arith, (omega arith, omega arith))
types true prio byte h e = (omega arith, (omega arith, omega arith))

large-from : (large : Bool) (type : ℕ) → type ≡ type_of large → (type == 1) ≡ large
large-from false type e = rw e refl
large-from true type e = rw e refl

end-from : (large : Bool) (type : ℕ) → type ≡ type_of large →
    (if type == 1 then 6 else 4) ≡ end_of large
end-from false type e = rw e refl
end-from true type e = rw e refl

-- ---- the IDs

-- the bytes of a packet are those of a front
abbrev HasFront : List ℕ → ℕ → Bool → ℕ → ℕ → Type 0
HasFront p prio large dest source =
    (i : ℕ) → i < end_of large → get_or p i 0 ≡ get_or (front prio large dest source) i 0

dest-from : (large : Bool) (p : List ℕ) (prio dest source : ℕ) → tt_of p ≡ type_of large
    → HasFront p prio large dest source → dest_of p ≡ Some dest
dest-from false p prio dest source e byte =
    rw (eq-eqb (tt_of p) 0 e) (ap (λ n. Some n) (byte 2 (omega arith)))
dest-from true p prio dest source e byte =
    let high = byte 2 (omega arith) in let low = byte 3 (omega arith) in
    let whole : 0x100 * get_or p 2 0 + get_or p 3 0 ≡ dest = omega (arith, high, low) in
    rw e (ap (λ n. Some n) whole)

source-from : (large : Bool) (p : List ℕ) (prio dest source : ℕ) → tt_of p ≡ type_of large
    → HasFront p prio large dest source → source_of p ≡ Some source
source-from false p prio dest source e byte =
    rw (eq-eqb (tt_of p) 0 e) (ap (λ n. Some n) (byte 3 (omega arith)))
source-from true p prio dest source e byte =
    let high = byte 4 (omega arith) in let low = byte 5 (omega arith) in
    let whole : 0x100 * get_or p 4 0 + get_or p 5 0 ≡ source = omega (arith, high, low) in
    rw e (ap (λ n. Some n) whole)

-- ---- the lengths

-- the pad is 0
pad-from : (body p : List ℕ) → p ≡ message_ended true body
    → (get_or p (length p - 2) 0 ≡ 0) × (get_or p (length p - 1) 0 ≡ 0)
pad-from body p is =
    let size = length-ended true body in
    let short = length-closed body in
    let pad : List ℕ = 0 ∷ 0 ∷ [] in
    let first : length (message_ended true body) - 2 ≡ length (closed body) + 0 = omega
    (arith, size, short) in
    let second : length (message_ended true body) - 1 ≡ length (closed body) + 1 = omega
    (arith, size, short) in
    rw is (
      ap (λ n. get_or (message_ended true body) n 0) first
          ∙ get_or-append-add (closed body) pad 0 0,
      ap (λ n. get_or (message_ended true body) n 0) second
          ∙ get_or-append-add (closed body) pad 1 0,
    )

-- it is a maintenance packet if it has one of the lengths
maintenance-from : (large : Bool) (body p : List ℕ) (n : ℕ) → ftype_of p ≡ 8
    → tt_of p ≡ type_of large
    → p ≡ message_ended large body → length body + 2 ≡ n + (tail_of large - 2)
    → is_maintenance_length n ≡ true
    → is_maintenance p ≡ true
maintenance-from false body p n f t is size good =
    let long : length p ≡ n = ap length is ∙ length-ended false body ∙ omega (arith, size) in
    rw (f, t, long) good
maintenance-from true body p n f t is size good =
    let long : length p - 4 ≡ n =
    ap (λ m. m - 4) (ap length is ∙ length-ended true body) ∙ omega (arith, size) in
    let pad = pad-from body p is in
    rw (f, t, long, good, pad.0, pad.1) refl

-- ---- what was built

module _ (prio : ℕ) (large : Bool) (dest source : ℕ) (rest p : List ℕ)
    (form : LinkForm (body_of prio 8 large dest source rest) p) (h : prio < 4) where
  abbrev body : List ℕ
  body = body_of prio 8 large dest source rest

  length-body : length body ≡ end_of large + length rest
  length-body =
      let start = length-front prio large dest source in
      let whole = length-append (front prio large dest source) rest in
      omega (arith, start, whole)

  byte : (i : ℕ) → i < length body → i < 80 → get_or p i 0 ≡ get_or body i 0
  byte i = get_or-link_form body p i form

  known : (prio_of p ≡ prio) × ((ftype_of p ≡ 8) × (tt_of p ≡ type_of large))
  known = types large prio (get_or p 1 0) h (byte 1 (omega arith) (omega arith))

  pub prio-built : prio_of p ≡ prio
  prio-built = known.0

  pub large-built : is_large p ≡ large
  large-built = large-from large (tt_of p) known.1.1

  pub end-built : ids_end p ≡ end_of large
  end-built = end-from large (tt_of p) known.1.1

  -- the bytes behind the IDs are those of the rest
  pub behind-built : (i k : ℕ) → i ≡ ids_end p + k → k < length rest → k < 74
      → get_or p i 0 ≡ get_or rest k 0
  behind-built i k is inside low =
      let here : i ≡ end_of large + k = is ∙ ap (λ n. n + k) end-built in
      let start = length-front prio large dest source in
      let at : i ≡ length (front prio large dest source) + k = omega (arith, here, start) in
      let whole = length-body in let most = end-most large in
      byte i (omega (arith, here, whole, inside)) (omega (arith, here, most, low))
      ∙ ap (λ n. get_or body n 0) at
      ∙ get_or-append-add (front prio large dest source) rest k 0

  has_front : HasFront p prio large dest source
  has_front i inside =
      let start = length-front prio large dest source in
      let whole = length-body in let most = end-most large in
      byte i (omega (arith, whole, inside)) (omega (arith, most, inside))
      ∙ get_or_append_left (front prio large dest source) rest 0 i (omega (arith, start, inside))

  pub dest-built : unwrap_or (dest_of p) 0 ≡ dest
  dest-built = ap (λ o. unwrap_or o 0) (dest-from large p prio dest source known.1.1 has_front)

  pub source-built : unwrap_or (source_of p) 0 ≡ source
  source-built = ap (λ o. unwrap_or o 0) (source-from large p prio dest source known.1.1 has_front)

  -- if the rest fills a packet up, it is known how the packet ends
  module _ (fills : length rest % 4 ≡ 2) (most : length rest ≤ 74) where
    pub is-built : p ≡ message_ended large body
    is-built =
        let whole = length-body in let end = end-most large in
        ended-link_form large body p form (omega (arith, whole, end, most))
        (ap (λ n. n % 4) whole ∙ fills-up large (length rest) fills)

    pub length-built : length p ≡ end_of large + length rest + tail_of large
    length-built = ap length is-built ∙ length-ended large body ∙ ap
        (λ n. n + tail_of large) length-body

    pub maintenance-built : is_maintenance_length (length rest + 6) ≡ true → is_maintenance p ≡ true
    maintenance-built good =
        let whole = length-body in let same = ends large in
        maintenance-from large body p (length rest + 6) known.1.0 known.1.1 is-built
        (omega (arith, whole, same)) good

-- ---- the layout

module _ (prio : ℕ) (large : Bool) (dest source ttype low tid hop offset : ℕ) (words : Option
    (ℕ × ℕ)) (p : List ℕ)
    (form : LinkForm (body_of prio 8 large dest source (behind_ids ttype low tid hop offset words))
    p) (h : prio < 4) where
  abbrev rest : List ℕ
  rest = behind_ids ttype low tid hop offset words

  at : (k : ℕ) → k < 6 → get_or p (ids_end p + k) 0 ≡ get_or rest k 0
  at k low = behind-built prio large dest source rest p form h (ids_end p + k) k refl (omega arith)
      (omega arith)

  first : get_or p (ids_end p) 0 ≡ 16 * ttype + low
  first = behind-built prio large dest source rest p form h (ids_end p) 0 (omega arith)
      (omega arith) (omega arith)

  pub ttype-built : low < 16 → ttype_of p ≡ ttype
  ttype-built below = let whole = first in omega (arith, whole, below)

  pub low_half-built : low < 16 → low_half_of p ≡ low
  low_half-built below = let whole = first in omega (arith, whole, below)

  pub tid-built : tid_of p ≡ tid
  tid-built = at 1 (omega arith)

  pub hop-built : get_or p (hop_place p) 0 ≡ hop
  hop-built = at 2 (omega arith)

  pub offset-built : offset_of p ≡ offset
  offset-built =
      let a = at 3 (omega arith) in let b = at 4 (omega arith) in let c = at 5 (omega arith) in
      omega (arith, a, b, c)

-- without data it is short
module _ (prio : ℕ) (large : Bool) (dest source ttype low tid hop offset : ℕ) (p : List ℕ)
    (form : LinkForm (body_of prio 8 large dest source (behind_ids ttype low tid hop offset None))
    p) (h : prio < 4) where
  pub length-without : length p ≡ short_length (is_large p)
  length-without =
      let rest = behind_ids ttype low tid hop offset None in
      length-built prio large dest source rest p form h refl (omega arith)
      ∙ short large ∙ ap short_length (sym (large-built prio large dest source rest p form h))

  pub maintenance-without : is_maintenance p ≡ true
  maintenance-without =
      maintenance-built prio large dest source (behind_ids ttype low tid hop offset None) p form h
      refl (omega arith) refl

-- with two words it is long, and the words stand behind the offset
module _ (prio : ℕ) (large : Bool) (dest source ttype low tid hop offset first second : ℕ)
    (p : List ℕ)
    (form : LinkForm (body_of prio 8 large dest source (behind_ids ttype low tid hop offset (Some
    (first, second)))) p)
    (h : prio < 4) where
  abbrev whole : List ℕ
  whole = behind_ids ttype low tid hop offset (Some (first, second))

  pub length-with : length p ≡ long_length (is_large p)
  length-with =
      length-built prio large dest source whole p form h refl (omega arith)
      ∙ long large ∙ ap long_length (sym (large-built prio large dest source whole p form h))

  pub maintenance-with : is_maintenance p ≡ true
  maintenance-with = maintenance-built prio large dest source whole p form h refl (omega arith) refl

  word : (i k : ℕ) → i ≡ ids_end p + k → k < 14 → get_or p i 0 ≡ get_or whole k 0
  word i k is low = behind-built prio large dest source whole p form h i k is (omega arith)
      (omega arith)

  pub first-built : word_at p (ids_end p + 6) ≡ first
  first-built =
      let a = word (ids_end p + 6) 6 refl (omega arith) in
      let b = word (ids_end p + 6 + 1) 7 (omega arith) (omega arith) in
      let c = word (ids_end p + 6 + 2) 8 (omega arith) (omega arith) in
      let d = word (ids_end p + 6 + 3) 9 (omega arith) (omega arith) in
      omega (arith, a, b, c, d)

  pub second-built : word_at p (ids_end p + 10) ≡ second
  second-built =
      let a = word (ids_end p + 10) 10 refl (omega arith) in
      let b = word (ids_end p + 10 + 1) 11 (omega arith) (omega arith) in
      let c = word (ids_end p + 10 + 2) 12 (omega arith) (omega arith) in
      let d = word (ids_end p + 10 + 3) 13 (omega arith) (omega arith) in
      omega (arith, a, b, c, d)

-- its bytes are the body, the CRC of it and the pad
pub ended-built : (prio : ℕ) (large : Bool) (dest source ttype low tid hop offset : ℕ)
    (words : Option (ℕ × ℕ)) (p : List ℕ)
    → LinkForm (body_of prio 8 large dest source (behind_ids ttype low tid hop offset words)) p
    → prio < 4
    → p ≡ message_ended large
    (body_of prio 8 large dest source (behind_ids ttype low tid hop offset words))
ended-built prio large dest source ttype low tid hop offset None p form h =
    is-built prio large dest source (behind_ids ttype low tid hop offset None) p form h refl
    (omega arith)
ended-built prio large dest source ttype low tid hop offset (Some words) p form h =
    is-built prio large dest source (behind_ids ttype low tid hop offset
    (Some words)) p form h refl (omega arith)
