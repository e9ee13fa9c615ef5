-- The fields of a link form are those of its body.
use Rattle.std.proofs.Common.{◌≡◌, ◌≢◌, ℕ, ◌+◌, ◌/◌, ◌%◌, ◌<◌, ◌≤◌, Bool, true, false, Some, List, [], ◌∷◌, ◌++◌, length, take, drop, get_or, refl, sym, ap, ◌∙◌, inl, inr, arith, length-append, append_assoc, ne_eqb, if◌then◌else◌}
use Rattle.std.proofs.lemmas.Bool.{cases_eq}
use Rattle.std.proofs.lemmas.List.{take_at, get_or_append_left, get_or-take, length-take-le}
use Rattle.rio_packets.specs.LinkForm.{padded, split_by, LinkForm}
use Rattle.rio_packets.specs.Fields.{prio_of, tt_of, ftype_of, dest_of, source_of, is_maintenance, is_request, types_of, body_of}
use Rattle.rio_packets.proofs.PadLaws.{padded-fours, padded-other}

get_or-padded : (m : List ℕ) (i : ℕ) → i < length m → get_or (padded m) i 0 ≡ get_or m i 0
get_or-padded m i h =
    elim (cases_eq (length m % 4) 0) [
      | inl fours ↦ rw (padded-fours m fours) refl
      | inr other ↦ rw (padded-other m other) (get_or_append_left m (0 ∷ 0 ∷ []) 0 i h)
    ]

-- The first 80 bytes of a body stand at the front of its link form.
pub get_or-link_form : (body p : List ℕ) (i : ℕ) → LinkForm body p → i < length body → i < 80
    → get_or p i 0 ≡ get_or body i 0
get_or-link_form body p i f h k =
    elim f.form [
      | inl s ↦
          (let size = length-append body (s.x ∷ s.y ∷ []) in
          rw s.is (get_or-padded (body ++ s.x ∷ s.y ∷ []) i (omega arith)
          ∙ get_or_append_left body (s.x ∷ s.y ∷ []) 0 i h))
      | inr l ↦
          (let back = (l.x ∷ l.y ∷ drop 80 body) ++ l.u ∷ l.v ∷ [] in
          let beyond = l.beyond in
          let regrouped : split_by body l.x l.y ++ l.u ∷ l.v ∷ [] ≡ take 80 body ++ back =
          append_assoc (take 80 body) (l.x ∷ l.y ∷ drop 80 body) (l.u ∷ l.v ∷ []) in
          let eighty : length (take 80 body) ≡ 80 = length-take-le 80 body (omega arith) in
          let size = length-append (take 80 body) back in
          rw (l.is, regrouped)
          (get_or-padded (take 80 body ++ back) i (omega arith)
          ∙ get_or_append_left (take 80 body) back 0 i (omega arith) ∙ get_or-take 80 body i 0 k))
    ]

-- A body of at most 80 bytes whose length is 2 above a multiple of four is followed by its CRC
-- alone.
pub length-link_form : (body p : List ℕ) → LinkForm body p → length body ≤ 80 → length body % 4 ≡ 2
    → length p ≡ length body + 2
length-link_form body p f h k =
    elim f.form [
      | inl s ↦
          (let size : length (body ++ s.x ∷ s.y ∷ []) ≡ length body + 2 =
          length-append body (s.x ∷ s.y ∷ []) in
          ap length (s.is ∙ padded-fours (body ++ s.x ∷ s.y ∷ []) (omega arith)) ∙ size)
      | inr l ↦ absurd (let beyond = l.beyond in omega arith)
    ]

pub take-link_form : (body p : List ℕ) → LinkForm body p → length body ≤ 80 → length body % 4 ≡ 2
    → take (length body) p ≡ body
take-link_form body p f h k =
    elim f.form [
      | inl s ↦
          (let size : length (body ++ s.x ∷ s.y ∷ []) ≡ length body + 2 =
          length-append body (s.x ∷ s.y ∷ []) in
          ap (take (length body)) (s.is ∙ padded-fours (body ++ s.x ∷ s.y ∷ []) (omega arith))
          ∙ take_at body (s.x ∷ s.y ∷ []) (length body) refl)
      | inr l ↦ absurd (let beyond = l.beyond in omega arith)
    ]

-- ---- the fields of a packet that was built

-- what a byte of priority, transport type and format type tells
record Types (large : Bool) (prio ftype n : ℕ) : Type 0 where
  prio_is : n / 64 ≡ prio
  ftype_is : n % 16 ≡ ftype
  tt_is : n / 16 % 4 ≡ (if large then 1 else 0)

types : (large : Bool) (prio ftype n : ℕ) → prio < 4 → ftype < 16
    → n ≡ types_of large prio ftype → Types large prio ftype n
types false prio ftype n h k e = record {
  prio_is = omega arith;
  ftype_is = omega arith;
  tt_is = omega arith;
}
types true prio ftype n h k e = record {
  prio_is = omega arith;
  ftype_is = omega arith;
  tt_is = omega arith;
}

longer : (prio ftype : ℕ) (large : Bool) (dest source : ℕ) (rest : List ℕ)
    → 4 ≤ length (body_of prio ftype large dest source rest)
longer prio ftype false dest source rest = omega arith
longer prio ftype true dest source rest = omega arith

module _ (prio ftype dest source : ℕ) (rest p : List ℕ) where
  byte : (large : Bool) (i : ℕ) → LinkForm (body_of prio ftype large dest source rest) p
      → i < length (body_of prio ftype large dest source rest) → i < 80
      → get_or p i 0 ≡ get_or (body_of prio ftype large dest source rest) i 0
  byte large i form h k =
      get_or-link_form (body_of prio ftype large dest source rest) p i form h k

  dest_in : (large : Bool) → LinkForm (body_of prio ftype large dest source rest) p
      → tt_of p ≡ (if large then 1 else 0) → dest_of p ≡ Some dest
  dest_in false form small = rw small (ap Some (byte false 2 form (omega arith) (omega arith)))
  dest_in true form large =
      let high = byte true 2 form (omega arith) (omega arith) in
      let low = byte true 3 form (omega arith) (omega arith) in
      rw large (ap Some (omega arith))

  source_in : (large : Bool) → LinkForm (body_of prio ftype large dest source rest) p
      → tt_of p ≡ (if large then 1 else 0) → source_of p ≡ Some source
  source_in false form small = rw small (ap Some (byte false 3 form (omega arith) (omega arith)))
  source_in true form large =
      let high = byte true 4 form (omega arith) (omega arith) in
      let low = byte true 5 form (omega arith) (omega arith) in
      rw large (ap Some (omega arith))

module _ (prio ftype : ℕ) (large : Bool) (dest source : ℕ) (rest p : List ℕ)
    (form : LinkForm (body_of prio ftype large dest source rest) p) where
  known : prio < 4 → ftype < 16 → Types large prio ftype (get_or p 1 0)
  known h k =
      let least = longer prio ftype large dest source rest in
      types large prio ftype (get_or p 1 0) h k
      (byte prio ftype dest source rest p large 1 form (omega arith) (omega arith))

  pub prio_of-link_form : prio < 4 → ftype < 16 → prio_of p ≡ prio
  prio_of-link_form h k = (known h k).prio_is

  pub ftype_of-link_form : prio < 4 → ftype < 16 → ftype_of p ≡ ftype
  ftype_of-link_form h k = (known h k).ftype_is

  pub tt_of-link_form : prio < 4 → ftype < 16 → tt_of p ≡ (if large then 1 else 0)
  tt_of-link_form h k = (known h k).tt_is

  pub dest_of-link_form : prio < 4 → ftype < 16 → dest_of p ≡ Some dest
  dest_of-link_form h k =
      dest_in prio ftype dest source rest p large form (tt_of-link_form h k)

  pub source_of-link_form : prio < 4 → ftype < 16 → source_of p ≡ Some source
  source_of-link_form h k =
      source_in prio ftype dest source rest p large form (tt_of-link_form h k)

  pub is_maintenance-link_form : prio < 4 → ftype < 16 → ftype ≢ 8 → is_maintenance p ≡ false
  is_maintenance-link_form h k other =
      let not_8 : ftype_of p ≢ 8 = λ e. other (sym (ftype_of-link_form h k) ∙ e) in
      rw (ne_eqb (ftype_of p) 8 not_8) refl

  pub is_request-link_form : prio < 4 → ftype < 16 → ftype ≢ 8 → is_request p ≡ false
  is_request-link_form h k other = rw (is_maintenance-link_form h k other) refl
