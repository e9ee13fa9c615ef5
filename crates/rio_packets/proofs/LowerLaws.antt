-- A maintenance packet with its hop count lowered is one again.
use Rattle.std.proofs.Common.{◌≡◌, ◌≢◌, ℕ, zero, suc, ◌+◌, ◌-◌, ◌/◌, ◌%◌, ◌<◌, ◌≤◌, ◌==◌, Bool, true, false, IsSomeAnd, Some, None, List, [], ◌∷◌, ◌++◌, length, take, set, get_or, refl, sym, ap, ◌∙◌, subst, inl, inr, ext_get_or, arith, eqb-true, eq-eqb, length-set, get_or-take, length-take-le, get_or-append-add, get_or-set_other, get_or-set_same, take_at, append_assoc, if◌then◌else◌}
use Rattle.std.proofs.lemmas.Bool.{cases_eq, cases_lt}
use Rattle.std.proofs.lemmas.List.{get_or_append_left, get_or_at}
use Rattle.std.proofs.lemmas.List.Elements.{All-take, All-set}
use Rattle.rio_packets.specs.Register.{running}
use Rattle.rio_packets.specs.LinkForm.{AreBytes, IsCrc, Passes, padded}
use Rattle.rio_packets.specs.Hops.{message_ended, is_large, lowered}
use Rattle.rio_packets.specs.Fields.{tt_of, is_maintenance, hop_of, hop_place, crc_place, Lowered}
use Rattle.rio_packets.proofs.CrcLaws.{IsCrc-halves, IsCrc-one}
use Rattle.rio_packets.proofs.StepLaws.{closed-is}
use Rattle.rio_packets.proofs.FormLaws.{Passes-from_form}
use Rattle.rio_packets.proofs.PlaceLaws.{places}

-- it depends on the second byte, the length, and the last two bytes of a packet with two-byte IDs
is_maintenance-same : (old new : List ℕ) → get_or new 1 0 ≡ get_or old 1 0
    → length new ≡ length old
    → (tt_of old ≡ 1 → (get_or new (length old - 2) 0 ≡ get_or old (length old - 2) 0)
    × (get_or new (length old - 1) 0 ≡ get_or old (length old - 1) 0))
    → is_maintenance new ≡ is_maintenance old
is_maintenance-same old new second size pad = by_type (tt_of old == 1) refl
  where
    by_type : (b : Bool) → (tt_of old == 1) ≡ b → is_maintenance new ≡ is_maintenance old
    by_type true large = let both = pad (eqb-true (tt_of old) 1 large) in
        rw (second, size, both.0, both.1) refl
    by_type false small = rw (second, size, small) refl

-- where there is a hop count of at least 1
pub hop_known : (bytes : List ℕ) → IsSomeAnd (hop_of bytes) (λ hop. 1 ≤ hop)
    → (is_maintenance bytes ≡ true) × (1 ≤ get_or bytes (hop_place bytes) 0)
hop_known bytes h = by_test (is_maintenance bytes) refl h
  where
    by_test : (t : Bool) → is_maintenance bytes ≡ t
        → IsSomeAnd (if t then Some (get_or bytes (hop_place bytes) 0) else None) (λ hop. 1 ≤ hop)
        → (is_maintenance bytes ≡ true) × (1 ≤ get_or bytes (hop_place bytes) 0)
    by_test true e h = (e, h)
    by_test false e h = absurd h

-- what follows the CRC
abbrev pad_of : Bool → List ℕ
pad_of false = []
pad_of true = 0 ∷ 0 ∷ []

pad-zeros : (large : Bool) (k : ℕ) → get_or (pad_of large) k 0 ≡ 0
pad-zeros false k = refl
pad-zeros true zero = refl
pad-zeros true (suc zero) = refl
pad-zeros true (suc (suc k)) = refl

ended-is : (large : Bool) (m : List ℕ)
    → message_ended large m ≡ m ++ running m / 256 ∷ running m % 256 ∷ pad_of large
ended-is false m = closed-is m
ended-is true m =
    ap (λ (t : List ℕ). t ++ 0 ∷ 0 ∷ []) (closed-is m)
    ∙ append_assoc m (running m / 256 ∷ running m % 256 ∷ []) (0 ∷ 0 ∷ [])

module _ (old : List ℕ) (p : Passes old) (m : is_maintenance old ≡ true)
    (hop : 1 ≤ get_or old (hop_place old) 0) where
  abbrev at : ℕ
  at = hop_place old

  abbrev end : ℕ
  end = crc_place old

  abbrev written : List ℕ
  written = set old at (get_or old at 0 - 1)

  abbrev body : List ℕ
  body = take end written

  record Room : Type 0 where
    least : 6 ≤ at
    between : at + 4 ≤ end
    most : end ≤ 76
    behind : end + 2 ≤ length old
    even : end % 2 ≡ 0

  room : Room
  room =
      let at_old = places old m in
      record {
        least = at_old.least;
        between = at_old.between;
        most = at_old.most;
        behind = at_old.behind;
        even = at_old.even;
      }

  length-body : length body ≡ end
  length-body =
      let behind = room.behind in
      let same = length-set old at (get_or old at 0 - 1) in
      length-take-le end written (omega arith)

  body_range : AreBytes body
  body_range =
      let between = room.between in let behind = room.behind in
      let high : get_or old at 0 < 256 = p.range at 0 (omega arith) in
      All-take (λ b. b < 256) end written
      (All-set (λ b. b < 256) old at (get_or old at 0 - 1) (omega arith) p.range)

  -- all but the hop count stay
  body_keeps : (k : ℕ) → k ≢ at → k < end → get_or body k 0 ≡ get_or old k 0
  body_keeps k other below =
      get_or-take end written k 0 below
      ∙ get_or-set_other old at k (get_or old at 0 - 1) 0 other

  crc : IsCrc body (running body / 256) (running body % 256)
  crc =
      let size = length-body in let least = room.least in let between = room.between in
      IsCrc-halves body (omega arith) body_range

  pub Passes-lowered : Passes (lowered old)
  Passes-lowered =
      let size = length-body in let least = room.least in let between = room.between in
      let most = room.most in let even = room.even in
      Passes-from_form body (lowered old) record {
        is_body = record {
          even = omega arith;
          least = omega arith;
          most = omega arith;
          range = body_range;
          origin = rw (body_keeps 0 (omega arith) (omega arith)) p.origin;
        };
        form = inl record {
          within = omega arith;
          x = running body / 256;
          y = running body % 256;
          crc = crc;
          is = (places old m).whole body size ∙ ap padded (closed-is body);
        };
      }

  abbrev tail : List ℕ
  tail = running body / 256 ∷ running body % 256 ∷ pad_of (is_large old)

  whole : lowered old ≡ body ++ tail
  whole = ended-is (is_large old) body

  byte : (k : ℕ) → get_or (lowered old) k 0 ≡ get_or (body ++ tail) k 0
  byte k = ap (λ (t : List ℕ). get_or t k 0) whole

  front : (k : ℕ) → k < end → get_or (lowered old) k 0 ≡ get_or body k 0
  front k below =
      let size = length-body in
      byte k ∙ get_or_append_left body tail 0 k (omega arith)

  back : (k : ℕ) → get_or (lowered old) (end + k) 0 ≡ get_or tail k 0
  back k =
      let size = length-body in
      byte (end + k) ∙ ap (λ n. get_or (body ++ tail) (n + k) 0) (sym size)
      ∙ get_or-append-add body tail k 0

  -- the pad stays
  behind_crc : (k : ℕ) → end + 2 ≤ k → get_or (lowered old) k 0 ≡ get_or old k 0
  behind_crc k beyond =
      let place : k ≡ end + suc (suc (k - end - 2)) = omega arith in
      ap (λ i. get_or (lowered old) i 0) place
      ∙ back (suc (suc (k - end - 2)))
      ∙ pad-zeros (is_large old) (k - end - 2)
      ∙ sym ((places old m).zeros k beyond)

  keeps : (k : ℕ) → k ≢ at → k ≢ end → k ≢ end + 1 → get_or (lowered old) k 0 ≡ get_or old k 0
  keeps k other high low =
      elim (cases_lt k end) [
        | inl before ↦ front k before ∙ body_keeps k other before
        | inr after ↦ behind_crc k (omega arith)
      ]

  length-lowered : length (lowered old) ≡ length old
  length-lowered = (places old m).total body length-body

  second : get_or (lowered old) 1 0 ≡ get_or old 1 0
  second =
      let least = room.least in let between = room.between in
      keeps 1 (omega arith) (omega arith) (omega arith)

  is_one : is_maintenance (lowered old) ≡ true
  is_one =
      is_maintenance-same old (lowered old) second length-lowered
      (λ large. let four : end ≡ length old - 4 =
      ap (λ b. length old - (if b then 4 else 2)) (eq-eqb (tt_of old) 1 large) in
      let behind = room.behind in let least = room.least in let between = room.between in (
        behind_crc (length old - 2) (omega arith),
        behind_crc (length old - 1) (omega arith),
      )) ∙ m

  here : get_or (lowered old) at 0 ≡ get_or old at 0 - 1
  here =
      let between = room.between in let behind = room.behind in
      front at (omega arith) ∙ get_or-take end written at 0 (omega arith)
      ∙ get_or-set_same old at (get_or old at 0 - 1) 0 (omega arith)

  crc_is : IsCrc (take end (lowered old)) (get_or (lowered old) end 0)
      (get_or (lowered old) (end + 1) 0)
  crc_is =
      let message : take end (lowered old) ≡ body =
      ap (take end) whole ∙ take_at body tail end length-body in
      let high : get_or (lowered old) end 0 ≡ running body / 256 =
      byte end
      ∙ get_or_at body (running body / 256) (running body % 256 ∷ pad_of (is_large old)) 0 end
      length-body in
      rw (message, high, back 1) crc

  pub Lowered-lowered : Lowered old (lowered old)
  Lowered-lowered = record {
    was = m;
    is = is_one;
    same_length = length-lowered;
    same_type = ap (λ b. b / 16 % 4) second;
    hop = (let less = here in omega arith);
    others = keeps;
    crc = crc_is;
  }

-- A packet has one that is lowered.
module _ (old new other : List ℕ) (a : Lowered old new) (b : Lowered old other) where
  abbrev place : ℕ
  place = crc_place old

  alike : (k : ℕ) → k ≢ place → k ≢ place + 1 → get_or new k 0 ≡ get_or other k 0
  alike k high low = elim (cases_eq k (hop_place old)) [
    | inl hop ↦
        (let first = a.hop in let second = b.hop in
        let same : get_or new (hop_place old) 0 ≡ get_or other (hop_place old) 0 = omega arith in
        subst (λ (i : ℕ). get_or new i 0 ≡ get_or other i 0) (sym hop) same)
    | inr not_hop ↦ a.others k not_hop high low ∙ sym (b.others k not_hop high low)
  ]

  message : take place new ≡ take place other
  message =
      let one = a.same_length in let two = b.same_length in
      let behind = (places old a.was).behind in
      let short = length-take-le place new (omega arith) in
      let long = length-take-le place other (omega arith) in
      ext_get_or 0 (take place new) (take place other) (short ∙ sym long)
      (λ (k : ℕ). λ (below : k < length (take place new)).
      get_or-take place new k 0 (omega arith) ∙ alike k (omega arith) (omega arith)
      ∙ sym (get_or-take place other k 0 (omega arith)))

  crcs : (get_or new place 0 ≡ get_or other place 0)
      × (get_or new (place + 1) 0 ≡ get_or other (place + 1) 0)
  crcs =
      let moved : IsCrc (take place other) (get_or new place 0) (get_or new (place + 1) 0) =
      subst (λ (m : List ℕ). IsCrc m (get_or new place 0) (get_or new (place + 1) 0)) message
      a.crc in
      IsCrc-one (take place other) (get_or new place 0) (get_or new (place + 1) 0)
      (get_or other place 0) (get_or other (place + 1) 0) moved b.crc

  pub Lowered-one : new ≡ other
  Lowered-one =
      ext_get_or 0 new other (a.same_length ∙ sym b.same_length)
      (λ (k : ℕ). λ (below : k < length new).
      elim (cases_eq k place) [
        | inl high ↦ subst (λ (i : ℕ). get_or new i 0 ≡ get_or other i 0) (sym high) crcs.0
        | inr not_high ↦ elim (cases_eq k (place + 1)) [
          | inl low ↦ subst (λ (i : ℕ). get_or new i 0 ≡ get_or other i 0) (sym low) crcs.1
          | inr not_low ↦ alike k not_high not_low
        ]
      ])
