-- Bytes that pass are the link form of some body.
use Rattle.std.proofs.Common.{◌≡◌, ℕ, ◌+◌, ◌-◌, ◌*◌, ◌<◌, ◌≤◌, List, [], ◌∷◌, ◌++◌, length, take, drop, get_or, sym, ap, ◌∙◌, subst, inl, inr, arith, length-append, length-drop, take-append-drop, append_assoc, lit<}
use Rattle.std.proofs.lemmas.Bool.{cases_lt, cases_eq}
use Rattle.std.proofs.lemmas.List.{take_all, take_at, drop_at, take_more, get_or_append_left, get_or-take, length-take-le}
use Rattle.std.proofs.lemmas.List.Elements.{All-take, All-drop}
use Rattle.rio_packets.specs.Register.{running, fed_all}
use Rattle.rio_packets.specs.LinkForm.{AreBytes, IsCrc, padded, split_by, LinkForm, Passes}
use Rattle.rio_packets.proofs.Shifts.{fed_all-append}
use Rattle.rio_packets.proofs.RegisterLaws.{zero_after_two}
use Rattle.rio_packets.proofs.CrcLaws.{IsCrc-from_zero}
use Rattle.rio_packets.proofs.PadLaws.{AreBytes-append, AreBytes-two, padded-fours, padded-other}

-- two elements more
take_two_more : (n : ℕ) (xs : List ℕ) → n + 2 ≤ length xs
    → take (n + 2) xs ≡ take n xs ++ get_or xs n 0 ∷ get_or xs (n + 1) 0 ∷ []
take_two_more n xs h =
    let same : n + 2 ≡ n + 1 + 1 = omega arith in
    ap (λ k. take k xs) same ∙ take_more xs (n + 1) 0 (omega arith)
    ∙ ap (λ t. t ++ get_or xs (n + 1) 0 ∷ []) (take_more xs n 0 (omega arith))
    ∙ append_assoc (take n xs) (get_or xs n 0 ∷ []) (get_or xs (n + 1) 0 ∷ [])

-- a list and its last two elements
last_two : (n : ℕ) (xs : List ℕ) → n + 2 ≡ length xs
    → xs ≡ take n xs ++ get_or xs n 0 ∷ get_or xs (n + 1) 0 ∷ []
last_two n xs h =
    sym (ap (λ k. take k xs) h ∙ take_all (length xs) xs (omega arith))
    ∙ take_two_more n xs (omega arith)

-- at most 80 bytes end in the CRC of what is before
short_body : (bytes : List ℕ) → Passes bytes → length bytes < 84
    → LinkForm (take (length bytes - 2) bytes) bytes
short_body bytes p h =
    let fours = p.fours in let least = p.least in
    let n = length bytes - 2 in
    let body = take n bytes in
    let x = get_or bytes n 0 in
    let y = get_or bytes (n + 1) 0 in
    let split : bytes ≡ body ++ x ∷ y ∷ [] = last_two n bytes (omega arith) in
    let size : length body ≡ n = length-take-le n bytes (omega arith) in
    let range : AreBytes body = All-take (λ b. b < 256) n bytes p.range in
    let high : x < 256 = p.range n 0 (omega arith) in
    let low : y < 256 = p.range (n + 1) 0 (omega arith) in
    record {
      is_body = record {
        even = omega arith;
        least = omega arith;
        most = omega arith;
        range = range;
        origin = rw (get_or-take n bytes 0 0 (omega arith)) p.origin;
      };
      form = inl record {
        within = omega arith;
        x = x;
        y = y;
        crc =
            IsCrc-from_zero body x y (omega arith) range high low (ap running (sym split) ∙ p.ends);
        is = sym (ap padded (sym split) ∙ padded-fours bytes fours);
      };
    }

-- the first 82 bytes and their CRC
front_crc : (bytes : List ℕ) → Passes bytes → 84 ≤ length bytes
    → IsCrc (take 80 bytes) (get_or bytes 80 0) (get_or bytes 81 0)
front_crc bytes p h =
    let size : length (take 80 bytes) ≡ 80 = length-take-le 80 bytes (omega arith) in
    IsCrc-from_zero (take 80 bytes) (get_or bytes 80 0) (get_or bytes 81 0) (omega arith)
    (All-take (λ b. b < 256) 80 bytes p.range) (p.range 80 0 (omega arith))
    (p.range 81 0 (omega arith))
    (ap running (sym (take_two_more 80 bytes (omega arith))) ∙ p.middle h)

-- 84 bytes are a body of 80, its CRC, and a pad
padded_body : (bytes : List ℕ) → Passes bytes → length bytes ≡ 84 → LinkForm (take 80 bytes) bytes
padded_body bytes p h =
    let body = take 80 bytes in
    let x = get_or bytes 80 0 in
    let y = get_or bytes 81 0 in
    let u = get_or bytes 82 0 in
    let v = get_or bytes 83 0 in
    let size : length body ≡ 80 = length-take-le 80 bytes (omega arith) in
    let front : take 82 bytes ≡ body ++ x ∷ y ∷ [] = take_two_more 80 bytes (omega arith) in
    let split : bytes ≡ take 82 bytes ++ u ∷ v ∷ [] = last_two 82 bytes (omega arith) in
    let high : u < 256 = p.range 82 0 (omega arith) in
    let low : v < 256 = p.range 83 0 (omega arith) in
    let ends : fed_all 0 (u ∷ v ∷ []) ≡ 0 =
    ap (λ r. fed_all r (u ∷ v ∷ [])) (sym (p.middle (omega arith)))
    ∙ sym (fed_all-append 0xffff (take 82 bytes) (u ∷ v ∷ [])) ∙ ap running (sym split) ∙ p.ends in
    let pad : 0 ≡ u * 256 + v = (zero_after_two 0 u v (lit< tt) high low).0 ends in
    let no_u : u ≡ 0 = omega arith in
    let no_v : v ≡ 0 = omega arith in
    let whole : bytes ≡ (body ++ x ∷ y ∷ []) ++ 0 ∷ 0 ∷ [] =
    split ∙ ap (λ t. t ++ u ∷ v ∷ []) front ∙ ap (λ n. (body ++ x ∷ y ∷ []) ++ n ∷ v ∷ []) no_u
    ∙ ap (λ n. (body ++ x ∷ y ∷ []) ++ 0 ∷ n ∷ []) no_v in
    let total : length (body ++ x ∷ y ∷ []) ≡ 82 = length-append body (x ∷ y ∷ []) ∙ omega arith in
    record {
      is_body = record {
        even = omega arith;
        least = omega arith;
        most = omega arith;
        range = All-take (λ b. b < 256) 80 bytes p.range;
        origin = rw (get_or-take 80 bytes 0 0 (omega arith)) p.origin;
      };
      form = inl record {
        within = omega arith;
        x = x;
        y = y;
        crc = front_crc bytes p (omega arith);
        is = whole ∙ sym (padded-other (body ++ x ∷ y ∷ []) (omega arith));
      };
    }

-- longer bytes are the first 80 of the body, their CRC, its rest, and a CRC
long_body : (bytes : List ℕ) → Passes bytes → 84 < length bytes
    → (body : List ℕ) × LinkForm body bytes
long_body bytes p h =
    let fours = p.fours in let most = p.most in
    let front = take 80 bytes in
    let back = drop 82 bytes in
    let n = length bytes - 84 in
    let rest = take n back in
    let body = front ++ rest in
    let x = get_or bytes 80 0 in
    let y = get_or bytes 81 0 in
    let u = get_or back n 0 in
    let v = get_or back (n + 1) 0 in
    let front_size : length front ≡ 80 = length-take-le 80 bytes (omega arith) in
    let back_size : length back ≡ length bytes - 82 = length-drop 82 bytes in
    let rest_size : length rest ≡ n = length-take-le n back (omega arith) in
    let size : length body ≡ 80 + n = length-append front rest ∙ omega arith in
    let take_body : take 80 body ≡ front = take_at front rest 80 front_size in
    let drop_body : drop 80 body ≡ rest = drop_at front rest 80 front_size in
    let s = front ++ x ∷ y ∷ rest in
    let split : split_by body x y ≡ s =
    ap (λ t. t ++ x ∷ y ∷ drop 80 body) take_body ∙ ap (λ t. front ++ x ∷ y ∷ t) drop_body in
    let whole : bytes ≡ s ++ u ∷ v ∷ [] =
    sym (take-append-drop 82 bytes)
    ∙ ap (λ t. t ++ back) (take_two_more 80 bytes (omega arith))
    ∙ ap (λ t. (front ++ x ∷ y ∷ []) ++ t) (last_two n back (omega arith))
    ∙ append_assoc front (x ∷ y ∷ []) (rest ++ u ∷ v ∷ [])
    ∙ sym (append_assoc front (x ∷ y ∷ rest) (u ∷ v ∷ [])) in
    let front_range : AreBytes front = All-take (λ b. b < 256) 80 bytes p.range in
    let back_range : AreBytes back = All-drop (λ b. b < 256) 82 bytes p.range in
    let rest_range : AreBytes rest = All-take (λ b. b < 256) n back back_range in
    let x_range : x < 256 = p.range 80 0 (omega arith) in
    let y_range : y < 256 = p.range 81 0 (omega arith) in
    let s_range : AreBytes s =
    subst AreBytes (append_assoc front (x ∷ y ∷ []) rest)
    (AreBytes-append (front ++ x ∷ y ∷ []) rest
    (AreBytes-append front (x ∷ y ∷ []) front_range (AreBytes-two x y x_range y_range))
    rest_range) in
    let s_size : length s ≡ 82 + n = length-append front (x ∷ y ∷ rest) ∙ omega arith in
    let second : IsCrc s u v =
    IsCrc-from_zero s u v (omega arith) s_range (back_range n 0 (omega arith))
    (back_range (n + 1) 0 (omega arith))
    (ap running (sym whole) ∙ p.ends) in (
      body,
      record {
        is_body = record {
          even = omega arith;
          least = omega arith;
          most = omega arith;
          range = AreBytes-append front rest front_range rest_range;
          origin =
              rw (
                get_or_append_left front rest 0 0 (omega arith),
                get_or-take 80 bytes 0 0 (omega arith),
              ) p.origin;
        };
        form = inr record {
          beyond = omega arith;
          x = x;
          y = y;
          u = u;
          v = v;
          first =
              subst (λ (m : List ℕ). IsCrc m x y) (sym take_body) (front_crc bytes p (omega arith));
          second = subst (λ (m : List ℕ). IsCrc m u v) (sym split) second;
          is =
              sym (ap (λ t. padded (t ++ u ∷ v ∷ [])) split ∙ ap padded (sym whole)
              ∙ padded-fours bytes fours);
        };
      },
    )

-- What passes is the link form of some body.
pub form_from_Passes : (bytes : List ℕ) → Passes bytes → (body : List ℕ) × LinkForm body bytes
form_from_Passes bytes p =
    elim (cases_lt (length bytes) 84) [
      | inl short ↦ (take (length bytes - 2) bytes, short_body bytes p short)
      | inr rest ↦ elim (cases_eq (length bytes) 84) [
        | inl same ↦ (take 80 bytes, padded_body bytes p same)
        | inr other ↦ long_body bytes p (omega arith)
      ]
    ]
