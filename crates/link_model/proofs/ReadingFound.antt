-- Every list of characters has a reading: that of the steps.
use Rattle.link_model.proofs.Prelude.{◌≡◌, ℕ, suc, ◌+◌, ◌<◌, ◌≤◌, nat_lt, Bool, true, false, Option, Some, None, List, [], ◌∷◌, ◌++◌, length, refl, sym, ap, ◌∙◌, subst, arith, Decides-ltb, not_from_Decides, Char, Delimiter, allowed, Fields, spelled, spelled_some, spelled_none, Event, Byte, Opens, Idle, Stray, Pending, Nothing, Opened, One, Two, place, byte_added, symbol_taken, finished, run, place_after, Text, Plain, Skipped, Within, IsOpen, text_after, IsWhole, no_byte, one_byte, two_bytes, Reads, plain_ends, idle_passes, data_outside, stray_outside, skipped_ends, data_skipped, stray_skipped, idle_ends_skipping, delimiter_ends_skipping, packet_is_cut, data_is_added, data_is_too_long, idle_in_packet, stray_in_packet, symbol_is_read, spells_none, not_allowed, cut_by_delimiter, cut_by_idle, cut_by_stray, cut_by_the_end, kind}
use Rattle.link_model.proofs.ReadingSteps.{reading, follow, stepped}

-- what has come of a symbol, and its characters
pub data Pends : List Char → Pending → Type 0 where
  none_yet : Pends [] Nothing
  opened_by : {c : Char} {d : Delimiter} → kind c ≡ Opens d → Pends (c ∷ []) (Opened d)
  with_one : {c x : Char} {d : Delimiter} {i : ℕ} → kind c ≡ Opens d → kind x ≡ Byte i
      → Pends (c ∷ x ∷ []) (One d i)
  with_two : {c x y : Char} {d : Delimiter} {i j : ℕ} → kind c ≡ Opens d → kind x ≡ Byte i
      → kind y ≡ Byte j
      → Pends (c ∷ x ∷ y ∷ []) (Two d i j)

-- a symbol may be in progress
abbrev pub Allows : Text → Pending → Type 0
Allows t Nothing = Unit {0}
Allows t (Opened d) = IsOpen t
Allows t (One d i) = IsOpen t
Allows t (Two d i j) = IsOpen t

-- the place of the next character, where the symbol in progress began at a place
abbrev pub next : Pending → ℕ → ℕ
next Nothing at = at
next (Opened d) at = suc at
next (One d i) at = suc (suc at)
next (Two d i j) at = suc (suc (suc at))

-- the reading of characters, told otherwise
pub told_by : {t : Text} {at : ℕ} {cs : List Char} {r s : List (ℕ × Event) × Bool} → r ≡ s
    → Reads t at cs s.0 s.1 → Reads t at cs r.0 r.1
told_by {t} {at} {cs} e x = subst (λ (r : List (ℕ × Event) × Bool). Reads t at cs r.0 r.1) (sym e) x

-- the place is that of the character behind the first ones
at_one : (at : ℕ) (c : Char) → suc at ≡ at + length (c ∷ [])
at_one at c = omega arith

at_two : (at : ℕ) (c x : Char) → suc (suc at) ≡ at + length (c ∷ x ∷ [])
at_two at c x = omega arith

at_three : (at : ℕ) (c x y : Char) → suc (suc (suc at)) ≡ at + length (c ∷ x ∷ y ∷ [])
at_three at c x y = omega arith

few : (n : ℕ) → nat_lt n 276 ≡ true → n < 276
few n e = (Decides-ltb n 276).0 e

many : (n : ℕ) → nat_lt n 276 ≡ false → 276 ≤ n
many n e =
    let no : n < 276 → ⊥ = not_from_Decides (nat_lt n 276) (Decides-ltb n 276) e in omega arith

-- Characters, behind those of the symbol in progress, are read as the steps tell.
pub found : (t : Text) {front : List Char} {p : Pending} → Pends front p → Allows t p
    → (at : ℕ) (cs : List Char)
    → Reads t at (front ++ cs) (reading (place t p) (next p at) cs).0
    (reading (place t p) (next p at) cs).1
unfolding run place_after
found Plain none_yet a at [] = plain_ends
found Skipped none_yet a at [] = skipped_ends
found (Within bytes) none_yet a at [] = packet_is_cut
found Skipped (opened_by h) a at [] = absurd a
found Plain (with_one h i) a at [] = cut_by_the_end tt (one_byte h i)
found Skipped (with_one h i) a at [] = absurd a
found (Within bytes) (with_one h i) a at [] = cut_by_the_end tt (one_byte h i)
found Plain (with_two h i j) a at [] = cut_by_the_end tt (two_bytes h i j)
found Skipped (with_two h i j) a at [] = absurd a
found (Within bytes) (with_two h i j) a at [] = cut_by_the_end tt (two_bytes h i j)
found _ (opened_by h) a at [] = cut_by_the_end tt (no_byte h)
found Plain none_yet a at (c ∷ cs) =
    let all = reading (place Plain Nothing) at (c ∷ cs) in
    (elim (kind c) as (λ k. kind c ≡ k → Reads Plain at (c ∷ cs) all.0 all.1) [
      | Byte i ↦ λ h. told_by (stepped (place Plain Nothing) at c cs (Byte i) h)
          (data_outside h (found Skipped none_yet tt (suc at) cs))
      | Opens d ↦ λ h. told_by (stepped (place Plain Nothing) at c cs (Opens d) h)
          (found Plain (opened_by h) tt at cs)
      | Idle ↦ λ h. told_by (stepped (place Plain Nothing) at c cs Idle h)
          (idle_passes h (found Plain none_yet tt (suc at) cs))
      | Stray ↦ λ h. told_by (stepped (place Plain Nothing) at c cs Stray h)
          (stray_outside h (found Skipped none_yet tt (suc at) cs))
    ]) refl
found Skipped none_yet a at (c ∷ cs) =
    let all = reading (place Skipped Nothing) at (c ∷ cs) in
    (elim (kind c) as (λ k. kind c ≡ k → Reads Skipped at (c ∷ cs) all.0 all.1) [
      | Byte i ↦ λ h. told_by (stepped (place Skipped Nothing) at c cs (Byte i) h)
          (data_skipped h (found Skipped none_yet tt (suc at) cs))
      | Opens d ↦ λ h. told_by (stepped (place Skipped Nothing) at c cs (Opens d) h)
          (delimiter_ends_skipping h (found Plain (opened_by h) tt at cs))
      | Idle ↦ λ h. told_by (stepped (place Skipped Nothing) at c cs Idle h)
          (idle_ends_skipping h (found Plain none_yet tt (suc at) cs))
      | Stray ↦ λ h. told_by (stepped (place Skipped Nothing) at c cs Stray h)
          (stray_skipped h (found Skipped none_yet tt (suc at) cs))
    ]) refl
found (Within bytes) none_yet a at (c ∷ cs) =
    let all = reading (place (Within bytes) Nothing) at (c ∷ cs) in
    (elim (kind c) as (λ k. kind c ≡ k → Reads (Within bytes) at (c ∷ cs) all.0 all.1) [
      | Byte i ↦ λ h.
          (elim (nat_lt (length bytes) 276) as
          (λ b. nat_lt (length bytes) 276 ≡ b → Reads (Within bytes) at (c ∷ cs) all.0 all.1) [
            | true ↦ λ e. told_by (stepped (place (Within bytes) Nothing) at c cs (Byte i) h
                ∙ ap (λ (b : Bool). follow (byte_added bytes i b) at cs) e)
                (data_is_added h (few (length bytes) e)
                (found (Within (bytes ++ i ∷ [])) none_yet tt (suc at) cs))
            | false ↦ λ e. told_by (stepped (place (Within bytes) Nothing) at c cs (Byte i) h
                ∙ ap (λ (b : Bool). follow (byte_added bytes i b) at cs) e)
                (data_is_too_long h (many (length bytes) e) (found Skipped none_yet tt (suc at) cs))
          ]) refl
      | Opens d ↦ λ h. told_by (stepped (place (Within bytes) Nothing) at c cs (Opens d) h)
          (found (Within bytes) (opened_by h) tt at cs)
      | Idle ↦ λ h. told_by (stepped (place (Within bytes) Nothing) at c cs Idle h)
          (idle_in_packet h (found Plain none_yet tt (suc at) cs))
      | Stray ↦ λ h. told_by (stepped (place (Within bytes) Nothing) at c cs Stray h)
          (stray_in_packet h (found Skipped none_yet tt (suc at) cs))
    ]) refl
found t (opened_by {c = c0} {d} h0) a at (c ∷ cs) =
    let all = reading (place t (Opened d)) (suc at) (c ∷ cs) in
    (elim (kind c) as (λ k. kind c ≡ k → Reads t at (c0 ∷ c ∷ cs) all.0 all.1) [
      | Byte i ↦ λ h. told_by (stepped (place t (Opened d)) (suc at) c cs (Byte i) h)
          (found t (with_one h0 h) a at cs)
      | Opens e ↦ λ h. told_by (stepped (place t (Opened d)) (suc at) c cs (Opens e) h)
          (cut_by_delimiter (c0 ∷ []) c a (no_byte h0) (at_one at c0) refl h
          (found Plain (opened_by h) tt (suc at) cs))
      | Idle ↦ λ h. told_by (stepped (place t (Opened d)) (suc at) c cs Idle h)
          (cut_by_idle (c0 ∷ []) c a (no_byte h0) (at_one at c0) refl h
          (found Plain none_yet tt (suc (suc at)) cs))
      | Stray ↦ λ h. told_by (stepped (place t (Opened d)) (suc at) c cs Stray h)
          (cut_by_stray (c0 ∷ []) c a (no_byte h0) (at_one at c0) refl h
          (found Skipped none_yet tt (suc (suc at)) cs))
    ]) refl
found t (with_one {c = c0} {x = c1} {d} {i} h0 h1) a at (c ∷ cs) =
    let n = suc (suc at) in
    let all = reading (place t (One d i)) n (c ∷ cs) in
    (elim (kind c) as (λ k. kind c ≡ k → Reads t at (c0 ∷ c1 ∷ c ∷ cs) all.0 all.1) [
      | Byte j ↦ λ h. told_by (stepped (place t (One d i)) n c cs (Byte j) h)
          (found t (with_two h0 h1 h) a at cs)
      | Opens e ↦ λ h. told_by (stepped (place t (One d i)) n c cs (Opens e) h)
          (cut_by_delimiter (c0 ∷ c1 ∷ []) c a (one_byte h0 h1) (at_two at c0 c1) refl h
          (found Plain (opened_by h) tt n cs))
      | Idle ↦ λ h. told_by (stepped (place t (One d i)) n c cs Idle h)
          (cut_by_idle (c0 ∷ c1 ∷ []) c a (one_byte h0 h1) (at_two at c0 c1) refl h
          (found Plain none_yet tt (suc n) cs))
      | Stray ↦ λ h. told_by (stepped (place t (One d i)) n c cs Stray h)
          (cut_by_stray (c0 ∷ c1 ∷ []) c a (one_byte h0 h1) (at_two at c0 c1) refl h
          (found Skipped none_yet tt (suc n) cs))
    ]) refl
found t (with_two {c = c0} {x = c1} {y = c2} {d} {i} {j} h0 h1 h2) a at (c ∷ cs) =
    let n = suc (suc (suc at)) in
    let all = reading (place t (Two d i j)) n (c ∷ cs) in
    (elim (kind c) as (λ k. kind c ≡ k → Reads t at (c0 ∷ c1 ∷ c2 ∷ c ∷ cs) all.0 all.1) [
      | Byte k ↦ λ h.
          let w : IsWhole d c0 c1 c2 c i j k = record {
            opens = h0;
            first = h1;
            second = h2;
            third = h;
          } in
          let here = stepped (place t (Two d i j)) n c cs (Byte k) h in
          (elim (spelled i j k) as
          (λ o. spelled i j k ≡ o → Reads t at (c0 ∷ c1 ∷ c2 ∷ c ∷ cs) all.0 all.1) [
            | None ↦
                λ o. told_by (here ∙ ap (λ (o : Option Fields). follow (finished t d o) n cs) o)
                (spells_none a w (λ s. spelled_none i j k s o)
                (found Skipped none_yet tt (suc n) cs))
            | Some s ↦ λ o.
                let there = here ∙ ap (λ (o : Option Fields). follow (finished t d o) n cs) o in
                (elim (allowed d s) as
                (λ b. allowed d s ≡ b → Reads t at (c0 ∷ c1 ∷ c2 ∷ c ∷ cs) all.0 all.1) [
                  | true ↦ λ b. told_by (there
                      ∙ ap (λ (b : Bool). follow (symbol_taken t s b) n cs) b)
                      (symbol_is_read s a w (spelled_some i j k s o) b
                      (found (text_after t s.s1) none_yet tt (suc n) cs))
                  | false ↦ λ b. told_by (there
                      ∙ ap (λ (b : Bool). follow (symbol_taken t s b) n cs) b)
                      (not_allowed s a w (spelled_some i j k s o) b
                      (found Skipped none_yet tt (suc n) cs))
                ]) refl
          ]) refl
      | Opens e ↦ λ h. told_by (stepped (place t (Two d i j)) n c cs (Opens e) h)
          (cut_by_delimiter (c0 ∷ c1 ∷ c2 ∷ []) c a (two_bytes h0 h1 h2) (at_three at c0 c1 c2) refl
          h (found Plain (opened_by h) tt n cs))
      | Idle ↦ λ h. told_by (stepped (place t (Two d i j)) n c cs Idle h)
          (cut_by_idle (c0 ∷ c1 ∷ c2 ∷ []) c a (two_bytes h0 h1 h2) (at_three at c0 c1 c2) refl h
          (found Plain none_yet tt (suc n) cs))
      | Stray ↦ λ h. told_by (stepped (place t (Two d i j)) n c cs Stray h)
          (cut_by_stray (c0 ∷ c1 ∷ c2 ∷ []) c a (two_bytes h0 h1 h2) (at_three at c0 c1 c2) refl h
          (found Skipped none_yet tt (suc n) cs))
    ]) refl
