-- Wrong bits, of which a special character stands between any two, are heard as mistakes.
use Rattle.lane_faults.proofs.Prelude.{◌≡◌, ℕ, zero, suc, ◌<◌, Bool, true, false, List, [], ◌∷◌, Option, Some, None, refl, sym, ap, subst, inl, inr, true≢false, ltb-true, IsData, Char, Data, Special, Invalid, with_wrong_bit, with_wrong_bit_at, is_used, IsMistakenFor, HeardWithMistakes}
use Rattle.code_groups.specs.declared.disparity.Disparity.{Disparity}
use Rattle.code_groups.specs.Disparities.{other_disparity}
use Rattle.code_groups.specs.Groups.{group_of, disparity_after, IsHeardAs}
use Rattle.code_groups.specs.Streams.{groups_from, AreHeardAs}
use Rattle.code_groups.proofs.BlockLaws.{none_made, one_block, used_has}
use Rattle.code_groups.proofs.Plain.{heard_group, heard_one}
use Rattle.code_groups.proofs.StreamLaws.{astray_parts, wrong_parts}
use Rattle.lane_faults.specs.WrongBits.{AreUsed, with_wrong_bits, frees_the_next, AreApart}

-- the disparity that a receiver has
abbrev received : Bool → Disparity → Disparity
received false before = before
received true before = other_disparity before

clean : (before : Disparity) (c x : Char) → is_used c ≡ true
    → IsHeardAs before (group_of before c) x → x ≡ c
clean before c x used heard =
    heard_one before (group_of before c) x c heard
    (heard_group before (group_of before c) c (used_has c used, refl))

stays_shut : (free : Bool) (c : Char) → free ≡ false → IsData c → frees_the_next free c ≡ false
stays_shut true c h d = absurd (true≢false h)
stays_shut false (Data byte) h d = refl
stays_shut false (Special byte) h d = absurd d
stays_shut false Invalid h d = absurd d

mistaken : (before : Disparity) (c x : Char) (bit : ℕ) → bit < 10 → is_used c ≡ true
    → IsHeardAs before (with_wrong_bit bit (group_of before c)) x → (x ≡ c → ⊥)
    → IsMistakenFor c x
mistaken before c x bit low used heard differs = record {
  differs = differs;
  no_delimiter = none_made before c x bit low used heard;
  in_one_block =
      λ byte found e f. one_block before byte found bit
      (ltb-true byte 256 (subst (λ (y : Char). is_used y ≡ true) e used)) low
      (subst (λ (y : Char). IsHeardAs before (with_wrong_bit bit (group_of before y)) (Data found))
      e (subst (λ (y : Char). IsHeardAs before (with_wrong_bit bit (group_of before c)) y) f
      heard));
}

pub bits_heard : (astray free : Bool) (before : Disparity) (chars heard : List Char)
    (wrong : List (Option ℕ)) → (astray ≡ true → free ≡ false) → AreUsed chars
    → AreApart free chars wrong
    → AreHeardAs (received astray before) (with_wrong_bits wrong (groups_from before chars)) heard
    → HeardWithMistakes astray chars heard
bits_heard astray free before [] heard wrong shut used apart h = h
bits_heard astray free before (c ∷ chars) [] [] shut used apart h = absurd h
bits_heard astray free before (c ∷ chars) [] (one ∷ wrong) shut used apart h = absurd h
bits_heard false free before (c ∷ chars) (x ∷ heard) [] shut used apart h =
    inl (
      clean before c x used.0 h.0,
      bits_heard false free (disparity_after before c) chars heard [] shut used.1 tt h.1,
    )
bits_heard false free before (c ∷ chars) (x ∷ heard) (None ∷ wrong) shut used apart h =
    inl (
      clean before c x used.0 h.0,
      bits_heard false (frees_the_next free c) (disparity_after before c) chars heard wrong
          (λ e. absurd (true≢false (sym e))) used.1 apart h.1,
    )
bits_heard false true before (c ∷ chars) (x ∷ heard) (Some bit ∷ wrong) shut used apart h =
    let next : Disparity = disparity_after before c in
    let groups : List ℕ = with_wrong_bits wrong (groups_from next chars) in
    let parts = wrong_parts before c x bit apart.0 (used_has c used.0) h.0 in
    elim parts.1 [
      | inl none ↦ inr (inl (
        none.0,
        bits_heard false false next chars heard wrong (λ e. refl) used.1 apart.1
            (subst (λ (d : Disparity). AreHeardAs d groups heard) none.1 h.1),
      ))
      | inr away ↦ inr (inr (
        mistaken before c x bit apart.0 used.0 h.0 parts.0,
        bits_heard true false next chars heard wrong (λ e. refl) used.1 apart.1
            (subst (λ (d : Disparity). AreHeardAs d groups heard) away h.1),
      ))
    ]
bits_heard true free before (c ∷ chars) (x ∷ heard) [] shut used apart h =
    let next : Disparity = disparity_after before c in
    let groups : List ℕ = with_wrong_bits [] (groups_from next chars) in
    elim (astray_parts before c x (used_has c used.0) h.0) [
      | inl none ↦ inl (
        none.0,
        bits_heard false free next chars heard [] (λ e. absurd (true≢false (sym e))) used.1 tt
            (subst (λ (d : Disparity). AreHeardAs d groups heard) none.1 h.1),
      )
      | inr stays ↦ inr (
        stays.0,
        stays.1,
        bits_heard true free next chars heard [] shut used.1 tt
            (subst (λ (d : Disparity). AreHeardAs d groups heard) stays.2 h.1),
      )
    ]
bits_heard true free before (c ∷ chars) (x ∷ heard) (None ∷ wrong) shut used apart h =
    let next : Disparity = disparity_after before c in
    let groups : List ℕ = with_wrong_bits wrong (groups_from next chars) in
    elim (astray_parts before c x (used_has c used.0) h.0) [
      | inl none ↦ inl (
        none.0,
        bits_heard false (frees_the_next free c) next chars heard wrong
            (λ e. absurd (true≢false (sym e))) used.1 apart
            (subst (λ (d : Disparity). AreHeardAs d groups heard) none.1 h.1),
      )
      | inr stays ↦ inr (
        stays.0,
        stays.1,
        bits_heard true (frees_the_next free c) next chars heard wrong
            (λ e. stays_shut free c (shut refl) stays.1) used.1 apart
            (subst (λ (d : Disparity). AreHeardAs d groups heard) stays.2 h.1),
      )
    ]
bits_heard true true before (c ∷ chars) (x ∷ heard) (Some bit ∷ wrong) shut used apart h =
    absurd (true≢false (shut refl))
bits_heard _ false before (c ∷ chars) (x ∷ heard) (Some bit ∷ wrong) shut used apart h =
    absurd apart

pub bits_are_mistakes : (before : Disparity) (chars heard : List Char) (wrong : List (Option ℕ))
    → AreUsed chars → AreApart true chars wrong
    → AreHeardAs before (with_wrong_bits wrong (groups_from before chars)) heard
    → HeardWithMistakes false chars heard
bits_are_mistakes before chars heard wrong used apart h =
    bits_heard false true before chars heard wrong (λ e. absurd (true≢false (sym e))) used apart h

-- one wrong bit alone
only_at : ℕ → ℕ → List (Option ℕ)
only_at zero bit = Some bit ∷ []
only_at (suc place) bit = None ∷ only_at place bit

none_wrong : (groups : List ℕ) → with_wrong_bits [] groups ≡ groups
none_wrong [] = refl
none_wrong (group ∷ groups) = ap (λ (gs : List ℕ). group ∷ gs) (none_wrong groups)

only_is : (place bit : ℕ) (groups : List ℕ)
    → with_wrong_bit_at place bit groups ≡ with_wrong_bits (only_at place bit) groups
unfolding only_at
only_is place bit [] = refl
only_is zero bit (group ∷ groups) =
    ap (λ (gs : List ℕ). with_wrong_bit bit group ∷ gs) (sym (none_wrong groups))
only_is (suc place) bit (group ∷ groups) =
    ap (λ (gs : List ℕ). group ∷ gs) (only_is place bit groups)

only_apart : (place bit : ℕ) (chars : List Char) → bit < 10
    → AreApart true chars (only_at place bit)
unfolding only_at
only_apart zero bit [] low = tt
only_apart (suc place) bit [] low = tt
only_apart zero bit (c ∷ chars) low = (low, tt)
only_apart (suc place) bit (c ∷ chars) low = only_apart place bit chars low

pub one_is_mistaken : (before : Disparity) (place bit : ℕ) (chars heard : List Char)
    → AreUsed chars → bit < 10
    → AreHeardAs before (with_wrong_bit_at place bit (groups_from before chars)) heard
    → HeardWithMistakes false chars heard
one_is_mistaken before place bit chars heard used low h =
    bits_are_mistakes before chars heard (only_at place bit) used (only_apart place bit chars low)
    (subst (λ (gs : List ℕ). AreHeardAs before gs heard)
    (only_is place bit (groups_from before chars)) h)
