-- A list of characters has one reading: that of the steps.
use Rattle.link_model.proofs.Prelude.{◌≡◌, ℕ, suc, ◌+◌, Bool, false, Option, Some, None, List, [], ◌∷◌, ◌++◌, length, refl, sym, ap, ◌∙◌, arith, Char, Fields, SpellsSymbol, spelled, spelled_some, spelled_back, BadSymbol, BadChar, General, Event, Bad, CharKind, Byte, Opens, Idle, Stray, Pending, Nothing, Opened, One, Two, Place, ReaderStep, place, byte_added, symbol_taken, finished, broken, step_by, run, place_after, Text, Plain, Skipped, Within, IsOpen, told, placed, IsUnfinished, no_byte, one_byte, two_bytes, Reads, plain_ends, idle_passes, data_outside, stray_outside, skipped_ends, data_skipped, stray_skipped, idle_ends_skipping, delimiter_ends_skipping, packet_is_cut, data_is_added, data_is_too_long, idle_in_packet, stray_in_packet, symbol_is_read, spells_none, not_allowed, cut_by_delimiter, cut_by_idle, cut_by_stray, cut_by_the_end, kind}
use Rattle.link_model.proofs.ReadingSteps.{reading, prepend, follow, stepped, begins, whole, below, not_below}

-- it is in progress
abbrev IsBegun : Pending → Type 0
IsBegun Nothing = ⊥
IsBegun _ = Unit {0}

-- it is no data character
abbrev IsNoByte : CharKind → Type 0
IsNoByte (Byte i) = ⊥
IsNoByte _ = Unit {0}

-- Where the reader stands after the characters of an unfinished symbol.
record Begun (front : List Char) : Type 0 where
  pending : Pending
  some : IsBegun pending
  reads : (t : Text) (at n : ℕ) (rest : List Char) → IsOpen t → n ≡ at + length front
      → reading (place t Nothing) at (front ++ rest) ≡ reading (place t pending) n rest
  ends : (t : Text) → IsOpen t → (at : ℕ) → reading (place t Nothing) at front ≡ ([], false)

later : (p : Place) (m n : ℕ) (rest : List Char) → m ≡ n → reading p m rest ≡ reading p n rest
later p m n rest e = ap (λ (k : ℕ). reading p k rest) e

-- within a symbol nothing is told at the end, and something is in progress
nothing_more : (t : Text) → IsOpen t → (p : Pending) → IsBegun p → (at : ℕ)
    → reading (place t p) at [] ≡ ([], false)
unfolding run place_after
nothing_more t may Nothing b at = absurd b
nothing_more Plain may _ b at = refl
nothing_more Skipped may _ b at = refl
nothing_more (Within bytes) may _ b at = refl

begun : {front : List Char} → IsUnfinished front → Begun front
unfolding run place_after
begun (no_byte {c} {d} h) = record {
  pending = Opened d;
  some = tt;
  reads =
      λ t at n rest may e. begins t at c rest d may h
      ∙ later (place t (Opened d)) (suc at) n rest (omega arith);
  ends = λ t may at. begins t at c [] d may h ∙ nothing_more t may (Opened d) tt (suc at);
}
begun (one_byte {c} {x} {d} {i} h f) = record {
  pending = One d i;
  some = tt;
  reads =
      λ t at n rest may e. begins t at c (x ∷ rest) d may h
      ∙ stepped (place t (Opened d)) (suc at) x rest (Byte i) f
      ∙ later (place t (One d i)) (suc (suc at)) n rest (omega arith);
  ends =
      λ t may at. begins t at c (x ∷ []) d may h
      ∙ stepped (place t (Opened d)) (suc at) x [] (Byte i) f
      ∙ nothing_more t may (One d i) tt (suc (suc at));
}
begun (two_bytes {c} {x} {y} {d} {i} {j} h f g) = record {
  pending = Two d i j;
  some = tt;
  reads =
      λ t at n rest may e. begins t at c (x ∷ y ∷ rest) d may h
      ∙ stepped (place t (Opened d)) (suc at) x (y ∷ rest) (Byte i) f
      ∙ stepped (place t (One d i)) (suc (suc at)) y rest (Byte j) g
      ∙ later (place t (Two d i j)) (suc (suc (suc at))) n rest (omega arith);
  ends =
      λ t may at. begins t at c (x ∷ y ∷ []) d may h
      ∙ stepped (place t (Opened d)) (suc at) x (y ∷ []) (Byte i) f
      ∙ stepped (place t (One d i)) (suc (suc at)) y [] (Byte j) g
      ∙ nothing_more t may (Two d i j) tt (suc (suc (suc at)));
}

breaks : (t : Text) (p : Pending) → IsBegun p → (k : CharKind) → IsNoByte k → step_by t p k ≡ broken k
breaks t Nothing b k n = absurd b
breaks t (Opened d) b (Byte i) n = absurd n
breaks t (Opened d) b (Opens e) n = refl
breaks t (Opened d) b Idle n = refl
breaks t (Opened d) b Stray n = refl
breaks t (One d i) b (Byte j) n = absurd n
breaks t (One d i) b (Opens e) n = refl
breaks t (One d i) b Idle n = refl
breaks t (One d i) b Stray n = refl
breaks t (Two d i j) b (Byte k) n = absurd n
breaks t (Two d i j) b (Opens e) n = refl
breaks t (Two d i j) b Idle n = refl
breaks t (Two d i j) b Stray n = refl

-- a character that breaks a symbol off
broke : (t : Text) {front : List Char} (at n : ℕ) (c : Char) (cs : List Char) (k : CharKind) → IsOpen t
    → IsUnfinished front
    → n ≡ at + length front → kind c ≡ k → IsNoByte k
    → reading (place t Nothing) at (front ++ c ∷ cs) ≡ follow (broken k) n cs
broke t at n c cs k may u e h never =
    let b = begun u in
    b.reads t at n (c ∷ cs) may e ∙ stepped (place t b.pending) n c cs k h
    ∙ ap (λ (s : ReaderStep). follow s n cs) (breaks t b.pending b.some k never)

spells_nothing : (i j k : ℕ) (o : Option Fields) → spelled i j k ≡ o
    → ((s : Fields) → SpellsSymbol s (i ∷ j ∷ k ∷ []) → ⊥) → spelled i j k ≡ None
spells_nothing i j k None e never = e
spells_nothing i j k (Some s) e never = absurd (never s (spelled_some i j k s e))

-- What is read is what the steps tell.
pub one : {t : Text} {at : ℕ} {cs : List Char} {es : List (ℕ × Event)} {rest : Bool}
    → Reads t at cs es rest
    → (es, rest) ≡ reading (place t Nothing) at cs
unfolding run place_after
one plain_ends = refl
one (idle_passes {at} {c} {cs} h r) = one r ∙ sym (stepped (place Plain Nothing) at c cs Idle h)
one (data_outside {at} {i} {c} {cs} h r) =
    ap (prepend ((at, Bad BadChar) ∷ [])) (one r)
    ∙ sym (stepped (place Plain Nothing) at c cs (Byte i) h)
one (stray_outside {at} {c} {cs} h r) =
    ap (prepend ((at, Bad BadChar) ∷ [])) (one r)
    ∙ sym (stepped (place Plain Nothing) at c cs Stray h)
one skipped_ends = refl
one (data_skipped {at} {i} {c} {cs} h r) =
    one r ∙ sym (stepped (place Skipped Nothing) at c cs (Byte i) h)
one (stray_skipped {at} {c} {cs} h r) =
    one r ∙ sym (stepped (place Skipped Nothing) at c cs Stray h)
one (idle_ends_skipping {at} {c} {cs} h r) =
    one r ∙ sym (stepped (place Skipped Nothing) at c cs Idle h)
one (delimiter_ends_skipping {at} {c} {cs} {d = d} h r) =
    one r
    ∙ stepped (place Plain Nothing) at c cs (Opens d) h
    ∙ sym (stepped (place Skipped Nothing) at c cs (Opens d) h)
one packet_is_cut = refl
one (data_is_added {at} {i} {bytes} {c} {cs} h few r) =
    one r
    ∙ sym (stepped (place (Within bytes) Nothing) at c cs (Byte i) h
    ∙ ap (λ (b : Bool). follow (byte_added bytes i b) at cs) (below (length bytes) 276 few))
one (data_is_too_long {at} {i} {bytes} {c} {cs} h many r) =
    ap (prepend ((at, Bad General) ∷ [])) (one r)
    ∙ sym (stepped (place (Within bytes) Nothing) at c cs (Byte i) h
    ∙ ap (λ (b : Bool). follow (byte_added bytes i b) at cs) (not_below (length bytes) 276 many))
one (idle_in_packet {at} {bytes} {c} {cs} h r) =
    ap (prepend ((at, Bad BadChar) ∷ [])) (one r)
    ∙ sym (stepped (place (Within bytes) Nothing) at c cs Idle h)
one (stray_in_packet {at} {bytes} {c} {cs} h r) =
    ap (prepend ((at, Bad BadChar) ∷ [])) (one r)
    ∙ sym (stepped (place (Within bytes) Nothing) at c cs Stray h)
one (symbol_is_read {t} {at} {i} {j} {k} {d} {cs = cs} s may w spells al r) =
    ap (prepend (placed (suc (suc (suc at))) (told t s))) (one r)
    ∙ sym (whole t at cs may w
    ∙ ap (λ (o : Option Fields). follow (finished t d o) (suc (suc (suc at))) cs)
    (spelled_back i j k s spells)
    ∙ ap (λ (b : Bool). follow (symbol_taken t s b) (suc (suc (suc at))) cs) al)
one (spells_none {t} {at} {i} {j} {k} {d} {cs = cs} may w never r) =
    ap (prepend ((suc (suc (suc at)), Bad BadSymbol) ∷ [])) (one r)
    ∙ sym (whole t at cs may w
    ∙ ap (λ (o : Option Fields). follow (finished t d o) (suc (suc (suc at))) cs)
    (spells_nothing i j k (spelled i j k) refl never))
one (not_allowed {t} {at} {i} {j} {k} {d} {cs = cs} s may w spells al r) =
    ap (prepend ((suc (suc (suc at)), Bad General) ∷ [])) (one r)
    ∙ sym (whole t at cs may w
    ∙ ap (λ (o : Option Fields). follow (finished t d o) (suc (suc (suc at))) cs)
    (spelled_back i j k s spells)
    ∙ ap (λ (b : Bool). follow (symbol_taken t s b) (suc (suc (suc at))) cs) al)
one (cut_by_delimiter {t} {at} {n} {d} {cs} front c may u e all h r) =
    ap (prepend ((n, Bad BadChar) ∷ [])) (one r ∙ stepped (place Plain Nothing) n c cs (Opens d) h)
    ∙ sym (ap (reading (place t Nothing) at) all ∙ broke t at n c cs (Opens d) may u e h tt)
one (cut_by_idle {t} {at} {n} {cs} front c may u e all h r) =
    ap (prepend ((n, Bad BadChar) ∷ [])) (one r)
    ∙ sym (ap (reading (place t Nothing) at) all ∙ broke t at n c cs Idle may u e h tt)
one (cut_by_stray {t} {at} {n} {cs} front c may u e all h r) =
    ap (prepend ((n, Bad BadChar) ∷ [])) (one r)
    ∙ sym (ap (reading (place t Nothing) at) all ∙ broke t at n c cs Stray may u e h tt)
one (cut_by_the_end {t} {at} may u) = sym ((begun u).ends t may at)
