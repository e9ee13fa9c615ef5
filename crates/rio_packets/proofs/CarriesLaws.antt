-- What bytes carry is decided by a test.
use Rattle.std.proofs.Common.{◌≡◌, ℕ, ◌+◌, ◌*◌, ◌/◌, ◌%◌, ◌<◌, ◌≤◌, ◌==◌, ◌&&◌, ◌||◌, ◌⊎◌, ◌↔◌, nat_lt, nat_le, Decides, Option, Some, None, true, false, List, [], ◌∷◌, length, take, drop, get_or, refl, sym, ap, ◌∙◌, subst, inl, inr, arith, leb-true, le-leb, eqb-true, eq-eqb, if◌then◌else◌}
use Rattle.std.specs.List.{list_all}
use Rattle.std.proofs.lemmas.Bool.{cases_lt}
use Rattle.std.proofs.lemmas.Bool.Decides.{Decides-and, Decides-or, Decides-by_and, Decides-ltb, Decides-like}
use Rattle.std.proofs.lemmas.List.Elements.{All-cons, All-tail}
use Rattle.std.proofs.lemmas.Option.{cond_some}
use Rattle.rio_packets.specs.Register.{running}
use Rattle.rio_packets.specs.LinkForm.{AreBytes, Passes}
use Rattle.rio_packets.specs.Carries.{at_origin, Carries, register_passes, passes, carried}
use Rattle.rio_packets.proofs.FormLaws.{Passes-from_form}
use Rattle.rio_packets.proofs.PassesLaws.{form_from_Passes}

decides_bytes : (bytes : List ℕ) → Decides (list_all (λ b. nat_lt b 256) bytes) (AreBytes bytes)
decides_bytes bytes =
    Decides-by_and (λ b. nat_lt b 256) (λ b. b < 256) (list_all (λ b. nat_lt b 256))
    (λ b. Decides-ltb b 256) refl (λ _ _. refl) bytes

decides_le : (a b : ℕ) → Decides (nat_le a b) (a ≤ b)
decides_le a b = (leb-true a b, le-leb a b)

decides_eq : (a b : ℕ) → Decides (a == b) (a ≡ b)
decides_eq a b = (eqb-true a b, eq-eqb a b)

-- from 84 bytes on, the register is 0 after byte 82
decides_middle : (bytes : List ℕ)
    → Decides (nat_lt (length bytes) 84 || (running (take 82 bytes) == 0))
    (84 ≤ length bytes → running (take 82 bytes) ≡ 0)
decides_middle bytes =
    Decides-like (nat_lt (length bytes) 84 || (running (take 82 bytes) == 0))
    (λ (either : (length bytes < 84) ⊎ (running (take 82 bytes) ≡ 0)). λ (long : 84 ≤ length bytes).
    elim either [ inl short ↦ absurd (omega arith) | inr zero ↦ zero ])
    (λ (middle : 84 ≤ length bytes → running (take 82 bytes) ≡ 0).
    elim (cases_lt (length bytes) 84) [ inl short ↦ inl short | inr long ↦ inr (middle long) ])
    (Decides-or (nat_lt (length bytes) 84) (running (take 82 bytes) == 0)
    (Decides-ltb (length bytes) 84) (decides_eq (running (take 82 bytes)) 0))

-- The test tells the link forms.
pub decides_passes : (bytes : List ℕ) → Decides (passes bytes) (Passes bytes)
decides_passes bytes =
    let ends = running bytes == 0 in
    let middle = nat_lt (length bytes) 84 || (running (take 82 bytes) == 0) in
    let last = Decides-and ends middle (decides_eq (running bytes) 0) (decides_middle bytes) in
    let origin = nat_lt (get_or bytes 0 0) 4 in
    let fifth = Decides-and origin (ends && middle) (Decides-ltb (get_or bytes 0 0) 4) last in
    let fours = length bytes % 4 == 0 in
    let fourth =
    Decides-and fours (origin && (ends && middle)) (decides_eq (length bytes % 4) 0) fifth in
    let range = list_all (λ b. nat_lt b 256) bytes in
    let third = Decides-and range (register_passes bytes) (decides_bytes bytes) fourth in
    let most = nat_le (length bytes) 276 in
    let second =
    Decides-and most (range && register_passes bytes) (decides_le (length bytes) 276) third in
    let first =
    Decides-and (nat_le 8 (length bytes)) (most && (range && register_passes bytes))
    (decides_le 8 (length bytes)) second in (
      λ e. (let all = first.0 e in record {
        least = all.0;
        most = all.1.0;
        range = all.1.1.0;
        fours = all.1.1.1.0;
        origin = all.1.1.1.1.0;
        ends = all.1.1.1.1.1.0;
        middle = all.1.1.1.1.1.1;
      }),
      λ p. first.1 (p.least, (p.most, (p.range, (p.fours, (p.origin, (p.ends, p.middle)))))),
    )

-- of bytes in range, the register alone decides
pub passes-register : (bytes : List ℕ) → 8 ≤ length bytes → length bytes ≤ 276 → AreBytes bytes
    → passes bytes ≡ register_passes bytes
passes-register bytes least most range =
    rw (
      (decides_le 8 (length bytes)).1 least,
      (decides_le (length bytes) 276).1 most,
      (decides_bytes bytes).1 range,
    ) refl

-- bytes that pass once the ackID is cleared carry it and a packet
pub carries_from_Passes : (bytes : List ℕ) → get_or bytes 0 0 < 256 → Passes (at_origin bytes)
    → Carries bytes (get_or bytes 0 0 / 8) (at_origin bytes)
carries_from_Passes bytes h p =
    let found = form_from_Passes (at_origin bytes) p in
    record {
      ack_range = omega arith;
      ack_is = refl;
      packet_is = refl;
      body = found.0;
      form = found.1;
    }

decides_test : (bytes : List ℕ)
    → Decides (nat_lt (get_or bytes 0 0) 256 && passes (at_origin bytes))
    ((get_or bytes 0 0 < 256) × Passes (at_origin bytes))
decides_test bytes =
    Decides-and (nat_lt (get_or bytes 0 0) 256) (passes (at_origin bytes))
    (Decides-ltb (get_or bytes 0 0) 256) (decides_passes (at_origin bytes))

-- what is found is carried
pub Carries-from_carried : (bytes : List ℕ) (ack : ℕ) (packet : List ℕ)
    → carried bytes ≡ Some (ack, packet) → Carries bytes ack packet
unfolding carried
Carries-from_carried bytes ack packet e =
    let found =
    cond_some (nat_lt (get_or bytes 0 0) 256 && passes (at_origin bytes))
    (get_or bytes 0 0 / 8, at_origin bytes) (ack, packet) e in
    let holds = (decides_test bytes).0 found.0 in
    let here = carries_from_Passes bytes holds.0 holds.1 in
    let one : get_or bytes 0 0 / 8 ≡ ack = ap (λ (p : ℕ × List ℕ). p.0) found.1 in
    let two : at_origin bytes ≡ packet = ap (λ (p : ℕ × List ℕ). p.1) found.1 in
    subst (λ (q : List ℕ). Carries bytes ack q) two
    (subst (λ (a : ℕ). Carries bytes a (at_origin bytes)) one here)

-- and what is carried is found
pub carried-from_Carries : (bytes : List ℕ) (ack : ℕ) (packet : List ℕ) → Carries bytes ack packet
    → carried bytes ≡ Some (ack, packet)
unfolding carried
carried-from_Carries bytes ack packet k =
    let range = k.ack_range in let is = k.ack_is in
    let small : get_or bytes 0 0 < 256 = omega arith in
    let passing : Passes (at_origin bytes) =
    subst Passes (sym k.packet_is) (Passes-from_form k.body packet k.form) in
    rw ((decides_test bytes).1 (small, passing))
    (ap (λ (a : ℕ). Some (a, at_origin bytes)) k.ack_is
    ∙ ap (λ (q : List ℕ). Some (ack, q)) k.packet_is)

-- Nothing is found exactly where nothing is carried.
pub carried-none : (bytes : List ℕ)
    → (carried bytes ≡ None) ↔ ((ack : ℕ) (packet : List ℕ) → Carries bytes ack packet → ⊥)
carried-none bytes = (
  λ e. λ ack. λ packet. λ k. none_some (sym e ∙ carried-from_Carries bytes ack packet k),
  λ h. none_from (carried bytes) refl h,
)
  where
    none_some : {ack : ℕ} {packet : List ℕ}
        → ◌≡◌ {A = Option (ℕ × List ℕ)} None (Some (ack, packet)) → ⊥
    none_some e = cc

    none_from : (o : Option (ℕ × List ℕ)) → carried bytes ≡ o
        → ((ack : ℕ) (packet : List ℕ) → Carries bytes ack packet → ⊥) → carried bytes ≡ None
    none_from None e h = e
    none_from (Some found) e h =
        absurd (h found.0 found.1 (Carries-from_carried bytes found.0 found.1 e))

-- Bytes carry at most one ackID and packet.
pub Carries-one : (bytes : List ℕ) (a b : ℕ) (p q : List ℕ) → Carries bytes a p → Carries bytes b q
    → (a ≡ b) × (p ≡ q)
Carries-one bytes a b p q k l = (sym k.ack_is ∙ l.ack_is, sym k.packet_is ∙ l.packet_is)

pub length-at_origin : (bytes : List ℕ) → length (at_origin bytes) ≡ length bytes
length-at_origin [] = refl
length-at_origin (b ∷ bs) = refl

pub AreBytes-at_origin : (bytes : List ℕ) → AreBytes bytes → AreBytes (at_origin bytes)
AreBytes-at_origin [] h = h
AreBytes-at_origin (b ∷ bs) h =
    All-cons (λ x. x < 256) (b % 4) bs (omega arith) (All-tail (λ x. x < 256) b bs h)

decides_small : (bytes : List ℕ) → Decides (nat_lt (get_or bytes 0 0) 256) (get_or bytes 0 0 < 256)
decides_small bytes = Decides-ltb (get_or bytes 0 0) 256

pub at_origin-is : (bytes : List ℕ) → 0 < length bytes
    → at_origin bytes ≡ get_or bytes 0 0 % 4 ∷ drop 1 bytes
at_origin-is [] h = absurd (omega arith)
at_origin-is (b ∷ bs) h = refl

-- what is carried, of bytes in range
pub carried-register : (bytes : List ℕ) → 8 ≤ length bytes → length bytes ≤ 276 → AreBytes bytes
    → carried
    bytes ≡ (if register_passes (at_origin bytes)
    then Some (get_or bytes 0 0 / 8, at_origin bytes) else None)
unfolding carried
carried-register bytes least most range =
    let small : get_or bytes 0 0 < 256 = range 0 0 (omega arith) in
    let size = length-at_origin bytes in
    rw (
      (decides_small bytes).1 small,
      passes-register (at_origin bytes) (omega arith) (omega arith)
          (AreBytes-at_origin bytes range),
    )
    refl

-- bytes in range whose form does not pass
pub carried-not_passing : (bytes form : List ℕ) → 8 ≤ length bytes → length bytes ≤ 276
    → AreBytes bytes
    → form ≡ get_or bytes 0 0 % 4 ∷ drop 1 bytes → register_passes form ≡ false
    → carried bytes ≡ None
carried-not_passing bytes form least most range is not =
    let same : at_origin bytes ≡ form = at_origin-is bytes (omega arith) ∙ sym is in
    let fails : register_passes (at_origin bytes) ≡ false = ap register_passes same ∙ not in
    carried-register bytes least most range
    ∙ ap (λ t. if t then Some (get_or bytes 0 0 / 8, at_origin bytes) else None) fails

-- and whose form passes
pub carried-passing : (bytes form : List ℕ) → 8 ≤ length bytes → length bytes ≤ 276 → AreBytes bytes
    → form ≡ get_or bytes 0 0 % 4 ∷ drop 1 bytes → register_passes form ≡ true
    → carried bytes ≡ Some (get_or bytes 0 0 / 8, form)
carried-passing bytes form least most range is passing =
    let same : at_origin bytes ≡ form = at_origin-is bytes (omega arith) ∙ sym is in
    let holds : register_passes (at_origin bytes) ≡ true = ap register_passes same ∙ passing in
    carried-register bytes least most range
    ∙ ap (λ t. if t then Some (get_or bytes 0 0 / 8, at_origin bytes) else None) holds
    ∙ ap (λ (q : List ℕ). Some (get_or bytes 0 0 / 8, q)) same

pub Passes-from_Carries : (bytes : List ℕ) (ack : ℕ) (packet : List ℕ) → Carries bytes ack packet
    → Passes packet
Passes-from_Carries bytes ack packet k = Passes-from_form k.body packet k.form

-- Only 8 to 276 bytes carry something.
pub length-Carries : (bytes : List ℕ) (ack : ℕ) (packet : List ℕ) → Carries bytes ack packet
    → (8 ≤ length bytes) × (length bytes ≤ 276)
length-Carries bytes ack packet k =
    let passing = Passes-from_Carries bytes ack packet k in
    let least = passing.least in
    let most = passing.most in
    let size = sym (length-at_origin bytes) ∙ ap length k.packet_is in
    (omega arith, omega arith)

pub carried-out_of_range : (bytes : List ℕ) → (length bytes < 8) ⊎ (276 < length bytes)
    → carried bytes ≡ None
carried-out_of_range bytes out =
    (carried-none bytes).1 (λ ack. λ packet. λ k.
    let size = length-Carries bytes ack packet k in
    elim out [
      | inl few ↦ (let least = size.0 in omega arith)
      | inr many ↦
          (let most = size.1 in omega arith)
    ])

-- A packet with an ackID in its first five bits is carried with it.
pub Carries-with_ack : (packet : List ℕ) (ack : ℕ) → ack < 32 → Passes packet
    → Carries ((8 * ack + get_or packet 0 0) ∷ drop 1 packet) ack packet
Carries-with_ack [] ack h p = absurd (let least = p.least in omega arith)
Carries-with_ack (b ∷ bs) ack h p =
    let found = form_from_Passes (b ∷ bs) p in
    let origin = p.origin in
    let same : (8 * ack + b) % 4 ≡ b = omega arith in
    record {
      ack_range = h;
      ack_is = omega arith;
      packet_is = ap (λ n. n ∷ bs) same;
      body = found.0;
      form = found.1;
    }
