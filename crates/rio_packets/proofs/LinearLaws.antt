-- The register is linear: it is led over a sum without carry as over its two parts.
use Rattle.std.proofs.Common.{◌≡◌, ℕ, zero, suc, ◌+◌, ◌-◌, ◌*◌, ◌/◌, ◌%◌, ◌^◌, ◌<◌, ◌≤◌, bit_xor, [], ◌∷◌, replicate, refl, sym, ap, ◌∙◌, inl, inr, arith, lit<}
use Rattle.std.specs.Int.Bits.{xor_self, xor_zero_l, xor_zero_r, xor_assoc}
use Rattle.std.proofs.lemmas.Nat.{xor_of_16, xor_lt, xor_comm, xor_block}
use Rattle.std.proofs.lemmas.Bool.{cases_lt}
use Rattle.rio_packets.specs.Register.{shifted, shifted_times, fed, fed_all}
use Rattle.rio_packets.specs.Tables.{after_zeros}
use Rattle.rio_packets.proofs.RegisterLaws.{shifted_low, shifted_high, shifted-lt, fed-lt}

doubled-xor : (a b : ℕ) → bit_xor (a * 2) (b * 2) ≡ bit_xor a b * 2
doubled-xor a b =
    let left : a * 2 ≡ a * 2 ^ 1 + 0 = omega arith in
    let right : b * 2 ≡ b * 2 ^ 1 + 0 = omega arith in
    let both : bit_xor a b * 2 ^ 1 + bit_xor 0 0 ≡ bit_xor a b * 2 = omega arith in
    ap (λ n. bit_xor n (b * 2)) left
    ∙ ap (λ n. bit_xor (a * 2 ^ 1 + 0) n) right
    ∙ xor_block 1 a b 0 0 (lit< tt) (lit< tt)
    ∙ both

-- a number of sixteen bits that begins with 1, and one that begins with 0
high_low-xor : (a b : ℕ) → 0x8000 ≤ a → a < 0x10000 → b < 0x8000
    → bit_xor a b ≡ 0x8000 + bit_xor (a - 0x8000) b
high_low-xor a b low high below =
    let left : a ≡ 1 * 2 ^ 15 + (a - 0x8000) = omega arith in
    let right : b ≡ 0 * 2 ^ 15 + b = omega arith in
    let both : bit_xor 1 0 * 2 ^ 15 + bit_xor (a - 0x8000) b ≡ 0x8000 + bit_xor (a - 0x8000) b =
    omega arith in
    ap (λ n. bit_xor n b) left ∙ ap (λ n. bit_xor (1 * 2 ^ 15 + (a - 0x8000)) n) right
    ∙ xor_block 15 1 0 (a - 0x8000) b (omega arith) (omega arith) ∙ both

high_high-xor : (a b : ℕ) → 0x8000 ≤ a → a < 0x10000 → 0x8000 ≤ b → b < 0x10000
    → bit_xor a b ≡ bit_xor (a - 0x8000) (b - 0x8000)
high_high-xor a b low high low_b high_b =
    let left : a ≡ 1 * 2 ^ 15 + (a - 0x8000) = omega arith in
    let right : b ≡ 1 * 2 ^ 15 + (b - 0x8000) = omega arith in
    let both : bit_xor 1 1 * 2 ^ 15 + bit_xor (a - 0x8000) (b - 0x8000)
    ≡ bit_xor (a - 0x8000) (b - 0x8000) =
    omega arith in
    ap (λ n. bit_xor n b) left ∙ ap (λ n. bit_xor (1 * 2 ^ 15 + (a - 0x8000)) n) right
    ∙ xor_block 15 1 1 (a - 0x8000) (b - 0x8000) (omega arith) (omega arith) ∙ both

-- what is added may be added last
add_last : (u w p : ℕ) → bit_xor (bit_xor u p) w ≡ bit_xor (bit_xor u w) p
add_last u w p = xor_assoc u p w ∙ ap (bit_xor u) (xor_comm p w) ∙ sym (xor_assoc u w p)

-- what is added twice is not added
add_twice : (u w p : ℕ) → bit_xor (bit_xor u p) (bit_xor w p) ≡ bit_xor u w
add_twice u w p =
    sym (xor_assoc (bit_xor u p) w p)
    ∙ ap (λ n. bit_xor n p) (add_last u w p)
    ∙ xor_assoc (bit_xor u w) p p
    ∙ ap (bit_xor (bit_xor u w)) (xor_self p) ∙ xor_zero_r (bit_xor u w)

shifted-high_low : (a b : ℕ) → 0x8000 ≤ a → a < 0x10000 → b < 0x8000
    → shifted (bit_xor a b) ≡ bit_xor (shifted a) (shifted b)
shifted-high_low a b low high below =
    let x = bit_xor (a - 0x8000) b in
    let small : x < 2 ^ 15 = xor_lt 15 (a - 0x8000) b (omega arith) (omega arith) in
    let front : 0x8000 + x - 0x8000 ≡ x = omega arith in
    ap shifted (high_low-xor a b low high below)
    ∙ shifted_high (0x8000 + x) (omega arith) (omega arith)
    ∙ ap (λ n. bit_xor (n * 2) 0x1021) front
    ∙ ap (λ n. bit_xor n 0x1021) (sym (doubled-xor (a - 0x8000) b))
    ∙ sym (add_last ((a - 0x8000) * 2) (b * 2) 0x1021)
    ∙ ap (λ n. bit_xor n (b * 2)) (sym (shifted_high a low high))
    ∙ ap (bit_xor (shifted a)) (sym (shifted_low b below))

pub shifted-xor : (a b : ℕ) → a < 0x10000 → b < 0x10000
    → shifted (bit_xor a b) ≡ bit_xor (shifted a) (shifted b)
shifted-xor a b h k =
    elim (cases_lt a 0x8000) [
      | inl low ↦ elim (cases_lt b 0x8000) [
        | inl below ↦
            (let small : bit_xor a b < 2 ^ 15 = xor_lt 15 a b (omega arith) (omega arith) in
            shifted_low (bit_xor a b) (omega arith) ∙ sym (doubled-xor a b)
            ∙ ap (λ n. bit_xor n (b * 2)) (sym (shifted_low a low))
            ∙ ap (bit_xor (shifted a)) (sym (shifted_low b below)))
        | inr above ↦ ap shifted (xor_comm a b)
            ∙ shifted-high_low b a above k low
            ∙ xor_comm (shifted b) (shifted a)
      ]
      | inr high ↦ elim (cases_lt b 0x8000) [
        | inl below ↦ shifted-high_low a b high h below
        | inr above ↦
            (let small : bit_xor (a - 0x8000) (b - 0x8000) < 2 ^ 15 =
            xor_lt 15 (a - 0x8000) (b - 0x8000) (omega arith) (omega arith) in
            ap shifted (high_high-xor a b high h above k)
            ∙ shifted_low (bit_xor (a - 0x8000) (b - 0x8000)) (omega arith)
            ∙ sym (doubled-xor (a - 0x8000) (b - 0x8000))
            ∙ sym (add_twice ((a - 0x8000) * 2) ((b - 0x8000) * 2) 0x1021)
            ∙ ap (λ n. bit_xor n (bit_xor ((b - 0x8000) * 2) 0x1021)) (sym (shifted_high a high h))
            ∙ ap (bit_xor (shifted a)) (sym (shifted_high b above k)))
      ]
    ]

shifted_times-xor : (n a b : ℕ) → a < 0x10000 → b < 0x10000
    → shifted_times n (bit_xor a b) ≡ bit_xor (shifted_times n a) (shifted_times n b)
unfolding shifted_times
shifted_times-xor zero a b h k = refl
shifted_times-xor (suc n) a b h k =
    ap (shifted_times n) (shifted-xor a b h k)
    ∙ shifted_times-xor n (shifted a) (shifted b) (shifted-lt a h) (shifted-lt b k)

shifted_once : (n r : ℕ) → r < 0x8000 → shifted_times (suc n) r ≡ shifted_times n (r * 2)
unfolding shifted_times
shifted_once n r h = ap (shifted_times n) (shifted_low r h)

shifted_none : (r : ℕ) → shifted_times 0 r ≡ r
unfolding shifted_times
shifted_none r = refl

-- a register of which only the last eight bits are set
last_byte : (low : ℕ) → low < 256 → shifted_times 8 low ≡ low * 256
last_byte low h =
    let whole : low * 2 * 2 * 2 * 2 * 2 * 2 * 2 * 2 ≡ low * 256 = omega arith in
    shifted_once 7 low (omega arith)
    ∙ shifted_once 6 (low * 2) (omega arith)
    ∙ shifted_once 5 (low * 2 * 2) (omega arith)
    ∙ shifted_once 4 (low * 2 * 2 * 2) (omega arith)
    ∙ shifted_once 3 (low * 2 * 2 * 2 * 2) (omega arith)
    ∙ shifted_once 2 (low * 2 * 2 * 2 * 2 * 2) (omega arith)
    ∙ shifted_once 1 (low * 2 * 2 * 2 * 2 * 2 * 2) (omega arith)
    ∙ shifted_once 0 (low * 2 * 2 * 2 * 2 * 2 * 2 * 2) (omega arith)
    ∙ shifted_none (low * 2 * 2 * 2 * 2 * 2 * 2 * 2 * 2) ∙ whole

bytes-xor : (a b : ℕ) → bit_xor (a * 256) (b * 256) ≡ bit_xor a b * 256
bytes-xor a b =
    let left : a * 256 ≡ a * 2 ^ 8 + 0 = omega arith in
    let right : b * 256 ≡ b * 2 ^ 8 + 0 = omega arith in
    let both : bit_xor a b * 2 ^ 8 + bit_xor 0 0 ≡ bit_xor a b * 256 = omega arith in
    ap (λ n. bit_xor n (b * 256)) left
    ∙ ap (λ n. bit_xor (a * 2 ^ 8 + 0) n) right
    ∙ xor_block 8 a b 0 0 (lit< tt) (lit< tt)
    ∙ both

byte_and_low : (a low : ℕ) → low < 256 → a * 256 + low ≡ bit_xor (a * 256) low
byte_and_low a low h =
    let left : a * 256 ≡ a * 2 ^ 8 + 0 = omega arith in
    let right : low ≡ 0 * 2 ^ 8 + low = omega arith in
    let both : bit_xor a 0 * 2 ^ 8 + bit_xor 0 low ≡ a * 256 + low =
    omega (arith, xor_zero_r a, xor_zero_l low) in
    sym (ap (λ n. bit_xor n low) left ∙ ap (λ n. bit_xor (a * 2 ^ 8 + 0) n) right
    ∙ xor_block 8 a 0 0 low (lit< tt) h ∙ both)

after_none-is : (b : ℕ) → after_zeros 0 b ≡ shifted_times 8 (b * 256)
unfolding fed
after_none-is b = ap (shifted_times 8) (xor_zero_l (b * 256))

pub after_zeros-lt : (n b : ℕ) → b < 256 → after_zeros n b < 0x10000
after_zeros-lt n b h = more n (fed 0 b) (fed-lt 0 b (lit< tt) h)
  where
    more : (n r : ℕ) → r < 0x10000 → fed_all r (replicate n 0) < 0x10000
    more zero r h = h
    more (suc n) r h = more n (fed r 0) (fed-lt r 0 h (lit< tt))

-- a byte is led through as the register is, and the entry of the byte is added
pub fed-next : (r b : ℕ) → r < 0x10000 → b < 256 → fed r b ≡ bit_xor (fed r 0) (after_zeros 0 b)
unfolding fed
fed-next r b h k =
    shifted_times-xor 8 r (b * 256) h (omega arith)
    ∙ ap (λ n. bit_xor (shifted_times 8 n) (shifted_times 8 (b * 256))) (sym (xor_zero_r r))
    ∙ ap (bit_xor (shifted_times 8 (bit_xor r 0))) (sym (after_none-is b))

-- and a sum as its parts
pub fed-sum : (a b : ℕ) → a < 0x10000 → b < 0x10000
    → fed (bit_xor a b) 0 ≡ bit_xor (fed a 0) (fed b 0)
unfolding fed
fed-sum a b h k =
    ap (shifted_times 8) (xor_zero_r (bit_xor a b)) ∙ shifted_times-xor 8 a b h k
    ∙ ap (λ n. bit_xor (shifted_times 8 n) (shifted_times 8 b)) (sym (xor_zero_r a))
    ∙ ap (λ n. bit_xor (shifted_times 8 (bit_xor a 0)) (shifted_times 8 n)) (sym (xor_zero_r b))

-- the register's high byte goes with the byte, and its low byte moves up
pub fed-split : (r b : ℕ) → r < 0x10000 → b < 256
    → fed r b ≡ bit_xor (after_zeros 0 (bit_xor (r / 256) b)) (r % 256 * 256)
unfolding fed
fed-split r b h k =
    let high = r / 256 in let low = r % 256 in
    let whole : r ≡ high * 256 + low = omega arith in
    let small : low < 256 = omega arith in
    let x = bit_xor high b in
    let x_small : x < 2 ^ 8 = xor_lt 8 high b (omega arith) k in
    let moved : bit_xor r (b * 256) ≡ bit_xor (x * 256) low =
    ap (λ n. bit_xor n (b * 256)) (whole ∙ byte_and_low high low small)
    ∙ add_last (high * 256) (b * 256) low
    ∙ ap (λ n. bit_xor n low) (bytes-xor high b) in
    ap (shifted_times 8) moved ∙ shifted_times-xor 8 (x * 256) low (omega arith) (omega arith)
    ∙ ap (bit_xor (shifted_times 8 (x * 256))) (last_byte low small)
    ∙ ap (λ n. bit_xor n (low * 256)) (sym (after_none-is x))

-- Two bytes use the register up.
pub fed-two : (r b c : ℕ) → r < 0x10000 → b < 256 → c < 256
    → fed (fed r b) c
    ≡ bit_xor (after_zeros 1 (bit_xor (r / 256) b)) (after_zeros 0 (bit_xor (r % 256) c))
unfolding fed
fed-two r b c h hb hc =
    let x = bit_xor (r / 256) b in
    let x_small : x < 2 ^ 8 = xor_lt 8 (r / 256) b (omega arith) hb in
    let y = bit_xor (r % 256) c in
    let y_small : y < 2 ^ 8 = xor_lt 8 (r % 256) c (omega arith) hc in
    let t = after_zeros 0 x in
    let t_small = after_zeros-lt 0 x x_small in
    ap (λ n. shifted_times 8 (bit_xor n (c * 256))) (fed-split r b h hb)
    ∙ ap (shifted_times 8)
    (xor_assoc t (r % 256 * 256) (c * 256) ∙ ap (bit_xor t) (bytes-xor (r % 256) c))
    ∙ shifted_times-xor 8 t (y * 256) t_small (omega arith)
    ∙ ap (λ n. bit_xor (shifted_times 8 n) (shifted_times 8 (y * 256))) (sym (xor_zero_r t))
    ∙ ap (bit_xor (shifted_times 8 (bit_xor t 0))) (sym (after_none-is y))

-- Four bytes at once, the first first.
four_summed : (r b c d e : ℕ) → r < 0x10000 → b < 256 → c < 256 → d < 256 → e < 256
    → fed_all r (b ∷ c ∷ d ∷ e ∷ [])
    ≡ bit_xor (bit_xor
    (bit_xor (after_zeros 3 (bit_xor (r / 256) b)) (after_zeros 2 (bit_xor (r % 256) c)))
    (after_zeros 1 d)) (after_zeros 0 e)
four_summed r b c d e h hb hc hd he =
    let x = bit_xor (r / 256) b in
    let hx : x < 2 ^ 8 = xor_lt 8 (r / 256) b (omega arith) hb in
    let y = bit_xor (r % 256) c in
    let hy : y < 2 ^ 8 = xor_lt 8 (r % 256) c (omega arith) hc in
    let two = bit_xor (after_zeros 1 x) (after_zeros 0 y) in
    let h2 =
    xor_of_16 (after_zeros 1 x) (after_zeros 0 y) (after_zeros-lt 1 x hx)
    (after_zeros-lt 0 y hy) in
    let three = bit_xor (bit_xor (after_zeros 2 x) (after_zeros 1 y)) (after_zeros 0 d) in
    let sum3 =
    xor_of_16 (after_zeros 2 x) (after_zeros 1 y) (after_zeros-lt 2 x hx)
    (after_zeros-lt 1 y hy) in
    let h3 =
    xor_of_16 (bit_xor (after_zeros 2 x) (after_zeros 1 y)) (after_zeros 0 d) sum3
    (after_zeros-lt 0 d hd) in
    let third : fed two d ≡ three = fed-next two d h2 hd
    ∙ ap (λ n. bit_xor n (after_zeros 0 d))
    (fed-sum (after_zeros 1 x) (after_zeros 0 y) (after_zeros-lt 1 x hx) (after_zeros-lt 0 y hy)) in
    ap (λ n. fed (fed n d) e) (fed-two r b c h hb hc)
    ∙ ap (λ n. fed n e) third
    ∙ fed-next three e h3 he
    ∙ ap (λ n. bit_xor n (after_zeros 0 e))
    (fed-sum (bit_xor (after_zeros 2 x) (after_zeros 1 y)) (after_zeros 0 d) sum3
    (after_zeros-lt 0 d hd)
    ∙ ap (λ n. bit_xor n (after_zeros 1 d))
    (fed-sum (after_zeros 2 x) (after_zeros 1 y) (after_zeros-lt 2 x hx) (after_zeros-lt 1 y hy)))

-- four terms, the last first
reversed : (a b c d : ℕ)
    → bit_xor (bit_xor (bit_xor a b) c) d ≡ bit_xor (bit_xor (bit_xor d c) b) a
reversed a b c d =
    xor_comm (bit_xor (bit_xor a b) c) d
    ∙ ap (bit_xor d) (xor_comm (bit_xor a b) c ∙ ap (bit_xor c) (xor_comm a b))
    ∙ sym (xor_assoc d c (bit_xor b a))
    ∙ sym (xor_assoc (bit_xor d c) b a)

-- Four bytes at once.
pub fed-four : (r b c d e : ℕ) → r < 0x10000 → b < 256 → c < 256 → d < 256 → e < 256
    → fed_all r (b ∷ c ∷ d ∷ e ∷ [])
    ≡ bit_xor (bit_xor (bit_xor (after_zeros 0 e) (after_zeros 1 d))
    (after_zeros 2 (bit_xor (r % 256) c))) (after_zeros 3 (bit_xor (r / 256) b))
fed-four r b c d e h hb hc hd he =
    four_summed r b c d e h hb hc hd he
    ∙ reversed (after_zeros 3 (bit_xor (r / 256) b)) (after_zeros 2 (bit_xor (r % 256) c))
    (after_zeros 1 d) (after_zeros 0 e)

-- a byte is led through a sum as through the one part, and a zero byte through the other
fed-both : (a b x : ℕ) → a < 0x10000 → b < 0x10000 → x < 256
    → fed (bit_xor a b) x ≡ bit_xor (fed a x) (fed b 0)
fed-both a b x h k small =
    fed-next (bit_xor a b) x (xor_of_16 a b h k) small
    ∙ ap (λ n. bit_xor n (after_zeros 0 x)) (fed-sum a b h k)
    ∙ sym (add_last (fed a 0) (fed b 0) (after_zeros 0 x))
    ∙ ap (λ n. bit_xor n (fed b 0)) (sym (fed-next a x h small))

-- and so four bytes
four-both : (a b p q r s : ℕ) → a < 0x10000 → b < 0x10000 → p < 256 → q < 256 → r < 256 → s < 256
    → fed_all (bit_xor a b) (p ∷ q ∷ r ∷ s ∷ [])
    ≡ bit_xor (fed_all a (p ∷ q ∷ r ∷ s ∷ [])) (fed_all b (0 ∷ 0 ∷ 0 ∷ 0 ∷ []))
four-both a b p q r s h k hp hq hr hs =
    let a1 = fed-lt a p h hp in let b1 = fed-lt b 0 k (lit< tt) in
    let a2 = fed-lt (fed a p) q a1 hq in let b2 = fed-lt (fed b 0) 0 b1 (lit< tt) in
    let a3 = fed-lt (fed (fed a p) q) r a2 hr in
    let b3 = fed-lt (fed (fed b 0) 0) 0 b2 (lit< tt) in
    ap (λ n. fed (fed (fed n q) r) s) (fed-both a b p h k hp)
    ∙ ap (λ n. fed (fed n r) s) (fed-both (fed a p) (fed b 0) q a1 b1 hq)
    ∙ ap (λ n. fed n s) (fed-both (fed (fed a p) q) (fed (fed b 0) 0) r a2 b2 hr)
    ∙ fed-both (fed (fed (fed a p) q) r) (fed (fed (fed b 0) 0) 0) s a3 b3 hs

-- Four bytes and four zero bytes.
pub fed-ahead : (r b c d e : ℕ) → r < 0x10000 → b < 256 → c < 256 → d < 256 → e < 256
    → fed_all r (b ∷ c ∷ d ∷ e ∷ 0 ∷ 0 ∷ 0 ∷ 0 ∷ [])
    ≡ bit_xor (bit_xor (bit_xor (after_zeros 4 e) (after_zeros 5 d))
    (after_zeros 6 (bit_xor (r % 256) c))) (after_zeros 7 (bit_xor (r / 256) b))
fed-ahead r b c d e h hb hc hd he =
    let x = bit_xor (r / 256) b in
    let hx : x < 2 ^ 8 = xor_lt 8 (r / 256) b (omega arith) hb in
    let y = bit_xor (r % 256) c in
    let hy : y < 2 ^ 8 = xor_lt 8 (r % 256) c (omega arith) hc in
    let zeros = 0 ∷ 0 ∷ 0 ∷ 0 ∷ [] in
    let s = after_zeros 0 e in let hs = after_zeros-lt 0 e he in
    let t = after_zeros 1 d in let ht = after_zeros-lt 1 d hd in
    let u = after_zeros 2 y in let hu = after_zeros-lt 2 y hy in
    let v = after_zeros 3 x in let hv = after_zeros-lt 3 x hx in
    let st = xor_of_16 s t hs ht in
    let stu = xor_of_16 (bit_xor s t) u st hu in
    let z : 0 < 256 = lit< tt in
    ap (λ n. fed_all n zeros) (fed-four r b c d e h hb hc hd he)
    ∙ four-both (bit_xor (bit_xor s t) u) v 0 0 0 0 stu hv z z z z
    ∙ ap (λ n. bit_xor n (fed_all v zeros))
    (four-both (bit_xor s t) u 0 0 0 0 st hu z z z z
    ∙ ap (λ n. bit_xor n (fed_all u zeros)) (four-both s t 0 0 0 0 hs ht z z z z))

-- Eight bytes at once.
pub fed-eight : (r a b c d e f g i : ℕ) → r < 0x10000 → a < 256 → b < 256 → c < 256 → d < 256
    → e < 256 → f < 256 → g < 256 → i < 256
    → fed_all r (a ∷ b ∷ c ∷ d ∷ e ∷ f ∷ g ∷ i ∷ [])
    ≡ bit_xor (fed_all 0 (e ∷ f ∷ g ∷ i ∷ []))
    (fed_all r (a ∷ b ∷ c ∷ d ∷ 0 ∷ 0 ∷ 0 ∷ 0 ∷ []))
fed-eight r a b c d e f g i h ha hb hc hd he hf hg hi =
    let s = fed_all r (a ∷ b ∷ c ∷ d ∷ []) in
    let h1 = fed-lt r a h ha in
    let h2 = fed-lt (fed r a) b h1 hb in
    let h3 = fed-lt (fed (fed r a) b) c h2 hc in
    let hs = fed-lt (fed (fed (fed r a) b) c) d h3 hd in
    ap (λ n. fed_all n (e ∷ f ∷ g ∷ i ∷ [])) (sym (xor_zero_l s))
    ∙ four-both 0 s e f g i (lit< tt) hs he hf hg hi
