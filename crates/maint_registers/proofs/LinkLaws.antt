-- What the links of a device are after one more is set.
use Rattle.std.proofs.Common.{◌≡◌, ◌≢◌, ℕ, ◌*◌, ◌%◌, ◌^◌, ◌<◌, ◌==◌, ap, sym, ◌∙◌, inl, inr, arith, if◌then◌else◌, ne_eqb, eq-eqb}
use Rattle.std.specs.Int.Bits.{bit_or, or_add_and}
use Rattle.std.specs.Int.{bit_at}
use Rattle.std.proofs.lemmas.Nat.{one_shl}
use Rattle.std.proofs.lemmas.Nat.Bits.{bit_at_or, bit_at-lt, and_pow, bit_at-pow_same, bit_at-pow_other}
use Rattle.std.proofs.lemmas.Bool.{cases_eq}
use Rattle.maint_registers.specs.Devices.{Registers, with_link}
use Rattle.maint_registers.specs.Table.{status_of}

-- the bit of a port, set by `|`
or_pow : (linked port : ℕ) → bit_or linked (2 ^ port) ≡ with_link linked port
or_pow linked port = elim (cases_eq (bit_at linked port) 1) [
  | inl set ↦ rw (eq-eqb (bit_at linked port) 1 set)
      (omega (
        arith,
        or_add_and linked (2 ^ port),
        and_pow linked port
            ∙ ap (λ b. b * 2 ^ port) set,
      ))
  | inr clear ↦
      (let none : bit_at linked port ≡ 0 = omega (arith, clear, bit_at-lt linked port) in
      rw (ne_eqb (bit_at linked port) 1 clear)
      (omega (
        arith,
        or_add_and linked (2 ^ port),
        and_pow linked port
            ∙ ap (λ b. b * 2 ^ port) none,
      )))
]

-- and shifted there
pub or_link : (linked port : ℕ) → port < 16 → bit_or linked (1 * 2 ^ port % 2 ^ 16)
    ≡ with_link linked port
or_link linked port below = ap (bit_or linked) (one_shl port 16 below) ∙ or_pow linked port

pub bit_set : (linked port : ℕ) → bit_at (with_link linked port) port ≡ 1
bit_set linked port =
    ap (λ n. bit_at n port) (sym (or_pow linked port))
    ∙ omega (arith, bit_at_or linked (2 ^ port) port, bit_at-pow_same port, bit_at-lt linked port)

pub bit_others : (linked port other : ℕ) → other ≢ port → bit_at (with_link linked port) other
    ≡ bit_at linked other
bit_others linked port other apart =
    ap (λ n. bit_at n other) (sym (or_pow linked port))
    ∙ omega (arith, bit_at_or linked (2 ^ port) other, bit_at-pow_other port other apart)

-- the port has a link afterwards
pub link_shown : (device : Registers) (port : ℕ)
    → status_of (record device { linked = with_link device.linked port }) port ≡ 2
link_shown device port = ap (λ b. if b == 1 then 2 else 1) (bit_set device.linked port)

-- and every other port has one if it had one
pub link_others : (device : Registers) (port other : ℕ) → other ≢ port
    → status_of (record device { linked = with_link device.linked port }) other
    ≡ status_of device other
link_others device port other apart =
    ap (λ b. if b == 1 then 2 else 1) (bit_others device.linked port other apart)
