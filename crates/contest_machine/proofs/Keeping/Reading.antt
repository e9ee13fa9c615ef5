-- What a read leaves and tells, and what a write leaves.
use Rattle.contest_machine.proofs.Prelude.{◌≡◌, ◌≢◌, ℕ, ◌%◌, ◌<◌, unwrap_or, arith, ◌⊎◌, inl, inr, sym, refl, ap, ◌∙◌, eq-eqb, ne_eqb, cases_eq, PortRef, Registers, locked, lock-read, tag-read, lock-written, tag-written, lock-stays, tag-stays, AllRegisters, Read, Write, answered, after_access, with_device-itself}

pub read-same : (old : AllRegisters) (at : PortRef) (offset : ℕ)
    → after_access old at (Read offset) ≡ old
read-same old at offset = with_device-itself old at.node

pub lock_told : (device : Registers) (port : ℕ)
    → (answered device port (Read 0x68)).answer.value ≡ device.lock
lock_told device port = ap (λ o. unwrap_or o 0) (lock-read device port)

pub tag_told : (device : Registers) (port : ℕ)
    → (answered device port (Read 0x6c)).answer.value ≡ device.tag
tag_told device port = ap (λ o. unwrap_or o 0) (tag-read device port)

pub write_keeps_lock : (device : Registers) (port offset value : ℕ) → offset ≢ 0x68
    → (answered device port (Write offset value)).device.lock ≡ device.lock
write_keeps_lock device port offset value other = lock-stays device offset value other

pub tag_given : (device : Registers) (port offset value : ℕ) → offset ≡ 0x6c
    → (answered device port (Write offset value)).device.tag ≡ value
tag_given device port offset value is =
    ap (λ n. (answered device port (Write n value)).device.tag) is
    ∙ ap (λ o. (unwrap_or o device).tag) (tag-written device value)

pub write_keeps_tag : (device : Registers) (port offset value : ℕ) → (offset ≡ 0x6c → value ≢ 0)
    → device.tag ≢ 0 → (answered device port (Write offset value)).device.tag ≢ 0
write_keeps_tag device port offset value some tagged none = at (cases_eq offset 0x6c)
  where
    at : (offset ≡ 0x6c) ⊎ (offset ≢ 0x6c) → ⊥
    at (inl is) = some is (sym (tag_given device port offset value is) ∙ none)
    at (inr other) = tagged (sym (tag-stays device offset value other) ∙ none)

-- a lock after an ID was written to it
pub lock_left : (device : Registers) (port id : ℕ)
    → (answered device port (Write 0x68 id)).device
    ≡ record device { lock = locked device.lock (id % 0x10000) }
lock_left device port id = ap (λ o. unwrap_or o device) (lock-written device id)

pub locked-free : (lock id : ℕ) → lock ≡ 0xffff → id < 0xff → locked lock (id % 0x10000) ≡ id
locked-free lock id free fits = ap (λ n. locked n (id % 0x10000)) free ∙ omega (arith, fits)

pub locked-own : (lock id : ℕ) → lock ≡ id → id < 0xff → locked lock (id % 0x10000) ≡ 0xffff
locked-own lock id own fits =
    let small : id % 0x10000 ≡ id = omega (arith, fits) in
    ap (λ n. locked lock n) small ∙ (ap (λ n. locked n id) own
    ∙ (rw (ne_eqb id 0xffff (λ e. omega (arith, e, fits)), eq-eqb id id refl) refl))

pub locked-other : (lock id : ℕ) → lock ≢ 0xffff → lock ≢ id → id < 0xff
    → locked lock (id % 0x10000) ≡ lock
locked-other lock id some other fits =
    let small : id % 0x10000 ≡ id = omega (arith, fits) in
    ap (λ n. locked lock n) small
    ∙ (rw (ne_eqb lock 0xffff some, ne_eqb lock id other) refl)
