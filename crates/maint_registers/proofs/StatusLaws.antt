-- Which port's error and status register stands at an offset.
use Rattle.std.proofs.Common.{◌≡◌, ◌≢◌, ℕ, zero, suc, ◌<◌, Some, None, refl, ap, inl, inr, arith, eq-eqb, ne_eqb}
use Rattle.std.proofs.lemmas.Bool.{cases_eq}
use Rattle.maint_registers.specs.Table.{status_offset, status_port}

-- no port below the number stands there
pub status_port-none : (ports offset : ℕ) → ((n : ℕ) → n < ports → status_offset n ≢ offset)
    → status_port ports offset ≡ None
unfolding status_port
status_port-none zero offset h = refl
status_port-none (suc ports) offset h =
    rw (ne_eqb (status_offset ports) offset (h ports (omega arith)))
    (status_port-none ports offset (λ n below. h n (omega arith)))

-- port n stands there
pub status_port-found : (ports offset n : ℕ) → n < ports → status_offset n ≡ offset
    → status_port ports offset ≡ Some n
unfolding status_port
status_port-found zero offset n below e = absurd (omega arith)
status_port-found (suc ports) offset n below e =
    elim (cases_eq n ports) [
      | inl last ↦
          (let same : status_offset ports ≡ offset = omega arith in
          rw (eq-eqb (status_offset ports) offset same) (ap (λ k. Some k) (omega arith)))
      | inr other ↦
          (let not : status_offset ports ≢ offset = omega arith in
          rw (ne_eqb (status_offset ports) offset not)
          (status_port-found ports offset n (omega arith) e))
    ]
