-- What is allowed after a symbol is no less than what it frees, row by row of the table.
use Rattle.fabric_trace.proofs.Prelude.{◌≡◌, ◌≢◌, inl, inr, ℕ, ◌+◌, ◌%◌, ◌<◌, ◌≤◌, ◌==◌, nat_le, ◌++◌, Bool, true, false, List, [], ◌∷◌, length, refl, sym, ap, ◌∙◌, subst, arith, if◌then◌else◌, cases_lt, eqb_tells, Event, Ctl, Stype0, PacketAccepted, PacketRetry, PacketNotAccepted, LinkResponse, OtherStype0, stype0, hears, accepted, retried, Outstanding, distance, is_oldest, without_oldest, from_ack, IsOutput, oldest_of, oldest_cases, raised_by, raised, raised_all}
use Rattle.link_model.specs.Output as out

-- ---- the allowance only grows

raised_by_more : (kind : Stype0) (n ack : ℕ) → n ≤ raised_by kind n ack
raised_by_more PacketAccepted n ack =
    elim (ack == n % 32) as (λ b. n ≤ (if b then n + 1 else n)) [
      | true ↦ omega arith
      | false ↦
          omega arith
    ]
raised_by_more PacketRetry n ack = omega arith
raised_by_more PacketNotAccepted n ack = omega arith
raised_by_more LinkResponse n ack = omega arith
raised_by_more OtherStype0 n ack = omega arith

pub raised_more : (e : Event) (n : ℕ) → n ≤ raised n e
raised_more (Ctl symbol) n = raised_by_more (stype0 symbol.s0) n symbol.p0
raised_more _ n = omega arith

pub raised_all_more : (events : List Event) (n : ℕ) → n ≤ raised_all n events
raised_all_more [] n = omega arith
raised_all_more (e ∷ events) n =
    let one = raised_more e n in
    let more = raised_all_more events (raised n e) in
    omega (arith, one, more)

pub raised-append : (xs ys : List Event) (n : ℕ)
    → raised_all n (xs ++ ys) ≡ raised_all (raised_all n xs) ys
raised-append [] ys n = refl
raised-append (x ∷ xs) ys n = raised-append xs ys (raised n x)

-- ---- one symbol

-- The packet of number n is the oldest, and so many are allowed: a row frees no more than are
-- allowed after its symbol. One that frees nothing does so.
none_freed : (n a freed : ℕ) (kind : Stype0) (ack : ℕ) → freed ≡ 0 → n ≤ a
    → n + freed ≤ raised_by kind a ack
none_freed n a freed kind ack none low =
    let more = raised_by_more kind a ack in
    omega (arith, none, low, more)

above : (n a : ℕ) → n ≤ a → (n ≡ a → ⊥) → n + 1 ≤ a
above n a low apart =
    elim (cases_lt n a) [
      | inl less ↦ omega (arith, less)
      | inr most ↦
          absurd (apart (omega (arith, low, most)))
    ]

-- an acceptance of the oldest packet is one of the packet whose turn it is, or more are allowed
-- already
accepted_low : (n a ack : ℕ) → ack ≡ n % 32 → n ≤ a → n + 1 ≤ raised_by PacketAccepted a ack
accepted_low n a ack is low =
    elim (eqb_tells ack (a % 32)) [
      | inl (test, same) ↦
          subst (λ (b : Bool). n + 1 ≤ (if b then a + 1 else a)) (sym test) (omega (arith, low))
      | inr (test, apart) ↦
          subst (λ (b : Bool). n + 1 ≤ (if b then a + 1 else a)) (sym test)
          (above n a low (λ e. apart (is ∙ ap (λ k. k % 32) e)))
    ]

accepted_row : (n a : ℕ) (w : Outstanding) (ack : ℕ) → w.oldest ≡ n % 32 → n ≤ a
    → n + (accepted w ack).freed ≤ raised_by PacketAccepted a ack
accepted_row n a w ack is low =
    elim (oldest_cases w ack) [
      | inl (test, same) ↦
          subst (λ (b : Bool). n
          + (if b then out.heard (out.Output.Ok (without_oldest w)) 1 else out.error w).freed
          ≤ raised_by PacketAccepted a ack) (sym test) (accepted_low n a ack (same ∙ is) low)
      | inr test ↦
          subst (λ (b : Bool). n
          + (if b then out.heard (out.Output.Ok (without_oldest w)) 1 else out.error w).freed
          ≤ raised_by PacketAccepted a ack) (sym test)
          (none_freed n a 0 PacketAccepted ack refl low)
    ]

retried_frees : (w : Outstanding) (ack : ℕ) → (retried w ack).freed ≡ 0
retried_frees w ack =
    elim (is_oldest w ack) as (λ b.
    (if b then out.heard (out.Output.RetryStopped w) 0 else out.error w).freed ≡ 0) [
      | true ↦ refl
      | false ↦ refl
    ]

-- the next number with this ackID from a number on grows with the number
next_low : (n a ack : ℕ) → n ≤ a → ack < 32 → n + distance (n % 32) ack ≤ a + distance (a % 32) ack
next_low n a ack low small = omega (arith, low, small)

abbrev response : Outstanding → ℕ → Bool → out.Heard
response w ack known =
    if known then out.heard (out.Output.Ok (from_ack ack w.report))
    (distance w.oldest ack) else out.heard out.Output.Failed 0

response_by : (n a : ℕ) (w : Outstanding) (ack : ℕ) (known : Bool) → w.oldest ≡ n % 32 → n ≤ a
    → IsOutput (response w ack known).state → (response w ack known).state ≢ out.Output.Failed
    → n + (response w ack known).freed ≤ raised_by LinkResponse a ack
response_by n a w ack true is low bounded working =
    let next = next_low n a ack low bounded.oldest in
    let same : distance w.oldest ack ≡ distance (n % 32) ack = ap (λ k. distance k ack) is in
    omega (arith, same, next)
response_by n a w ack false is low bounded working = absurd (working refl)

pub heard_rows : (n a : ℕ) (kind : Stype0) (output : out.Output) (ack : ℕ)
    → oldest_of output ≡ n % 32 → n ≤ a → IsOutput (hears kind output ack).state
    → (hears kind output ack).state ≢ out.Output.Failed
    → n + (hears kind output ack).freed ≤ raised_by kind a ack
heard_rows n a PacketAccepted (out.Output.Ok w) ack is low bounded working =
    accepted_row n a w ack is low
heard_rows n a PacketAccepted _ ack is low bounded working =
    none_freed n a 0 PacketAccepted ack refl low
heard_rows n a PacketRetry (out.Output.Ok w) ack is low bounded working =
    none_freed n a (retried w ack).freed PacketRetry ack (retried_frees w ack) low
heard_rows n a PacketRetry _ ack is low bounded working = none_freed n a 0 PacketRetry ack refl low
heard_rows n a PacketNotAccepted (out.Output.Ok w) ack is low bounded working =
    none_freed n a 0 PacketNotAccepted ack refl low
heard_rows n a PacketNotAccepted _ ack is low bounded working =
    none_freed n a 0 PacketNotAccepted ack refl low
heard_rows n a LinkResponse (out.Output.ErrorStopped true w) ack is low bounded working =
    response_by n a w ack (nat_le (distance w.oldest ack) (length w.prios)) is low bounded working
heard_rows n a LinkResponse _ ack is low bounded working =
    none_freed n a 0 LinkResponse ack refl low
heard_rows n a OtherStype0 (out.Output.Ok w) ack is low bounded working =
    none_freed n a 0 OtherStype0 ack refl low
heard_rows n a OtherStype0 _ ack is low bounded working = none_freed n a 0 OtherStype0 ack refl low
