-- What a symbol frees, it tells of, row by row of the table.
use Rattle.fabric_trace.proofs.Prelude.{◌≡◌, ◌≢◌, inl, inr, ℕ, ◌+◌, ◌%◌, ◌<◌, ◌≤◌, nat_le, Bool, true, false, List, length, refl, sym, ap, ◌∙◌, subst, arith, if◌then◌else◌, leb-true, ltb-true, and_parts, Stype0, PacketAccepted, PacketRetry, PacketNotAccepted, LinkResponse, OtherStype0, hears, accepted, retried, Outstanding, distance, is_oldest, prios_of, IsOutput, oldest_of, oldest_cases, without_oldest, from_ack}
use Rattle.link_model.specs.Output as out

-- ---- one symbol

-- what a kind of symbol with an ackID tells of the packet of a number
abbrev pub Tells : Stype0 → ℕ → ℕ → Type 0
Tells PacketAccepted ack j = ack ≡ j % 32
Tells PacketRetry ack j = ⊥
Tells PacketNotAccepted ack j = ⊥
Tells LinkResponse ack j = Unit {0}
Tells OtherStype0 ack j = ⊥

-- A symbol frees the packets that it tells of, and as many as its count; the oldest is the next
-- one. The packet of number n was the oldest.
pub record IsHeard (n : ℕ) (kind : Stype0) (output : out.Output) (ack : ℕ) : Type 0 where
  pub oldest : oldest_of (hears kind output ack).state ≡ (n + (hears kind output ack).freed) % 32
  pub tells : (i : ℕ) → i < (hears kind output ack).freed → Tells kind ack (n + i)
  pub few : (hears kind output ack).freed ≤ length (prios_of output)

-- a kind of symbol that frees nothing and leaves the oldest packet
stays : (n : ℕ) (kind : Stype0) (output : out.Output) (ack : ℕ) → (hears kind output ack).freed ≡ 0
    → oldest_of (hears kind output ack).state ≡ oldest_of output → oldest_of output ≡ n % 32
    → IsHeard n kind output ack
stays n kind output ack none same is =
    let here : n % 32 ≡ (n + (hears kind output ack).freed) % 32 =
    (let more : n ≡ n + (hears kind output ack).freed =
    omega (arith, none) in ap (λ k. k % 32) more) in
    record {
      oldest = same ∙ is ∙ here;
      tells = λ i few. absurd (omega (arith, none, few));
      few = omega (arith, none);
    }

-- of what a row gives
record IsRow (n : ℕ) (row : out.Heard) (w : Outstanding) (Tell : ℕ → Type 0) : Type 0 where
  pub oldest : oldest_of row.state ≡ (n + row.freed) % 32
  pub tells : (i : ℕ) → i < row.freed → Tell (n + i)
  pub few : row.freed ≤ length w.prios

error_row : (n : ℕ) (w : Outstanding) (Tell : ℕ → Type 0) → w.oldest ≡ n % 32
    → IsRow n (out.error w) w Tell
error_row n w Tell is = record {
  oldest = is ∙ (let more : n ≡ n + 0 = omega arith in ap (λ k. k % 32) more);
  tells = λ i few. absurd (omega (arith, few));
  few = omega arith;
}

pub oldest_some : (w : Outstanding) (ack : ℕ) → is_oldest w ack ≡ true → 0 < length w.prios
oldest_some w ack is = ltb-true 0 (length w.prios) (and_parts _ _ is).0

accepted_row : (n : ℕ) (w : Outstanding) (ack : ℕ) → w.oldest ≡ n % 32
    → IsRow n (accepted w ack) w (λ j. ack ≡ j % 32)
accepted_row n w ack is =
    elim (oldest_cases w ack) [
      | inl (test, same) ↦
          let some = oldest_some w ack test in
          subst (λ (b : Bool). IsRow n
          (if b then out.heard (out.Output.Ok (without_oldest w)) 1 else out.error w) w
          (λ j. ack ≡ j % 32)) (sym test) (record {
            oldest = omega (arith, is);
            tells = λ i few. (let first : i ≡ 0 = omega (arith, few) in same ∙ is
                ∙ (let more : n ≡ n + i = omega (arith, first) in ap (λ k. k % 32) more));
            few = omega (arith, some);
          })
      | inr test ↦
          subst (λ (b : Bool). IsRow n
          (if b then out.heard (out.Output.Ok (without_oldest w)) 1 else out.error w) w
          (λ j. ack ≡ j % 32)) (sym test) (error_row n w (λ j. ack ≡ j % 32) is)
    ]

-- of a response, by whether its ackID is one of those that are outstanding, or the next
abbrev response : Outstanding → ℕ → Bool → out.Heard
response w ack known =
    if known then out.heard (out.Output.Ok (from_ack ack w.report))
    (distance w.oldest ack) else out.heard out.Output.Failed 0

response_by : (n : ℕ) (w : Outstanding) (ack : ℕ) (known : Bool)
    → nat_le (distance w.oldest ack) (length w.prios) ≡ known → w.oldest ≡ n % 32
    → IsOutput (response w ack known).state
    → (response w ack known).state ≢ out.Output.Failed
    → IsRow n (response w ack known) w (λ j. Unit {0})
response_by n w ack true test is bounded working = record {
  oldest = (let small = bounded.oldest in omega (arith, is, small));
  tells = λ i few. tt;
  few = leb-true (distance w.oldest ack) (length w.prios) test;
}
response_by n w ack false test is bounded working = absurd (working refl)

of_row : (n : ℕ) (kind : Stype0) (output : out.Output) (ack : ℕ) (w : Outstanding)
    → prios_of output ≡ w.prios → IsRow n (hears kind output ack) w (Tells kind ack)
    → IsHeard n kind output ack
of_row n kind output ack w same row =
    record {
      oldest = row.oldest;
      tells = row.tells;
      few = subst (λ (l : List ℕ). (hears kind output ack).freed ≤ length l) (sym same) row.few;
    }

retried_row : (n : ℕ) (w : Outstanding) (ack : ℕ) → w.oldest ≡ n % 32
    → IsRow n (retried w ack) w (λ j. ⊥)
retried_row n w ack is =
    elim (is_oldest w ack) as (λ b. IsRow n
    (if b then out.heard (out.Output.RetryStopped w) 0 else out.error w) w (λ j. ⊥)) [
      | true ↦ record {
        oldest = is ∙ (let more : n ≡ n + 0 = omega arith in ap (λ k. k % 32) more);
        tells = λ i few. absurd (omega (arith, few));
        few = omega arith;
      }
      | false ↦ error_row n w (λ j. ⊥) is
    ]

pub heard_rows : (n : ℕ) (kind : Stype0) (output : out.Output) (ack : ℕ) → oldest_of output ≡ n % 32
    → IsOutput (hears kind output ack).state → (hears kind output ack).state ≢ out.Output.Failed
    → IsHeard n kind output ack
heard_rows n PacketAccepted (out.Output.Ok w) ack is bounded working =
    of_row n PacketAccepted (out.Output.Ok w) ack w refl (accepted_row n w ack is)
heard_rows n PacketAccepted (out.Output.RetryStopped w) ack is bounded working =
    of_row n PacketAccepted (out.Output.RetryStopped w) ack w refl
    (error_row n w (λ j. ack ≡ j % 32) is)
heard_rows n PacketAccepted (out.Output.ErrorStopped asked w) ack is bounded working =
    stays n PacketAccepted (out.Output.ErrorStopped asked w) ack refl refl is
heard_rows n PacketAccepted out.Output.Failed ack is bounded working =
    stays n PacketAccepted out.Output.Failed ack refl refl is
heard_rows n PacketRetry (out.Output.Ok w) ack is bounded working =
    of_row n PacketRetry (out.Output.Ok w) ack w refl (retried_row n w ack is)
heard_rows n PacketRetry (out.Output.RetryStopped w) ack is bounded working =
    of_row n PacketRetry (out.Output.RetryStopped w) ack w refl (error_row n w (λ j. ⊥) is)
heard_rows n PacketRetry (out.Output.ErrorStopped asked w) ack is bounded working =
    stays n PacketRetry (out.Output.ErrorStopped asked w) ack refl refl is
heard_rows n PacketRetry out.Output.Failed ack is bounded working =
    stays n PacketRetry out.Output.Failed ack refl refl is
heard_rows n PacketNotAccepted (out.Output.Ok w) ack is bounded working =
    of_row n PacketNotAccepted (out.Output.Ok w) ack w refl (error_row n w (λ j. ⊥) is)
heard_rows n PacketNotAccepted (out.Output.RetryStopped w) ack is bounded working =
    of_row n PacketNotAccepted (out.Output.RetryStopped w) ack w refl (error_row n w (λ j. ⊥) is)
heard_rows n PacketNotAccepted (out.Output.ErrorStopped asked w) ack is bounded working =
    stays n PacketNotAccepted (out.Output.ErrorStopped asked w) ack refl refl is
heard_rows n PacketNotAccepted out.Output.Failed ack is bounded working =
    stays n PacketNotAccepted out.Output.Failed ack refl refl is
heard_rows n LinkResponse (out.Output.Ok w) ack is bounded working =
    stays n LinkResponse (out.Output.Ok w) ack refl refl is
heard_rows n LinkResponse (out.Output.RetryStopped w) ack is bounded working =
    stays n LinkResponse (out.Output.RetryStopped w) ack refl refl is
heard_rows n LinkResponse (out.Output.ErrorStopped true w) ack is bounded working =
    of_row n LinkResponse (out.Output.ErrorStopped true w) ack w refl
    (response_by n w ack (nat_le (distance w.oldest ack) (length w.prios)) refl is bounded working)
heard_rows n LinkResponse (out.Output.ErrorStopped false w) ack is bounded working =
    stays n LinkResponse (out.Output.ErrorStopped false w) ack refl refl is
heard_rows n LinkResponse out.Output.Failed ack is bounded working =
    stays n LinkResponse out.Output.Failed ack refl refl is
heard_rows n OtherStype0 (out.Output.Ok w) ack is bounded working =
    stays n OtherStype0 (out.Output.Ok w) ack refl refl is
heard_rows n OtherStype0 (out.Output.RetryStopped w) ack is bounded working =
    stays n OtherStype0 (out.Output.RetryStopped w) ack refl refl is
heard_rows n OtherStype0 (out.Output.ErrorStopped asked w) ack is bounded working =
    stays n OtherStype0 (out.Output.ErrorStopped asked w) ack refl refl is
heard_rows n OtherStype0 out.Output.Failed ack is bounded working =
    stays n OtherStype0 out.Output.Failed ack refl refl is
