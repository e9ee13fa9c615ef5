-- The link form of a short body as a list.
use Rattle.std.proofs.Common.{◌≡◌, ◌≢◌, ℕ, ◌+◌, ◌/◌, ◌%◌, ◌≤◌, Bool, true, false, List, [], ◌∷◌, ◌++◌, length, subst, ◌∙◌, inl, inr, arith, length-append}
use Rattle.rio_packets.specs.LinkForm.{IsBody, LinkForm, Passes, padded}
use Rattle.rio_packets.specs.Register.{running}
use Rattle.rio_packets.specs.Hops.{closed, message_ended}
use Rattle.rio_packets.specs.Making.{made}
use Rattle.rio_packets.proofs.CrcLaws.{IsCrc-halves, IsCrc-one}
use Rattle.rio_packets.proofs.FormLaws.{LinkForm-made, Passes-from_form}
use Rattle.rio_packets.proofs.PadLaws.{padded-fours, padded-other}

pub length-closed : (body : List ℕ) → length (closed body) ≡ length body + 2
unfolding closed
length-closed body = length-append body (running body / 256 ∷ running body % 256 ∷ [])

-- A body of at most 80 bytes is followed by its CRC and the pad.
short-link_form : (body p : List ℕ) → LinkForm body p → length body ≤ 80 → p ≡ padded (closed body)
unfolding closed
short-link_form body p form h =
    elim form.form [
      | inl s ↦
          (let least = form.is_body.least in
          let crc = IsCrc-one body s.x s.y (running body / 256) (running body % 256) s.crc
          (IsCrc-halves body (omega arith) form.is_body.range) in
          s.is ∙ (λ i. padded (body ++ crc.0 i ∷ crc.1 i ∷ [])))
      | inr l ↦ absurd (let beyond = l.beyond in omega arith)
    ]

-- If its length is 2 above a multiple of four, its CRC alone follows it.
pub closed-link_form : (body p : List ℕ) → LinkForm body p → length body ≤ 80 → length body % 4 ≡ 2
    → p ≡ closed body
closed-link_form body p form h k =
    let size = length-closed body in
    short-link_form body p form h ∙ padded-fours (closed body) (omega arith)

-- how far the length of a body is above a multiple of four if it is that of a maintenance packet
abbrev pub above_fours : Bool → ℕ
above_fours false = 2
above_fours true = 0

-- A maintenance packet ends as the size of its IDs says.
pub ended-link_form : (large : Bool) (body p : List ℕ) → LinkForm body p → length body ≤ 80
    → length body % 4 ≡ above_fours large → p ≡ message_ended large body
ended-link_form false body p form h k = closed-link_form body p form h k
ended-link_form true body p form h k =
    let size = length-closed body in
    let other : length (closed body) % 4 ≢ 0 = λ e. absurd (omega (arith, e, size, k)) in
    short-link_form body p form h ∙ padded-other (closed body) other

-- And as it ends it passes.
pub Passes-ended : (large : Bool) (body : List ℕ) → IsBody body → length body ≤ 80
    → length body % 4 ≡ above_fours large → Passes (message_ended large body)
Passes-ended large body is_body h k =
    let form = LinkForm-made body is_body in
    subst Passes (ended-link_form large body (made body) form h k) (Passes-from_form body
    (made body) form)
