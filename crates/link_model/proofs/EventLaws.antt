-- The event of a packet's bytes is what they carry, or why they carry nothing.
use Rattle.link_model.proofs.Prelude.{◌≡◌, ℕ, ◌<◌, ◌≤◌, Bool, nat_lt, Option, Some, None, List, length, if◌then◌else◌, inl, inr, refl, sym, ap, ◌∙◌, Decides-ltb, Carries, carried, found_or_bad, checked, BadPacket, General, Pkt, Bad, packet_or_cause, packet_event, checked_event, carried-from_Carries, carried-none, carried-out_of_range}
use Rattle.std.proofs.lemmas.Bool.{cases_lt}
use Rattle.rio_packets.proofs.BuildingLaws.{checked-few, checked-in_range}
use Rattle.link_model.proofs.ReadingSteps.{not_below}

pub event-carried : (bytes : List ℕ) (ack : ℕ) (packet : List ℕ) → Carries bytes ack packet
    → packet_event bytes ≡ Pkt ack packet
unfolding packet_event
event-carried bytes ack packet k =
    ap (λ (o : Option (ℕ × List ℕ)). packet_or_cause o (if nat_lt (length bytes) 8 then General
    else BadPacket)) (carried-from_Carries bytes ack packet k)

pub event-too_short : (bytes : List ℕ) → length bytes < 8 → packet_event bytes ≡ Bad General
unfolding packet_event
event-too_short bytes few =
    ap (λ (o : Option (ℕ × List ℕ)). packet_or_cause o
    (if nat_lt (length bytes) 8 then General else BadPacket)) (carried-out_of_range bytes (inl few))
    ∙ ap (λ (b : Bool). Bad (if b then General else BadPacket))
    ((Decides-ltb (length bytes) 8).1 few)

pub event-no_packet : (bytes : List ℕ) → 8 ≤ length bytes
    → ((ack : ℕ) (packet : List ℕ) → Carries bytes ack packet → ⊥)
    → packet_event bytes ≡ Bad BadPacket
unfolding packet_event
event-no_packet bytes enough never =
    ap (λ (o : Option (ℕ × List ℕ)). packet_or_cause o
    (if nat_lt (length bytes) 8 then General else BadPacket)) ((carried-none bytes).1 never)
    ∙ ap (λ (b : Bool). Bad (if b then General else BadPacket)) (not_below (length bytes) 8 enough)

-- The event of a packet's bytes is what a receiver answers of them.
pub event-checked : (bytes : List ℕ) → length bytes ≤ 276
    → packet_event bytes ≡ checked_event (checked bytes)
unfolding packet_event
event-checked bytes most =
    elim (cases_lt (length bytes) 8) [
      | inl few ↦ event-too_short bytes few ∙ sym (ap checked_event (checked-few bytes few))
      | inr enough ↦
          ap (λ (b : Bool). packet_or_cause (carried bytes) (if b then General else BadPacket))
          (not_below (length bytes) 8 enough)
          ∙ found (carried bytes) ∙ sym (ap checked_event (checked-in_range bytes enough most))
    ]
  where
    found : (o : Option (ℕ × List ℕ)) → packet_or_cause o BadPacket ≡ checked_event (found_or_bad o)
    found None = refl
    found (Some both) = refl
