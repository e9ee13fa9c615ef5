-- What a sender that knows the room of the far port starts.
use Rattle.link_machine.proofs.Prelude.{◌≡◌, inl, inr, ℕ, Bool, true, false, List, slice_get, Option, Some, refl, sym, ap, ◌∙◌, arith, prio_of, Input, from_ack, next_ack, credited, report_of, has_credit, list_at, room_for, highest, highest_below-some, PortState, IsPort, expected_of, buffer_status, is_ready, last_report, is_some, IsAtRest, KnowsRoom, IsDone}
use Rattle.link_machine.proofs.Settling.Packets.{next_is}
use Rattle.link_machine.proofs.Settling.Waiting.{first_waiting, ready_is, credited_has, uncredited, no_room, has_room, All-first}

-- of two ports in a direction at rest, what the sender knows
report_is : (p q : PortState) (rests : IsAtRest p q) → KnowsRoom p q
    → rests.report ≡ report_of rests.ack (buffer_status q.tells q.received)
report_is p q rests knows =
    sym (ap last_report rests.sender_ok)
    ∙ knows
    ∙ ap (λ (i : Input). report_of (expected_of i) (buffer_status q.tells q.received))
    rests.receiver_ok

-- its credit is by what the receiver tells now
credit_is : (p q : PortState) (rests : IsAtRest p q) (prio : ℕ) → KnowsRoom p q → IsPort q
    → has_credit rests.report (next_ack (from_ack rests.ack rests.report)) prio
    ≡ has_credit (report_of rests.ack (buffer_status q.tells q.received)) rests.ack prio
credit_is p q rests prio knows far =
    let expected = ap expected_of rests.receiver_ok in
    let below = far.expected_ack in
    let next = next_is rests.ack rests.report (omega arith) in
    (λ i. has_credit (report_is p q rests knows i) (next i) prio)

-- a packet stands in the list of its priority
own_prio : (p : PortState) (prio : ℕ) (packet : List ℕ) → IsPort p → highest p.queued ≡ Some prio
    → slice_get (list_at p.queued prio) 0 ≡ Some packet → prio_of packet ≡ prio
own_prio p prio packet is highest_is first =
    let few = (highest_below-some 4 prio p.queued highest_is).0 in
    All-first (λ (x : List ℕ). prio_of x ≡ prio) (list_at p.queued prio) packet
    (is.sends.sorted prio few) first

-- If no turn starts a packet, none waits, or the first that waits has no room.
pub none_starts : (p q : PortState) (rests : IsAtRest p q) → KnowsRoom p q → IsPort p → IsPort q
    → is_ready p ≡ false → IsDone p q
none_starts p q rests knows near far none =
    let w = from_ack rests.ack rests.report in
    elim (uncredited w (highest p.queued)
    (sym (ready_is p rests.ack rests.report rests.sender_ok) ∙ none)) [
      | inl empty ↦ inl empty
      | inr found ↦
          let first =
          first_waiting p.queued (highest p.queued) refl (ap is_some found.1) in
          let same : found.0 ≡ first.prio =
          some_same found.0 first.prio (sym found.1 ∙ first.highest_is) in
          let full =
          no_room q.tells q.received rests.ack found.0
          (sym (credit_is p q rests found.0 knows far) ∙ found.2) in
          inr (record {
            prio = first.prio;
            packet = first.packet;
            highest_is = first.highest_is;
            first = first.first;
            full =
                ap (room_for q.received)
                (own_prio p first.prio first.packet near first.highest_is first.first ∙ sym same)
                ∙ full;
          })
    ]
  where
    some_same : (x y : ℕ) → Some x ≡ Some y → x ≡ y
    some_same x y is = cc

-- If one starts and the far port tells its free buffers, it has room.
pub starts_with_room : (p q : PortState) (rests : IsAtRest p q) (prio : ℕ) (packet : List ℕ)
    → KnowsRoom p q → IsPort p → IsPort q → q.tells ≡ true → is_ready p ≡ true
    → highest p.queued ≡ Some prio → slice_get (list_at p.queued prio) 0 ≡ Some packet
    → room_for q.received (prio_of packet) ≡ true
starts_with_room p q rests prio packet knows near far tells starts highest_is first =
    let w = from_ack rests.ack rests.report in
    let some : is_some (credited w (Some prio)) ≡ true =
    ap (λ (o : Option ℕ). is_some (credited w o)) (sym highest_is)
    ∙ sym (ready_is p rests.ack rests.report rests.sender_ok)
    ∙ starts in
    let told =
    ap (λ (b : Bool). has_credit (report_of rests.ack (buffer_status b q.received)) rests.ack prio)
    (sym tells)
    ∙ sym (credit_is p q rests prio knows far)
    ∙ credited_has w prio some in
    ap (room_for q.received) (own_prio p prio packet near highest_is first)
    ∙ has_room q.received rests.ack prio far.receives told
