-- The credit that a report gives is no more than the buffers that are free.
use Rattle.link_sound.proofs.Prelude.{◌≡◌, ℕ, ◌+◌, ◌-◌, ◌%◌, ◌<◌, ◌≤◌, Option, Some, IfSome, List, map, length, subst, arith, distance, Output, Outstanding, next_ack, credit, Report, Event, PortState, IsPort, prios_of, expected_of, word, IsCovered, AreCountedAt, HasTold, free_buffers}
use Rattle.link_sound.proofs.CreditHears.{distance_counts}
use Rattle.link_sound.proofs.CreditStays.{few_outstanding}

-- the credit of a report, with the packets that are sent and not held yet
credit_there :
    (oldest expected free_now freed held count base free number ack : ℕ) → oldest ≡ freed % 32
    → expected ≡ held % 32 → freed ≤ held → held ≤ freed + count → count ≤ 31
    → number ≡ base % 32 → base ≤ held → freed + count ≤ base + 31
    → free + base ≤ free_now + held → ack ≡ (freed + count) % 32
    → 0 < free - distance number ack
    → free - distance number ack + (count - distance oldest expected) ≤ free_now
credit_there oldest expected free_now freed held count base free number ack first second below sent
    few third told near enough next some =
    let far =
    distance_counts number ack base (freed + count) third next (omega arith) near in
    let lent = distance_counts oldest expected freed held first second below (omega arith) in
    omega arith

pub credit_is_there :
    (a b : PortState) (kept_b : List Event) (w : Outstanding) (report : Report) → IsPort a
    → HasTold a b kept_b → a.output ≡ Output.Ok w → w.report ≡ Some report
    → 0 < credit report (next_ack w)
    → credit report (next_ack w) + (length w.prios - distance w.oldest (expected_of b.input))
    ≤ free_buffers b.received
credit_is_there a b kept_b w report is told ok keeps some =
    let total = free_buffers b.received + told.held in
    let c =
    subst (λ (o : Output). AreCountedAt o b.input total told.freed told.held (map word kept_b)) ok
    told.counted in
    let covered =
    subst (λ (r : Option Report). IfSome r
    (IsCovered told.held (told.freed + length w.prios) total)) keeps c.report_is in
    let few =
    subst (λ (o : Output). length (prios_of o) ≤ 31) ok
    (few_outstanding a.output is.outstanding) in
    credit_there w.oldest (expected_of b.input) (free_buffers b.received) told.freed told.held
    (length w.prios) covered.base report.free report.base (next_ack w) c.oldest_is c.expected_is
    c.held_first c.sent_first few covered.number covered.told_first covered.near covered.enough
    (omega (arith, c.oldest_is)) some
