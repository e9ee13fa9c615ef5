-- The first packet of a list has the priority of the list.
use Rattle.std.proofs.Common.{◌≡◌, ℕ, ◌<◌, List, [], ◌∷◌, slice_get, Some, All, arith}
use Rattle.rio_packets.specs.Fields.{prio_of}
use Rattle.link_buffers.specs.Queues.{list_at, IsOutStore}

All-first : (packets : List (List ℕ)) (prio : ℕ) (packet : List ℕ)
    → All (λ p. prio_of p ≡ prio) packets → slice_get packets 0 ≡ Some packet
    → prio_of packet ≡ prio
All-first [] prio packet all is = cc
All-first (x ∷ xs) prio packet all is = let first : prio_of x ≡ prio = all 0 [] (omega arith) in cc

pub first_has_prio :
    (lists : List (List (List ℕ))) (prio : ℕ) (packet : List ℕ) → IsOutStore lists → prio < 4
    → slice_get (list_at lists prio) 0 ≡ Some packet → prio_of packet ≡ prio
first_has_prio lists prio packet store few is =
    All-first (list_at lists prio) prio packet (store.sorted prio few) is
