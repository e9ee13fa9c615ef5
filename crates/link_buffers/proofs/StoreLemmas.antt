-- What is true of every store stays true where a packet is put or popped.
use Rattle.std.proofs.Common.{ℕ, ◌+◌, ◌-◌, ◌<◌, ◌≤◌, List, [], ◌∷◌, ◌++◌, length, ◌∙◌, arith, length-set, length-append, length-drop}
use Rattle.rio_packets.specs.Fields.{prio_of}
use Rattle.rio_packets.specs.LinkForm.{Passes}
use Rattle.link_buffers.specs.Queues.{list_at, appended, popped, packet_count, IsCounted, IsInStore, IsOutStore}
use Rattle.link_buffers.proofs.QueueLemmas.{each-set, packet_count_four, packet_count-appended, packet_count-popped, Sorted-appended, Sorted-popped, ArePackets-appended, ArePackets-popped}

pub IsInStore-appended :
    (lists : List (List (List ℕ))) (buffers : ℕ) (packet : List ℕ) → IsInStore (record {
      lists = lists;
      buffers = buffers;
    })
    → prio_of packet < 4 → Passes packet → packet_count lists < buffers → IsInStore (record {
      lists = appended lists (prio_of packet) packet;
      buffers = buffers;
    })
IsInStore-appended lists buffers packet is few passes room =
    let within : prio_of packet < length lists = omega arith in
    let more = packet_count-appended lists (prio_of packet) packet within in
    record {
      four = length-set lists (prio_of packet) _ ∙ is.four;
      sorted = Sorted-appended lists packet is.four few is.sorted;
      packets = ArePackets-appended lists packet is.four few passes is.packets;
      within = omega arith;
      least = is.least;
      most = is.most;
    }

pub IsInStore-popped :
    (lists : List (List (List ℕ))) (buffers prio : ℕ) → IsInStore (record {
      lists = lists;
      buffers = buffers;
    })
    → prio < 4 → 0 < length (list_at lists prio) → IsInStore (record {
      lists = popped lists prio;
      buffers = buffers;
    })
IsInStore-popped lists buffers prio is few some =
    let within : prio < length lists = omega arith in
    let fewer = packet_count-popped lists prio within some in
    record {
      four = length-set lists prio _ ∙ is.four;
      sorted = Sorted-popped lists prio is.four few is.sorted;
      packets = ArePackets-popped lists prio is.four few is.packets;
      within = omega arith;
      least = is.least;
      most = is.most;
    }

pub IsCounted-appended :
    (lists : List (List (List ℕ))) (buffers free : ℕ) (packet : List ℕ)
    → IsCounted (record { lists = lists; buffers = buffers }) free
    → prio_of packet < 4 → Passes packet → packet_count lists < buffers
    → IsCounted (record { lists = appended lists (prio_of packet) packet; buffers = buffers })
    (free - 1)
IsCounted-appended lists buffers free packet is few passes room =
    let within : prio_of packet < length lists = omega (arith, is.store_is.four) in
    let more = packet_count-appended lists (prio_of packet) packet within in
    record {
      exact = omega arith;
      store_is = IsInStore-appended lists buffers packet is.store_is few passes room;
    }

pub IsCounted-popped :
    (lists : List (List (List ℕ))) (buffers free prio : ℕ)
    → IsCounted (record { lists = lists; buffers = buffers }) free
    → prio < 4 → 0 < length (list_at lists prio)
    → IsCounted (record { lists = popped lists prio; buffers = buffers }) (free + 1)
IsCounted-popped lists buffers free prio is few some =
    let within : prio < length lists = omega (arith, is.store_is.four) in
    let fewer = packet_count-popped lists prio within some in
    record {
      exact = omega arith;
      store_is = IsInStore-popped lists buffers prio is.store_is few some;
    }

pub IsOutStore-appended :
    (lists : List (List (List ℕ))) (packet : List ℕ) → IsOutStore lists
    → prio_of packet < 4 → Passes packet → length (list_at lists (prio_of packet)) < 16
    → IsOutStore (appended lists (prio_of packet) packet)
IsOutStore-appended lists packet is few passes room =
    let within : prio_of packet < length lists = omega arith in
    let longer = length-append (list_at lists (prio_of packet)) (packet ∷ []) in
    record {
      four = length-set lists (prio_of packet) _ ∙ is.four;
      sorted = Sorted-appended lists packet is.four few is.sorted;
      packets = ArePackets-appended lists packet is.four few passes is.packets;
      within =
          each-set (λ _ packets. length packets ≤ 16) lists (prio_of packet) _ within (omega arith)
          is.within;
    }

-- if one list has room, there are fewer packets than all lists together may have
pub IsOutStore-room :
    (lists : List (List (List ℕ))) (packet : List ℕ) → IsOutStore lists
    → prio_of packet < 4 → length (list_at lists (prio_of packet)) < 16 → packet_count lists < 64
IsOutStore-room lists packet is few room =
    let within : prio_of packet < length lists = omega arith in
    let longer = length-append (list_at lists (prio_of packet)) (packet ∷ []) in
    let most =
    each-set (λ _ packets. length packets ≤ 16) lists (prio_of packet)
    (list_at lists (prio_of packet) ++ packet ∷ []) within (omega arith) is.within in
    let more = packet_count-appended lists (prio_of packet) packet within in
    let all =
    packet_count_four (appended lists (prio_of packet) packet)
    (length-set lists (prio_of packet) _ ∙ is.four) in
    let first = most 0 (omega arith) in
    let second = most 1 (omega arith) in
    let third = most 2 (omega arith) in
    let fourth = most 3 (omega arith) in
    omega arith

pub IsOutStore-popped : (lists : List (List (List ℕ))) (prio : ℕ) → IsOutStore lists → prio < 4
    → IsOutStore (popped lists prio)
IsOutStore-popped lists prio is few =
    let within : prio < length lists = omega arith in
    let shorter = length-drop 1 (list_at lists prio) in
    let before = is.within prio few in
    record {
      four = length-set lists prio _ ∙ is.four;
      sorted = Sorted-popped lists prio is.four few is.sorted;
      packets = ArePackets-popped lists prio is.four few is.packets;
      within =
          each-set (λ _ packets. length packets ≤ 16) lists prio _ within (omega arith) is.within;
    }
