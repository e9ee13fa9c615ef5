-- The packets of a store: four lists, one for each priority. A packet is the list of its bytes.
use Rattle.std.specs.Prelude.{◌≡◌, ℕ, ◌+◌, ◌-◌, ◌==◌, Bool, true, false, nat_lt, ◌<◌, ◌≤◌, List, [], ◌∷◌, ◌++◌, length, drop, filter, All, sum_by, slice_index_or, slice_set}
use Rattle.rio_packets.specs.Fields.{prio_of}
use Rattle.rio_packets.specs.LinkForm.{Passes}

-- the list of a priority, in the order in which its packets came
abbrev pub list_at : List (List (List ℕ)) → ℕ → List (List ℕ)
list_at lists prio = slice_index_or lists prio []

-- the lists with a packet at the end of the list of a priority
abbrev pub appended : List (List (List ℕ)) → ℕ → List ℕ → List (List (List ℕ))
appended lists prio packet = slice_set lists prio (list_at lists prio ++ packet ∷ [])

-- the lists without the first packet of a priority
abbrev pub popped : List (List (List ℕ)) → ℕ → List (List (List ℕ))
popped lists prio = slice_set lists prio (drop 1 (list_at lists prio))

-- how many packets there are in all lists
abbrev pub packet_count : List (List (List ℕ)) → ℕ
packet_count lists = sum_by length lists

-- the lists of a store without a packet
abbrev pub no_packets : List (List (List ℕ))
no_packets = [] ∷ [] ∷ [] ∷ [] ∷ []

-- the packets of a priority
abbrev pub of_prio : ℕ → List (List ℕ) → List (List ℕ)
of_prio prio packets = filter (λ packet. prio_of packet == prio) packets

-- each packet stands in the list of its own priority
abbrev pub Sorted : List (List (List ℕ)) → Type 0
Sorted lists = (prio : ℕ) → prio < 4 → All (λ packet. prio_of packet ≡ prio) (list_at lists prio)

-- each packet is in the form in which packets stand on a link
abbrev pub ArePackets : List (List (List ℕ)) → Type 0
ArePackets lists = (prio : ℕ) → prio < 4 → All (λ packet. Passes packet) (list_at lists prio)

-- what contracts see of a store of packets that came in: its lists and the number of buffers that
-- they share
pub record Buffered : Type 0 where
  pub lists : List (List (List ℕ))
  pub buffers : ℕ

-- whether a packet of a priority may be put: more buffers are free than there are higher priorities
-- (this project's profile)
abbrev pub room_for : Buffered → ℕ → Bool
room_for store prio = nat_lt (packet_count store.lists + (3 - prio)) store.buffers

-- a packet is put, or not
abbrev pub stored : Bool → Buffered → List ℕ → Buffered
stored true store packet = record store { lists = appended store.lists (prio_of packet) packet }
stored false store packet = store

-- what is true of every store of packets that came in
pub record IsInStore (store : Buffered) : Type 0 where
  pub four : length store.lists ≡ 4
  pub sorted : Sorted store.lists
  pub packets : ArePackets store.lists
  pub within : packet_count store.lists ≤ store.buffers
  pub least : 4 ≤ store.buffers
  pub most : store.buffers ≤ 30

-- the buffers without a packet are counted
pub record IsCounted (store : Buffered) (free : ℕ) : Type 0 where
  pub exact : free + packet_count store.lists ≡ store.buffers
  pub store_is : IsInStore store

-- what is true of every store of packets to be sent
pub record IsOutStore (lists : List (List (List ℕ))) : Type 0 where
  pub four : length lists ≡ 4
  pub sorted : Sorted lists
  pub packets : ArePackets lists
  pub within : (prio : ℕ) → prio < 4 → length (list_at lists prio) ≤ 16
