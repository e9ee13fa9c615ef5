-- Four lists of packets in the places of one block. Each list is a ring of the numbers of its
-- places. A place is written when it is first needed, and again once it is free.
use Rattle.std.specs.Prelude.{◌≡◌, ℕ, ◌+◌, ◌≤◌, List, [], ◌∷◌, ◌++◌, length, map, All, sum_by, slice_index_or, slice_set}
use Rattle.circular_buffer.specs.Buffer.{Buffer}
use Rattle.link_buffers.specs.Priorities.{count_of}

-- what contracts see of the rings: their lists, and how many packets they may hold together
pub record Roomy : Type 0 where
  pub lists : List (List (List ℕ))
  pub room : ℕ

-- the packet in a place
abbrev pub stowed_at : List (List ℕ) → ℕ → List ℕ
stowed_at places place = slice_index_or places place []

-- the lists in the rings
abbrev pub lists_of : List (List ℕ) → List (Buffer ℕ) → List (List (List ℕ))
lists_of places rings = map (λ ring. map (stowed_at places) ring.items) rings

-- how often a place stands in the rings
abbrev pub uses_of : List (Buffer ℕ) → ℕ → ℕ
uses_of rings place = sum_by (λ ring. count_of ring.items place) rings

-- a packet that was put in a place: the places, those that are free, and the place
pub record Stowed : Type 0 where
  pub places : List (List ℕ)
  pub free : List ℕ
  pub place : ℕ

-- the first free place, or else one more, gets a packet
unfoldable pub stowed : List (List ℕ) → List ℕ → List ℕ → Stowed
stowed places [] packet = record {
  places = places ++ packet ∷ [];
  free = [];
  place = length places;
}
stowed places (place ∷ free) packet = record {
  places = slice_set places place packet;
  free = free;
  place = place;
}

-- there are four rings, and each place is in one of them or is free
pub record AreRings
    (places : Buffer (List ℕ)) (free : Buffer ℕ) (rings : List (Buffer ℕ)) (room : ℕ) : Type 0 where
  pub four : length rings ≡ 4
  pub alike : All (λ ring. ring.capacity ≡ room) rings
  pub free_alike : free.capacity ≡ room
  pub places_alike : places.capacity ≡ room
  pub once : (place : ℕ) → uses_of rings place + count_of free.items place ≤ 1
  pub inside : (place : ℕ) → length places.items ≤ place
      → uses_of rings place + count_of free.items place ≤ 0
  pub all : sum_by (λ ring. length ring.items) rings + length free.items ≡ length places.items
  pub within : length places.items ≤ room
  pub few : room ≤ 64
