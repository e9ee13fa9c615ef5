-- What is kept as the memory of a node is what the lines told leave there.
use Rattle.io_law.proofs.Prelude.{◌≡◌, ◌<◌, ℕ, zero, suc, Bool, true, false, eqb, List, [], ◌∷◌, length, map, Option, Some, None, refl, sym, ap, ◌∙◌, arith, if◌then◌else◌, slice_set, get_or, get_or-map, map-set_same, eqb-true, eqb-false, get_or-set_same, get_or-set_other, ftype_of, io_of, memory_put, memory_after, Written, Failed, met_of, memory_held, after_held, new_station, station_at, memory_of, with_memory, met_by, met_at_node, stations_after, stations_met, memory_behind}

-- ---- a packet at a memory

-- what it leaves is what its line says
behind_write : (memory : List ℕ) (ftype addr : ℕ) (load : List ℕ) (b : Bool)
    → (if b then memory_put memory addr load else memory)
    ≡ memory_held memory ((if b then Written addr load else Failed ftype) ∷ [])
behind_write memory ftype addr load true = refl
behind_write memory ftype addr load false = refl

-- ---- the memory of one node among others

memory_map : (stations : List _) (n : ℕ)
    → memory_of stations n ≡ get_or (map (λ x. memory_of (x ∷ []) 0) stations) n None
memory_map stations n = sym (get_or-map (λ x. memory_of (x ∷ []) 0) stations n new_station)

-- other things are changed
pub same_memory : (stations : List _) (i : ℕ) (x : _) (n : ℕ)
    → memory_of (x ∷ []) 0 ≡ memory_of stations i
    → memory_of (slice_set stations i x) n ≡ memory_of stations n
same_memory stations i x n is =
    memory_map (slice_set stations i x) n
    ∙ ap (λ l. get_or l n None)
    (map-set_same (λ x. memory_of (x ∷ []) 0) stations i x new_station is)
    ∙ sym (memory_map stations n)

-- a memory is put
pub put_memory : (stations : List _) (at : ℕ) (memory : List ℕ) (n : ℕ)
    → at < length stations
    → memory_of (with_memory stations at memory) n
    ≡ (if eqb at n then Some memory else memory_of stations n)
put_memory stations at memory n within = by (eqb at n) refl
  where
    by : (b : Bool) → eqb at n ≡ b
        → memory_of (with_memory stations at memory) n
        ≡ (if b then Some memory else memory_of stations n)
    by true same =
        ap (λ m. memory_of (with_memory stations at memory) m) (sym (eqb-true at n same))
        ∙ ap (λ x. memory_of (x ∷ []) 0) (get_or-set_same stations at
        (record (station_at stations at) { memory = Some memory }) new_station within)
    by false other =
        ap (λ x. memory_of (x ∷ []) 0)
        (get_or-set_other stations at n
        (record (station_at stations at) { memory = Some memory }) new_station
        (λ same. eqb-false at n other (sym same)))

-- only a node that is kept has a memory
pub has_place : (stations : List _) (n : ℕ) (memory : List ℕ)
    → memory_of stations n ≡ Some memory → n < length stations
has_place [] zero memory is = absurd (cc)
has_place [] (suc n) memory is = absurd (cc)
has_place (first ∷ stations) zero memory is = omega (arith)
has_place (first ∷ stations) (suc n) memory is =
    let more = has_place stations n memory is in omega (arith, more)

-- a packet came to a node
pub memory_came : (stations : List _) (at : ℕ) (packet : List ℕ) (n : ℕ)
    → memory_of (stations_met stations at packet) n
    ≡ (if eqb at n then memory_behind (memory_of stations n) (met_at_node stations at packet)
    else memory_of stations n)
memory_came stations at packet n = by_memory (memory_of stations at) refl
  where
    moved : {memory : Option (List ℕ)} → memory_of stations at ≡ memory → eqb at n ≡ true
        → memory_of stations n ≡ memory
    moved is same = ap (λ m. memory_of stations m) (sym (eqb-true at n same)) ∙ is

    by_none : memory_of stations at ≡ None → (b : Bool) → eqb at n ≡ b
        → memory_of stations n
        ≡ (if b then memory_behind (memory_of stations n) (met_by None packet)
        else memory_of stations n)
    by_none is true same =
        moved is same ∙ ap (λ m. memory_behind m (met_by None packet)) (sym (moved is same))
    by_none is false other = refl

    by_some : (memory : List ℕ) → memory_of stations at ≡ Some memory → (b : Bool)
        → eqb at n ≡ b
        → (if b then Some (memory_after memory (io_of packet)) else memory_of stations n)
        ≡ (if b then memory_behind (memory_of stations n) (met_of memory packet)
        else memory_of stations n)
    by_some memory is true same =
        ap (λ m. Some m) (after_held memory (ftype_of packet) (io_of packet))
        ∙ ap (λ m. memory_behind m (met_of memory packet)) (sym (moved is same))
    by_some memory is false other = refl

    by_memory : (memory : Option (List ℕ)) → memory_of stations at ≡ memory
        → memory_of (stations_after stations at packet memory) n
        ≡ (if eqb at n then memory_behind (memory_of stations n) (met_by memory packet)
        else memory_of stations n)
    by_memory None is = by_none is (eqb at n) refl
    by_memory (Some memory) is =
        put_memory stations at (memory_after memory (io_of packet)) n
        (has_place stations at memory is)
        ∙ by_some memory is (eqb at n) refl
