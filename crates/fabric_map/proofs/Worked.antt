-- Known maps and wrong ones.
use Rattle.fabric_map.proofs.Prelude.{◌≡◌, ℕ, zero, suc, List, [], ◌∷◌, Option, Some, None, Contains, arith, inl, inr, subst, sym, refl, ap, Endpoint, Device, Entry, Topology, node_at, Before, IsNotAfter, IsMet, Walked, after_all_paths, IsDescribed, IsIdOf, IsKindAt, IsMap, ring, skipped, twice_linked, numbered_twice, from_highest, left_out, example_endpoint}

-- the ID of an endpoint is right
id_of : (topology : Topology) (host_id id : ℕ) (before : List Device) (tag : ℕ) (path : List ℕ)
    → IsDescribed topology host_id before (example_endpoint tag id path) → IsIdOf host_id before id
id_of topology host_id id before tag path described = go
    (topology.switch_ports described.at.node) described.kind
  where
    go : (ports : Option ℕ) → IsKindAt host_id before described.at ports (Endpoint id)
        → IsIdOf host_id before id
    go None is = is
    go (Some n) is = absurd is

pub skipped_is_none : (entries : List Entry) → ¬ IsMap ring 5 skipped entries
skipped_is_none entries is =
    let fifth = id_of ring 5 1 _ 5 (0 ∷ 1 ∷ 1 ∷ 2 ∷ []) is.described.1.1.1.1.0 in
    let given = fifth.least 0 (omega arith) in
    absurd (cc)

pub numbered_twice_is_none : ¬ Walked twice_linked numbered_twice after_all_paths
numbered_twice_is_none walked =
    let same = walked.once (0 ∷ 1 ∷ []) (0 ∷ 2 ∷ []) (2, omega arith, refl)
    (3, omega arith, refl) refl in
    absurd (cc)

-- no path of these is the first way to the second switch
pub from_highest_is_none : ¬ Walked twice_linked from_highest after_all_paths
from_highest_is_none walked = go (walked.done (0 ∷ []) 1 (1, omega arith, refl) refl (inl
    (omega arith)))
  where
    third : (path : List ℕ) → (0 ∷ 2 ∷ []) ≡ path → ¬ IsNotAfter path (0 ∷ 1 ∷ [])
    third path same (inl equal) = absurd (cc)
    third path same (inr before) = late (subst (λ p. Before p (0 ∷ 1 ∷ [])) (sym same) before)
      where
        late : ¬ Before (0 ∷ 2 ∷ []) (0 ∷ 1 ∷ [])
        late (inl less) = omega (arith, less)
        late (inr (zero_same, inl less)) = omega (arith, less)
        late (inr (zero_same, inr (same, never))) = absurd never

    at : (path : List ℕ) → Contains from_highest path → node_at twice_linked path ≡ Some 2
        → ¬ IsNotAfter path (0 ∷ 1 ∷ [])
    at path (zero, within, same) device = let on = ap (λ p. node_at twice_linked p) same in absurd
        (cc)
    at path (suc zero, within, same) device = let on = ap
        (λ p. node_at twice_linked p) same in absurd (cc)
    at path (suc (suc zero), within, same) device = third path same
    at path (suc (suc (suc k)), within, same) device = absurd (omega (arith, within))

    go : ¬ IsMet twice_linked from_highest (0 ∷ 1 ∷ [])
    go met = at met.met_on met.listed met.same_device met.not_after

pub left_out_is_none : ¬ Walked twice_linked left_out after_all_paths
left_out_is_none walked = go (walked.done (0 ∷ []) 1 (1, omega arith, refl) refl (inl
    (omega arith)))
  where
    at : (path : List ℕ) → Contains left_out path → node_at twice_linked path ≡ Some 2 → ⊥
    at path (zero, within, same) device = let on = ap (λ p. node_at twice_linked p) same in absurd
        (cc)
    at path (suc zero, within, same) device = let on = ap
        (λ p. node_at twice_linked p) same in absurd (cc)
    at path (suc (suc k), within, same) device = absurd (omega (arith, within))

    go : ¬ IsMet twice_linked left_out (0 ∷ 1 ∷ [])
    go met = at met.met_on met.listed met.same_device
