-- The first locked device is one.
use Rattle.fabric_map.proofs.Prelude.{◌≡◌, ℕ, List, Some, ◌⊎◌, inl, inr, subst, sym, ap, ◌∙◌, Topology, node_at, Before, AllRegisters, IsForeign, IsNext, IsFirstLocked}
use Rattle.fabric_map.proofs.Order.{compared}
use Rattle.fabric_map.proofs.Walks.{met_before, included}
use Rattle.fabric_map.proofs.Leading.{some_from_same}

-- neither stands before the other
not_before : (topology : Topology) (registers : AllRegisters) (p q : List ℕ) (id other : ℕ)
    → IsFirstLocked topology registers p id → IsFirstLocked topology registers q other
    → ¬ Before p q
not_before topology registers p q id other one two before =
    let next = go one.next in
    let met = met_before topology two.paths q p two.walked next (some_from_same
    (node_at topology p) one.node one.leads) before in
    two.none_before met.met_on one.node met.listed (met.same_device ∙ one.leads)
    (subst (λ lock. IsForeign (registers topology.host).base_id lock) (sym one.lock) one.foreign)
  where
    go : IsNext one.paths p → IsNext two.paths p
    go (inl empty) = inl empty
    go (inr last) = inr (
      last.0,
      last.1,
      included topology one.paths two.paths p q one.walked two.walked
          (inr before) last.0 last.2,
      last.3,
    )

pub one_first_locked : (topology : Topology) (registers : AllRegisters) (p q : List ℕ)
    (id other : ℕ) → IsFirstLocked topology registers p id
    → IsFirstLocked topology registers q other → (p ≡ q) × (id ≡ other)
one_first_locked topology registers p q id other one two = go (compared p q)
  where
    go : (p ≡ q) ⊎ (Before p q ⊎ Before q p) → (p ≡ q) × (id ≡ other)
    go (inl same) =
        let nodes : Some one.node ≡ Some two.node = sym one.leads ∙ (ap
        (λ l. node_at topology l) same ∙ two.leads) in
        let node : one.node ≡ two.node = cc in
        (same, sym one.lock ∙ (ap (λ n. (registers n).lock) node ∙ two.lock))
    go (inr (inl less)) = absurd (not_before topology registers p q id other one two less)
    go (inr (inr more)) = absurd (not_before topology registers q p other id two one more)
