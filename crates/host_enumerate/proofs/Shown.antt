-- What registers show of a kind, and which paths stay open while IDs are given.
use Rattle.host_enumerate.proofs.Prelude.{◌≡◌, ◌≢◌, ℕ, ◌+◌, ◌<◌, ◌≤◌, ◌⊎◌, inl, inr, true, false, List, [], ◌∷◌, ◌++◌, Option, Some, None, unwrap_or, arith, refl, sym, ap, subst, ◌∙◌, eq-eqb, ne_eqb, if◌then◌else◌, cases_eq, false≢true, PortRef, is_switch, next_port, Topology, entered, AllRegisters, Fits, IsOpened, AreRouted, id_after}
use Rattle.host_enumerate.proofs.Opening.{SendsAs, opened-as}
use Rattle.host_enumerate.proofs.Routing.{entry_sends}

-- the path stays open if the entries of an ID are set along it
pub opened-routed : {topology : Topology} {old new : AllRegisters} {host_id id first : ℕ}
    {rest : List ℕ} → IsOpened topology old host_id (first ∷ rest)
    → AreRouted topology old new (first ∷ []) rest id → 255 ≢ id → host_id ≢ id
    → IsOpened topology new host_id (first ∷ rest)
unfolding SendsAs
opened-routed {topology} {old} {new} {host_id} {id} {first} {rest} opened routed not_all not_host =
    opened-as new opened sends
  where
    sends : (x : ℕ) (front later : List ℕ) (port : ℕ) (at : PortRef)
        → first ∷ rest ≡ x ∷ front ++ port ∷ later → entered topology (x ∷ front) ≡ Some at
        → (next_port (new at.node) 255 ≡ next_port (old at.node) 255)
        × (next_port (new at.node) host_id ≡ next_port (old at.node) host_id)
    sends x front later port at is enters =
        let there = routed.passed at.node port (
          front,
          later,
          at,
          is_rest,
          subst (λ n. entered topology (n ∷ front) ≡ Some at) is_first enters,
          refl,
        ) in (
          ap (λ d. next_port d 255) there ∙ entry_sends (old at.node) id port 255 not_all,
          ap (λ d. next_port d host_id) there ∙ entry_sends (old at.node) id port host_id not_host,
        )
      where
        is_rest : rest ≡ front ++ port ∷ later
        is_rest = cc

        is_first : x ≡ first
        is_first = cc

-- registers show a switch where there is one
pub switch_shown : {topology : Topology} {registers : AllRegisters} (node : ℕ)
    → Fits topology registers → node < topology.nodes → is_switch (registers node) ≡ true
    → topology.switch_ports node ≡ Some (registers node).ports
switch_shown {topology} {registers} node fits inside is = go (topology.switch_ports node) refl
  where
    go : (o : Option ℕ) → topology.switch_ports node ≡ o
        → topology.switch_ports node ≡ Some (registers node).ports
    go None none = absurd (false≢true (sym (fits.endpoints node inside none) ∙ is))
    go (Some ports) some =
        some ∙ ap (λ n. Some n)
        (sym (fits.ports node inside ∙ ap (λ o. unwrap_or o 1) some))

pub endpoint_shown : (topology : Topology) (registers : AllRegisters) (node : ℕ)
    → Fits topology registers → node < topology.nodes → is_switch (registers node) ≡ false
    → topology.switch_ports node ≡ None
endpoint_shown topology registers node fits inside is = go (topology.switch_ports node) refl
  where
    go : (o : Option ℕ) → topology.switch_ports node ≡ o → topology.switch_ports node ≡ None
    go None none = none
    go (Some ports) some = absurd (false≢true (sym is ∙ fits.switches node ports inside some))

-- the ID that is given is another than these
pub id_after-apart : (host_id next : ℕ) → next < 254 → (255 ≢ id_after host_id next)
    × (host_id ≢ id_after host_id next)
id_after-apart host_id next few = go (cases_eq next host_id)
  where
    go : (next ≡ host_id) ⊎ (next ≢ host_id) → (255 ≢ id_after host_id next)
        × (host_id ≢ id_after host_id next)
    go (inl same) =
        subst (λ n. (255 ≢ n) × (host_id ≢ n))
        (sym (ap (λ b. if b then next + 1 else next) (eq-eqb next host_id same)))
        ((λ equal. omega (arith, equal, few)), (λ equal. omega (arith, equal, same)))
    go (inr other) =
        subst (λ n. (255 ≢ n) × (host_id ≢ n))
        (sym (ap (λ b. if b then next + 1 else next) (ne_eqb next host_id other)))
        ((λ equal. omega (arith, equal, few)), (λ equal. other (sym equal)))

pub id_after-rises : (host_id next : ℕ) → next ≤ id_after host_id next
id_after-rises host_id next = go (cases_eq next host_id)
  where
    go : (next ≡ host_id) ⊎ (next ≢ host_id) → next ≤ id_after host_id next
    go (inl same) =
        subst (λ n. next ≤ n)
        (sym (ap (λ b. if b then next + 1 else next) (eq-eqb next host_id same))) (omega arith)
    go (inr other) =
        subst (λ n. next ≤ n)
        (sym (ap (λ b. if b then next + 1 else next) (ne_eqb next host_id other))) (omega arith)
