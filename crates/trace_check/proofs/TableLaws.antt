-- What is kept of each port, when one is read or changed.
use Rattle.std.proofs.Common.{◌≡◌, ℕ, ◌*◌, ◌<◌, Bool, true, false, List, length, Some, get_or, slice_get, slice_set, refl, sym, ap, ◌∙◌, subst, arith}
use Rattle.std.proofs.lemmas.Option.{get_or_from_slice_get, slice_get_read}
use Rattle.std.proofs.lemmas.List.{get_or-set_other, get_or-set_same, length-set}
use Rattle.fabric_script.specs.declared.ports.PortRef.{PortRef}
use Rattle.fabric_model.specs.Network.{same_port}
use Rattle.fabric_model.proofs.Peers.{port_is, same_port-refl}
use Rattle.trace_check.specs.Tables.{IsIn, IsTable, table_place}

-- two ports have two places
apart : (nodes : ℕ) (p q : PortRef) → IsIn nodes p → IsIn nodes q → table_place q ≡ table_place p
    → same_port q p ≡ true
apart nodes p q in_p in_q same =
    let low_p = in_p.port in
    let low_q = in_q.port in
    let node : q.node ≡ p.node = omega (arith, same, low_p, low_q) in
    let port : q.port ≡ p.port = omega (arith, same, low_p, low_q) in
    let one : q ≡ p = λ i. record { node = node i; port = port i } in
    subst (λ x. same_port x p ≡ true) (sym one) (same_port-refl p)

pub place_within : {nodes : ℕ} {p : PortRef} → IsIn nodes p → table_place p < 16 * nodes
place_within is_in =
    let node = is_in.node in
    let port = is_in.port in
    omega (arith, node, port)

module _ {A : Type 0} {nodes : ℕ} where
  pub table_read : {Has : PortRef → A → Type 0} {list : List A} {p : PortRef} {i : ℕ} {x : A}
      → IsTable nodes Has list → IsIn nodes p → i ≡ table_place p → x ≡ get_or list i x → Has p x
  table_read {list = list} {p} {i} {x} table is_in here read =
      let within = place_within is_in in
      let size = table.size in
      table.at p x is_in (ap (slice_get list) (sym here)
      ∙ slice_get_read list (length list) i x refl (omega (arith, within, size, here)) read)

  pub table_set : {Has More : PortRef → A → Type 0} {list : List A} {p : PortRef} {i : ℕ} (x : A)
      → IsTable nodes Has list → IsIn nodes p → i ≡ table_place p → More p x
      → ((q : PortRef) (y : A) → same_port q p ≡ false → Has q y → More q y)
      → IsTable nodes More (slice_set list i x)
  table_set {More = More} {list} {p} {i} x table is_in here own others = record {
    size = length-set list i x ∙ table.size;
    at = λ q y in_q there. by_port q y in_q there (same_port q p) refl;
  }
    where
      by_port : (q : PortRef) (y : A) → IsIn nodes q
          → slice_get (slice_set list i x) (table_place q) ≡ Some y
          → (b : Bool) → same_port q p ≡ b → More q y
      by_port q y in_q there true same =
          let one : q ≡ p = port_is q p same in
          let within = place_within is_in in
          let size = table.size in
          let read : get_or (slice_set list i x) (table_place q) x ≡ y
          = get_or_from_slice_get (slice_set list i x) (table_place q) y x there in
          let at_p : get_or (slice_set list i x) (table_place q) x ≡ x
          = (λ j. get_or (slice_set list i x) (table_place (one j)) x)
          ∙ (λ j. get_or (slice_set list i x) (sym here j) x)
          ∙ get_or-set_same list i x x (omega (arith, within, size, here)) in
          subst (More q) (sym at_p ∙ read) (subst (λ r. More r x) (sym one) own)
      by_port q y in_q there false other =
          let differ : table_place q ≡ i → ⊥ = λ same.
          cc (apart nodes p q is_in in_q (same ∙ here), other) in
          let read : get_or (slice_set list i x) (table_place q) y ≡ y
          = get_or_from_slice_get (slice_set list i x) (table_place q) y y there in
          let before : get_or list (table_place q) y ≡ y
          = sym (get_or-set_other list i (table_place q) x y differ) ∙ read in
          let within = place_within in_q in
          let size = table.size in
          others q y other (table.at q y in_q
          (slice_get_read list (length list) (table_place q) y refl (omega (arith, within, size))
          (sym before)))
