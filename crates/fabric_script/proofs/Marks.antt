-- A table of the ports that have a link, with one link more.
use Rattle.std.proofs.Common.{◌≡◌, ◌≢◌, ℕ, ◌+◌, ◌*◌, ◌<◌, Bool, true, false, ◌||◌, List, [], ◌∷◌, ◌++◌, length, get_or, set, replicate, refl, sym, ap, ◌∙◌, inl, inr, arith, length-set}
use Rattle.std.proofs.lemmas.Bool.{cases_eq}
use Rattle.std.proofs.lemmas.Bool.Decides.{nat_tests}
use Rattle.std.proofs.lemmas.List.{get_or-set_same, get_or-set_other, length-replicate, get_or-replicate}
use Rattle.std.proofs.lemmas.List.Folds.{list_any-append}
use Rattle.fabric_script.specs.declared.ports.PortRef.{PortRef}
use Rattle.fabric_script.specs.Known.{same_port, is_linked}
use Rattle.fabric_script.specs.Links.{AreMarked}

-- where a port stands
abbrev pub place : PortRef → ℕ
place p = 16 * p.node + p.port

either_false : (b : Bool) → b || false ≡ b
either_false true = refl
either_false false = refl

either_true : (b : Bool) → b || true ≡ true
either_true true = refl
either_true false = refl

regrouped : (a b c : Bool) → (a || b) || c ≡ a || ((b || c) || false)
regrouped true b c = refl
regrouped false b c = sym (either_false (b || c))

same : (a p : PortRef) → p.node ≡ a.node → p.port ≡ a.port → same_port a p ≡ true
same a p node port = grind (arith, nat_tests)

other : (a p : PortRef) → a.port < 16 → p.port < 16 → place p ≢ place a → same_port a p ≡ false
other a p few few' apart = grind (arith, nat_tests)

-- one port is marked
marked : (linked : List Bool) (a p : PortRef) → length linked ≡ 1024 → a.node < 64 → a.port < 16
    → p.node < 64 → p.port < 16
    → get_or (set linked (place a) true) (place p) false
    ≡ get_or linked (place p) false || same_port a p
marked linked a p all node port node' port' = elim (cases_eq (place p) (place a)) [
  | inl is ↦
      let n : p.node ≡ a.node = omega arith in
      let m : p.port ≡ a.port = omega arith in
      ap (λ k. get_or (set linked (place a) true) k false) is
      ∙ get_or-set_same linked (place a) true false (omega arith)
      ∙ sym (ap (λ b. get_or linked (place p) false || b) (same a p n m)
      ∙ either_true (get_or linked (place p) false))
  | inr apart ↦
      get_or-set_other linked (place a) (place p) true false apart
      ∙ sym (ap (λ b. get_or linked (place p) false || b) (other a p port port' apart)
      ∙ either_false (get_or linked (place p) false))
]

-- no port is marked of no links
pub none_marked : AreMarked [] (replicate 1024 false)
none_marked = record {
  all = length-replicate 1024 false;
  marked = λ p node port. get_or-replicate 1024 (place p) false false (omega arith);
  no_node = λ p more. refl;
  no_port = λ p more. refl;
}

-- both ports of one link more are
pub more_marked : (links : List (PortRef × PortRef)) (linked : List Bool) (a b : PortRef)
    → AreMarked links linked → (a.node < 64) × (a.port < 16) → (b.node < 64) × (b.port < 16)
    → AreMarked (links ++ (a, b) ∷ []) (set (set linked (place a) true) (place b) true)
more_marked links linked a b are first second =
    let behind = λ (p : PortRef).
    list_any-append (λ (link : PortRef × PortRef). same_port link.0 p || same_port link.1 p) links
    ((a, b) ∷ []) in
    let once : length (set linked (place a) true) ≡ 1024 =
    length-set linked (place a) true ∙ are.all in
    record {
      all = length-set (set linked (place a) true) (place b) true ∙ once;
      marked = λ p node port.
          marked (set linked (place a) true) b p once second.0 second.1 node port
          ∙ ap (λ x. x || same_port b p)
          (marked linked a p are.all first.0 first.1 node port
          ∙ ap (λ x. x || same_port a p) (are.marked p node port))
          ∙ regrouped (is_linked links p) (same_port a p) (same_port b p)
          ∙ sym (behind p);
      no_node = λ p more.
          let apart : same_port a p ≡ false = grind (arith, nat_tests, first.0) in
          let apart' : same_port b p ≡ false = grind (arith, nat_tests, second.0) in
          behind p
          ∙ ap (λ x. x || ((same_port a p || same_port b p) || false)) (are.no_node p more)
          ∙ ap (λ x. (x || same_port b p) || false) apart ∙ ap (λ x. x || false) apart';
      no_port = λ p more.
          let apart : same_port a p ≡ false = grind (arith, nat_tests, first.1) in
          let apart' : same_port b p ≡ false = grind (arith, nat_tests, second.1) in
          behind p
          ∙ ap (λ x. x || ((same_port a p || same_port b p) || false)) (are.no_port p more)
          ∙ ap (λ x. (x || same_port b p) || false) apart ∙ ap (λ x. x || false) apart';
    }
