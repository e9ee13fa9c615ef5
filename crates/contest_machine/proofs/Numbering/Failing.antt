-- A claim that was not won, and a device that bore the walker's ID from the first.
use Rattle.contest_machine.proofs.Prelude.{◌≡◌, ◌≢◌, ℕ, ◌<◌, List, ◌∷◌, Some, ◌⊎◌, inl, inr, sym, ap, ◌∙◌, PortRef, Registers, entered, AllRegisters, IsUnmet, IsMember, unmet-untagged, Ask, Check, Test, Walker, taken, IsAtPath}
use Rattle.contest_machine.proofs.Numbering.OnWay.{IsOnWay}
use Rattle.contest_machine.proofs.Keeping.Stepped.{at_stage, one_node}
use Rattle.contest_machine.proofs.Numbering.OnWays.{with_lock, at_path_or_not, underway-stays, mixed_is}
use Rattle.contest_machine.proofs.Numbering.Claiming.{keep_on_way}

module _ (w : Walker) (now : AllRegisters) (fits : w.id < 0xff) (at : PortRef)
    (enters : entered w.view w.path ≡ Some at) where
  -- The lock is not the walker's: the device is one among others again.
  pub lost_on_way : IsOnWay (at_stage w Check) now → (now at.node).lock ≢ w.id
      → IsMember w.view w.devices w.view.host → IsOnWay (at_stage w Ask) now
  lost_on_way way other host = record {
    before = _;
    seen = _;
    underway = underway-stays w.view way.before way.seen w.id w.next w.devices w.path way.underway
        now (λ node. ⊥) (λ node. inr (λ none. none)) (λ node none. absurd none) met own (inl host);
    seen_is = λ node beside.
        mixed_is w.view way.before way.seen w.id w.next w.devices w.path way.underway
        now (λ node. ⊥) (λ node. inr (λ none. none)) (λ node none. absurd none) met own (inl host)
        node (λ none. none);
    new = λ node none. absurd none;
    hosted = inl host;
    fresh = tt;
  }
    where
      met : (node : ℕ) → IsMember w.view w.devices node → now node ≡ way.seen node
      met node member =
          sym (way.seen_is node (λ apart. way.new node apart member.0 member.1 member.2))

      own : (node : ℕ) → ¬ ⊥ → (now node).lock ≡ w.id → now node ≡ way.seen node
      own node none held = go (at_path_or_not w node)
        where
          go : IsAtPath w node ⊎ (¬ IsAtPath w node) → now node ≡ way.seen node
          go (inl leads) =
              absurd (other (ap (λ n. (now n).lock)
              (sym (one_node w.view w.path at node enters leads)) ∙ held))
          go (inr beside) = sym (way.seen_is node beside)

  -- The device has the walker's ID and no tag: it is kept.
  pub own_on_way : (first : ℕ) (rest : List ℕ) → w.path ≡ first ∷ rest
      → IsOnWay (at_stage w Test) now → (now at.node).lock ≡ w.id → (now at.node).tag ≡ 0
      → IsMember w.view w.devices w.view.host → IsOnWay (taken w) now
  own_on_way first rest whole way held none host =
      keep_on_way w now fits at enters Test way.before way.seen first rest whole way.underway
      (λ node beside. way.seen_is node (λ a. a)) unmet host
      (inr (
        ap (λ (d : Registers). d.lock) was ∙ held,
        ap (λ (d : Registers). d.tag) was ∙ none,
      ))
      (marked ∙ ap (with_lock w.id) (sym was))
    where
      unmet : IsUnmet w.view w.devices at.node
      unmet = unmet-untagged w.view way.before way.seen w.id w.next w.devices w.path way.underway
          at.node (ap (λ (d : Registers). d.tag) (way.seen_is at.node (λ a. a)) ∙ none)

      was : way.before at.node ≡ now at.node
      was = sym (way.underway.others at.node unmet) ∙ way.seen_is at.node (λ a. a)

      marked : now at.node ≡ with_lock w.id (now at.node)
      marked = ap (λ n. with_lock n (now at.node)) held
