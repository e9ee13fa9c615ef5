-- What a fabric shows after some of its ports have changed.
use Rattle.std.proofs.Common.{◌≡◌, ◌≢◌, ℕ, zero, suc, ◌<◌, Bool, true, false, List, [], ◌∷◌, length, Some, slice_get, slice_set, subst, sym, refl, ap, ◌∙◌, arith}
use Rattle.link_port.specs.Ports.{PortState}
use Rattle.fabric_script.specs.declared.ports.PortRef.{PortRef}
use Rattle.fabric_model.specs.Network.{same_port}
use Rattle.fabric_model.proofs.Peers.{port_is}
use Rattle.maint_registers.specs.Devices.{Registers}
use Rattle.fabric_trace.specs.Known.{Seen, port_seen}
use Rattle.fabric_ports.specs.Places.{AreFirsts, port_count, IsPortOf, place_of}
use Rattle.fabric_ports.specs.Showing.{LeadToLinks}
use Rattle.fabric_ports.proofs.PlaceLaws.{place_within, places_apart}

-- ---- lists

pub get_set : {X : Type 0} (xs : List X) (i : ℕ) (x : X) → i < length xs
    → slice_get (slice_set xs i x) i ≡ Some x
get_set [] i x within = absurd (omega (arith, within))
get_set (y ∷ ys) zero x within = refl
get_set (y ∷ ys) (suc i) x within = get_set ys i x (omega (arith, within))

pub get_other : {X : Type 0} (xs : List X) (i j : ℕ) (x : X) → j ≢ i
    → slice_get (slice_set xs i x) j ≡ slice_get xs j
get_other [] i j x apart = refl
get_other (y ∷ ys) zero zero x apart = absurd (apart refl)
get_other (y ∷ ys) zero (suc j) x apart = refl
get_other (y ∷ ys) (suc i) zero x apart = refl
get_other (y ∷ ys) (suc i) (suc j) x apart = get_other ys i j x (λ same. apart (ap suc same))

-- ---- links

pub lead_same : (links links2 : List (PortRef × PortRef)) (firsts firsts2 numbers numbers2 : List ℕ)
    → links2 ≡ links → firsts2 ≡ firsts → numbers2 ≡ numbers → LeadToLinks links firsts numbers
    → LeadToLinks links2 firsts2 numbers2
lead_same links links2 firsts firsts2 numbers numbers2 l f n lead =
    subst (λ (x : List (PortRef × PortRef)). LeadToLinks x firsts2 numbers2) (sym l)
    (subst (λ (x : List ℕ). LeadToLinks links x numbers2) (sym f)
    (subst (λ (x : List ℕ). LeadToLinks links firsts x) (sym n) lead))

-- ---- ports

-- the ports of devices stand in a list as they are known
abbrev pub ArePorts : List Registers → List ℕ → List PortState → Seen → Type 0
ArePorts devices firsts ports s = (p : PortRef) → IsPortOf devices p
    → slice_get ports (place_of firsts p) ≡ Some (port_seen s p)

-- one port has changed
pub one_set : (devices : List Registers) (firsts : List ℕ) (ports : List PortState) (s t : Seen)
    (p : PortRef) (x : PortState)
    → AreFirsts 0 devices firsts → length ports ≡ port_count devices
    → ArePorts devices firsts ports s → IsPortOf devices p
    → port_seen t p ≡ x → ((q : PortRef) → same_port q p ≡ false → port_seen t q ≡ port_seen s q)
    → ArePorts devices firsts (slice_set ports (place_of firsts p) x) t
one_set devices firsts ports s t p x are count shown has becomes others q has_q =
    by_port (same_port q p) refl
  where
    by_port : (b : Bool) → same_port q p ≡ b
        → slice_get (slice_set ports (place_of firsts p) x) (place_of firsts q)
        ≡ Some (port_seen t q)
    by_port true same =
        let one = port_is q p same in
        let within : place_of firsts p < length ports =
        subst (λ n. place_of firsts p < n) (sym count)
        (place_within devices firsts p are has) in
        subst (λ c. slice_get (slice_set ports (place_of firsts p) x) (place_of firsts c) ≡ Some
        (port_seen t c)) (sym one)
        (get_set ports (place_of firsts p) x within ∙ ap Some (sym becomes))
    by_port false apart =
        get_other ports (place_of firsts p) (place_of firsts q) x
        (places_apart devices firsts q p are has_q has apart)
        ∙ shown q has_q ∙ ap Some (sym (others q apart))

-- two ports have changed
pub two_set : (devices : List Registers) (firsts : List ℕ) (ports : List PortState) (s t : Seen)
    (p q : PortRef) (x y : PortState)
    → AreFirsts 0 devices firsts → length ports ≡ port_count devices
    → ArePorts devices firsts ports s
    → IsPortOf devices p → IsPortOf devices q → same_port q p ≡ false
    → port_seen t p ≡ x → port_seen t q ≡ y
    → ((c : PortRef) → same_port c p ≡ false → same_port c q ≡ false
    → port_seen t c ≡ port_seen s c)
    → ArePorts devices firsts
    (slice_set (slice_set ports (place_of firsts p) x) (place_of firsts q) y) t
two_set devices firsts ports s t p q x y are count shown has_p has_q apart first second others c
    has_c = by_first (same_port c q) (same_port c p) refl refl
  where
    by_first : (a b : Bool) → same_port c q ≡ a → same_port c p ≡ b
        → slice_get (slice_set (slice_set ports (place_of firsts p) x) (place_of firsts q) y)
        (place_of firsts c) ≡ Some (port_seen t c)
    by_first true b is_q is_p =
        let one = port_is c q is_q in
        let counted = length_set ports (place_of firsts p) x in
        let within : place_of firsts q < length (slice_set ports (place_of firsts p) x) =
        subst (λ n. place_of firsts q < n) (sym (counted ∙ count))
        (place_within devices firsts q are has_q) in
        subst (λ e. slice_get
        (slice_set (slice_set ports (place_of firsts p) x) (place_of firsts q) y)
        (place_of firsts e) ≡ Some (port_seen t e)) (sym one)
        (get_set (slice_set ports (place_of firsts p) x) (place_of firsts q) y within
        ∙ ap Some (sym second))
      where
        length_set : {X : Type 0} (xs : List X) (i : ℕ) (x : X)
            → length (slice_set xs i x) ≡ length xs
        length_set [] i x = refl
        length_set (z ∷ zs) zero x = refl
        length_set (z ∷ zs) (suc i) x = ap suc (length_set zs i x)
    by_first false true is_q is_p =
        let one = port_is c p is_p in
        let within : place_of firsts p < length ports =
        subst (λ n. place_of firsts p < n) (sym count)
        (place_within devices firsts p are has_p) in
        get_other (slice_set ports (place_of firsts p) x) (place_of firsts q) (place_of firsts c) y
        (places_apart devices firsts c q are has_c has_q is_q)
        ∙ subst (λ e. slice_get (slice_set ports (place_of firsts p) x) (place_of firsts e) ≡ Some
        (port_seen t e)) (sym one)
        (get_set ports (place_of firsts p) x within ∙ ap Some (sym first))
    by_first false false is_q is_p =
        get_other (slice_set ports (place_of firsts p) x) (place_of firsts q) (place_of firsts c) y
        (places_apart devices firsts c q are has_c has_q is_q)
        ∙ get_other ports (place_of firsts p) (place_of firsts c) x
        (places_apart devices firsts c p are has_c has_p is_p)
        ∙ shown c has_c ∙ ap Some (sym (others c is_p is_q))
