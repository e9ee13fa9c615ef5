-- Where ports stand when devices come behind: in the same place, and the new ones behind them.
use Rattle.std.proofs.Common.{◌≡◌, ◌≢◌, ℕ, zero, suc, ◌+◌, ◌<◌, ◌⊎◌, inl, inr, List, [], ◌∷◌, ◌++◌, All, Some, None, get_or, set, replicate, length, refl, sym, ap, ◌∙◌, subst, arith}
use Rattle.std.specs.List.{slice_get}
use Rattle.std.proofs.lemmas.Bool.{cases_lt}
use Rattle.std.proofs.lemmas.List.{get_or_append_left, get_or-replicate, length-replicate}
use Rattle.std.proofs.lemmas.List.Elements.{All-head, All-tail}
use Rattle.std.proofs.lemmas.Option.{same_Some, slice_get-get_or}
use Rattle.fabric_script.specs.declared.ports.PortRef.{PortRef}
use Rattle.maint_registers.specs.Devices.{Registers}
use Rattle.fabric_ports.specs.Places.{AreFirsts, port_count, HasPort, IsPortOf, place_of}
use Rattle.fabric_ports.proofs.PlaceLaws.{place_within}

-- ---- elements of lists

pub get-append : {X : Type 0} (xs ys : List X) (i : ℕ) → i < length xs
    → slice_get (xs ++ ys) i ≡ slice_get xs i
get-append [] ys i within = absurd (omega arith)
get-append (x ∷ xs) ys zero within = refl
get-append (x ∷ xs) ys (suc i) within = get-append xs ys i (omega arith)

get-same : {X : Type 0} (n i : ℕ) (x : X) → i < n → slice_get (replicate n x) i ≡ Some x
get-same n i x within =
    slice_get-get_or (replicate n x) i x (omega (arith, length-replicate n x))
    ∙ ap Some (get_or-replicate n i x x within)

-- behind the first list so many elements are the same
pub get-behind : {X : Type 0} (xs : List X) (n i : ℕ) (x : X) (place : ℕ) → i < n
    → place ≡ length xs + i → slice_get (xs ++ replicate n x) place ≡ Some x
get-behind [] n i x place within at = get-same n place x (omega arith)
get-behind (y ∷ xs) n i x zero within at = absurd (omega arith)
get-behind (y ∷ xs) n i x (suc place) within at = get-behind xs n i x place within (omega arith)

pub get-last : {X : Type 0} (xs : List X) (x : X) → slice_get (xs ++ x ∷ []) (length xs) ≡ Some x
get-last [] x = refl
get-last (y ∷ xs) x = get-last xs x

pub get-past : {X : Type 0} (xs : List X) (x : X) (i : ℕ) → length xs < i
    → slice_get (xs ++ x ∷ []) i ≡ None
get-past [] x zero past = absurd (omega arith)
get-past [] x (suc i) past = refl
get-past (y ∷ xs) x zero past = absurd (omega arith)
get-past (y ∷ xs) x (suc i) past = get-past xs x i (omega arith)

pub get-set : {X : Type 0} (xs : List X) (i : ℕ) (x : X) → i < length xs
    → slice_get (set xs i x) i ≡ Some x
get-set [] i x within = absurd (omega arith)
get-set (y ∷ xs) zero x within = refl
get-set (y ∷ xs) (suc i) x within = get-set xs i x (omega arith)

pub get-set_other : {X : Type 0} (xs : List X) (i j : ℕ) (x : X) → i ≢ j
    → slice_get (set xs i x) j ≡ slice_get xs j
get-set_other [] i j x apart = refl
get-set_other (y ∷ xs) zero zero x apart = absurd (apart refl)
get-set_other (y ∷ xs) zero (suc j) x apart = refl
get-set_other (y ∷ xs) (suc i) zero x apart = refl
get-set_other (y ∷ xs) (suc i) (suc j) x apart = get-set_other xs i j x (λ e. apart (ap suc e))

-- what is found is there
pub get_or-found : {X : Type 0} (xs : List X) (i : ℕ) (default x : X)
    → slice_get xs i ≡ Some x → get_or xs i default ≡ x
get_or-found [] i default x is = absurd cc
get_or-found (y ∷ ys) zero default x is = same_Some y x is
get_or-found (y ∷ ys) (suc i) default x is = get_or-found ys i default x is

pub found_has : {X : Type 0} (P : X → Type 0) (xs : List X) (i : ℕ) (x : X) → All P xs
    → slice_get xs i ≡ Some x → P x
found_has P [] i x all is = absurd cc
found_has P (y ∷ ys) zero x all is = subst P (same_Some y x is) (All-head P y ys all)
found_has P (y ∷ ys) (suc i) x all is = found_has P ys i x (All-tail P y ys all) is

-- ---- places

pub has_node : (devices : List Registers) (n k : ℕ) → HasPort (slice_get devices n) k
    → n < length devices
has_node [] n k has = absurd has
has_node (d ∷ devices) zero k has = omega arith
has_node (d ∷ devices) (suc n) k has = let rest = has_node devices n k has in omega arith

pub as_many_firsts : (place : ℕ) (devices : List Registers) (firsts : List ℕ)
    → AreFirsts place devices firsts → length firsts ≡ length devices
as_many_firsts place [] [] are = refl
as_many_firsts place [] (f ∷ firsts) are = absurd are
as_many_firsts place (d ∷ devices) [] are = absurd are
as_many_firsts place (d ∷ devices) (f ∷ firsts) are = let rest =
    as_many_firsts (place + d.ports) devices firsts are.1 in omega arith

-- The device of a port is there, and the place of its first port is known.
pub record IsPlaced (devices : List Registers) (firsts : List ℕ) (p : PortRef) : Type 0 where
  pub known : p.node < length firsts
  pub device : p.node < length devices
  pub within : place_of firsts p < port_count devices

pub placed : (devices : List Registers) (firsts : List ℕ) (p : PortRef) → AreFirsts 0 devices firsts
    → IsPortOf devices p → IsPlaced devices firsts p
placed devices firsts p are is =
    let there = has_node devices p.node p.port is in
    let many = as_many_firsts 0 devices firsts are in
    record { known = omega arith; device = there; within = place_within devices firsts p are is }

-- ---- one more device

pub count-append : (devices : List Registers) (device : Registers)
    → port_count (devices ++ device ∷ []) ≡ port_count devices + device.ports
count-append [] device = omega arith
count-append (d ∷ devices) device = let rest = count-append devices device in omega arith

firsts-append_from : (place : ℕ) (devices : List Registers) (firsts : List ℕ) (device : Registers)
    (first : ℕ) → AreFirsts place devices firsts → first ≡ place + port_count devices
    → AreFirsts place (devices ++ device ∷ []) (firsts ++ first ∷ [])
firsts-append_from place [] [] device first are last = (omega arith, tt)
firsts-append_from place [] (f ∷ firsts) device first are last = absurd are
firsts-append_from place (d ∷ devices) [] device first are last = absurd are
firsts-append_from place (d ∷ devices) (f ∷ firsts) device first are last =
    (are.0, firsts-append_from (place + d.ports) devices firsts device first are.1 (omega arith))

pub firsts-append : (devices : List Registers) (firsts : List ℕ) (device : Registers)
    → AreFirsts 0 devices firsts
    → AreFirsts 0 (devices ++ device ∷ []) (firsts ++ port_count devices ∷ [])
firsts-append devices firsts device are =
    firsts-append_from 0 devices firsts device (port_count devices) are (omega arith)

-- the place of a port stays as it is
pub place_stays : (firsts more : List ℕ) (p : PortRef) → p.node < length firsts
    → place_of (firsts ++ more) p ≡ place_of firsts p
place_stays firsts more p within =
    ap (λ n. n + p.port) (get_or_append_left firsts more 0 p.node within)

-- a port stays one
pub port_stays : (devices more : List Registers) (p : PortRef) → IsPortOf devices p
    → IsPortOf (devices ++ more) p
port_stays devices more p is =
    subst (λ d. HasPort d p.port)
    (sym (get-append devices more p.node (has_node devices p.node p.port is))) is

-- a port is one of the earlier devices or of the last
pub old_or_new : (devices : List Registers) (device : Registers) (p : PortRef)
    → IsPortOf (devices ++ device ∷ []) p
    → IsPortOf devices p ⊎ ((p.node ≡ length devices) × (p.port < device.ports))
old_or_new devices device p is = elim (cases_lt p.node (length devices)) [
  | inl less ↦ inl (subst (λ d. HasPort d p.port) (get-append devices (device ∷ []) p.node less) is)
  | inr least ↦ elim (cases_lt (length devices) p.node) [
    | inl past ↦ absurd (subst (λ d. HasPort d p.port) (get-past devices device p.node past) is)
    | inr most ↦
        let last : p.node ≡ length devices = omega arith in
        inr (
          last,
          subst (λ d. HasPort d p.port) (ap (slice_get (devices ++ device ∷ [])) last
              ∙ get-last devices device) is,
        )
  ]
]
