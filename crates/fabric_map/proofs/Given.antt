-- Which IDs are given, as the list of devices grows.
use Rattle.fabric_map.proofs.Prelude.{◌≡◌, ℕ, zero, suc, ◌==◌, ◌||◌, Bool, true, false, List, [], ◌∷◌, ◌++◌, Contains, arith, refl, ap, ◌∙◌, subst, sym, inl, inr, ◌⊎◌, find, Some, Option, cond, None, eqb-true, or_right, list_any-append, Kind, Endpoint, Switch, Device, Topology, device_has_id, is_given, IsIdOf, IsKindAt, AreDescribed}
use Rattle.fabric_map.proofs.Lists.{Contains-cases}

pub has_id-endpoint : (device : Device) (id given : ℕ) → device.kind ≡ Endpoint given
    → device_has_id id device ≡ (given == id)
has_id-endpoint device id given is = rw is refl

pub has_id-switch : (device : Device) (id ports entry : ℕ) → device.kind ≡ Switch ports entry
    → device_has_id id device ≡ false
has_id-switch device id ports entry is = rw is refl

pub or_false : (b : Bool) → (b || false) ≡ b
or_false true = refl
or_false false = refl

-- one device more
pub is_given-push : (devices : List Device) (device : Device) (id : ℕ)
    → is_given (devices ++ device ∷ []) id ≡ (is_given devices id || device_has_id id device)
is_given-push devices device id =
    list_any-append (device_has_id id) devices (device ∷ [])
    ∙ ap (λ b. is_given devices id || b) (or_false (device_has_id id device))

pub is_given-later : (devices : List Device) (device : Device) (id : ℕ)
    → is_given devices id ≡ true → is_given (devices ++ device ∷ []) id ≡ true
is_given-later devices device id given =
    is_given-push devices device id ∙ ap (λ b. b || device_has_id id device) given

pub is_given-not : (devices : List Device) (device : Device) (id : ℕ)
    → is_given devices id ≡ false → device_has_id id device ≡ false
    → is_given (devices ++ device ∷ []) id ≡ false
is_given-not devices device id free other =
    is_given-push devices device id
    ∙ (ap (λ b. b || device_has_id id device) free ∙ other)

pub is_given-new : (devices : List Device) (device : Device) (id : ℕ)
    → device_has_id id device ≡ true → is_given (devices ++ device ∷ []) id ≡ true
is_given-new devices device id has =
    is_given-push devices device id
    ∙ (ap (λ b. is_given devices id || b) has ∙ or_right (is_given devices id) true refl)

pub is_given-contains : (devices : List Device) (device : Device) (id : ℕ)
    → Contains devices device → device_has_id id device ≡ true → is_given devices id ≡ true
is_given-contains [] device id listed has = absurd (omega (arith, listed.1))
is_given-contains (first ∷ devices) device id (zero, within, same) has =
    ap (λ b. b || is_given devices id) (ap (λ d. device_has_id id d) same ∙ has)
is_given-contains (first ∷ devices) device id (suc k, within, same) has =
    go (device_has_id id first)
    (is_given-contains devices device id (k, omega (arith, within), same) has)
  where
    go : (b : Bool) → is_given devices id ≡ true → (b || is_given devices id) ≡ true
    go true given = refl
    go false given = given

-- an endpoint has one ID
pub endpoint_from_id : (device : Device) (id : ℕ) → device_has_id id device ≡ true
    → device.kind ≡ Endpoint id
endpoint_from_id device id has = go device.kind has
  where
    go : (kind : Kind) → device_has_id id (record device { kind = kind }) ≡ true
        → kind ≡ Endpoint id
    go (Endpoint given) has = ap (λ n. Endpoint n) (eqb-true given id has)
    go (Switch ports entry) has = absurd (cc)

-- an ID that is given is not given again
given-not_again : (topology : Topology) (host_id id : ℕ) (before devices : List Device)
    (goal : Device)
    → AreDescribed topology host_id before devices → is_given before id ≡ true
    → Contains devices goal → device_has_id id goal ≡ true → ⊥
given-not_again topology host_id id before [] goal described given listed has =
    absurd (omega (arith, listed.1))
given-not_again topology host_id id before (first ∷ devices) goal described given listed has =
    go (Contains-cases first devices goal listed)
    (λ later. given-not_again topology host_id id (before ++ first ∷ []) devices goal described.1
    (is_given-later before first id given) later has)
  where
    least : (l : List Device) → is_given l id ≡ true → IsIdOf host_id l id
        → ⊥
    least [] given is = absurd (cc)
    least (x ∷ l) given is = let free = is.free in absurd (cc)

    kind : (o : Option ℕ) (k : Kind) → k ≡ Endpoint id
        → IsKindAt host_id before described.0.at o k → ⊥
    kind None (Endpoint other) same is =
        let equal : other ≡ id = cc in
        least before given (subst (λ n. IsIdOf host_id before n) equal is)
    kind None (Switch ports entry) same is = absurd is
    kind (Some n) (Endpoint other) same is = absurd is
    kind (Some n) (Switch ports entry) same is = absurd (cc)

    go : (first ≡ goal) ⊎ Contains devices goal → (Contains devices goal → ⊥) → ⊥
    go (inl same) on =
        kind (topology.switch_ports described.0.at.node) first.kind
        (ap (λ (d : Device). d.kind) same ∙ endpoint_from_id goal id has) described.0.kind
    go (inr later) on = on later

-- the endpoint with an ID is found by it
pub found-by_id : (topology : Topology) (host_id id : ℕ) (before devices : List Device)
    (goal : Device)
    → AreDescribed topology host_id before devices → Contains devices goal
    → device_has_id id goal ≡ true → find (device_has_id id) devices ≡ Some goal
found-by_id topology host_id id before [] goal described listed has =
    absurd (omega (arith, listed.1))
found-by_id topology host_id id before (first ∷ devices) goal described listed has =
    go (device_has_id id first) refl (Contains-cases first devices goal listed)
    (λ later. found-by_id topology host_id id (before ++ first ∷ []) devices goal described.1 later
    has)
  where
    go : (b : Bool) → device_has_id id first ≡ b → (first ≡ goal) ⊎ Contains devices goal
        → (Contains devices goal → find (device_has_id id) devices ≡ Some goal)
        → cond b (Some first) (find (device_has_id id) devices) ≡ Some goal
    go true is (inl same) on = ap (λ (d : Device). Some d) same
    go true is (inr later) on =
        absurd (given-not_again topology host_id id (before ++ first ∷ []) devices goal described.1
        (is_given-new before first id is) later has)
    go false is (inl same) on =
        let both : true ≡ false = sym has ∙ (ap (λ d. device_has_id id d) (sym same) ∙ is) in
        absurd (cc)
    go false is (inr later) on = on later
