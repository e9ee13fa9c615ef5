-- Which way leads to the endpoint with an ID, as the list of devices grows.
use Rattle.fabric_map.proofs.Prelude.{◌≡◌, ◌≢◌, ℕ, zero, suc, ◌<◌, ◌||◌, Bool, true, false, cond, eqb, List, [], ◌∷◌, ◌++◌, length, take, find, slice_index_or, Option, Some, None, All, arith, subst, refl, ap, ◌∙◌, if◌then◌else◌, eq-eqb, list_any, option_and_then, option_or, eqb-true, find-append, Device, Before, onward, device_has_id, is_given, toward, port_toward}
use Rattle.fabric_map.proofs.Order.{further-not_less}

-- a path that goes on behind another
pub toward-further : (front : List ℕ) (port : ℕ) (rest : List ℕ)
    → toward front (front ++ port ∷ rest) ≡ Some port
toward-further [] port rest = refl
toward-further (x ∷ front) port rest =
    rw (eq-eqb x x refl) (toward-further front port rest)

-- and no other has such a port
pub further_from_toward : (front path : List ℕ) (port : ℕ) → toward front path ≡ Some port
    → (rest : List ℕ) × (path ≡ front ++ port ∷ rest)
further_from_toward [] [] port same = absurd (cc)
further_from_toward [] (x ∷ path) port same = (path, cc)
further_from_toward (x ∷ front) [] port same = absurd (cc)
further_from_toward (x ∷ front) (y ∷ path) port same =
    go (eqb x y) refl same (λ leads. further_from_toward front path port leads)
  where
    go : (b : Bool) → eqb x y ≡ b
        → (if b then toward front path else None) ≡ Some port
        → (toward front path ≡ Some port
        → (rest : List ℕ) × (path ≡ front ++ port ∷ rest))
        → (rest : List ℕ) × (y ∷ path ≡ x ∷ front ++ port ∷ rest)
    go true is leads on =
        let found = on leads in
        let head = eqb-true x y is in
        (found.0, cc)
    go false is leads on = absurd (cc)

not_some : {X : Type 0} (o : Option X) → ((x : X) → o ≢ Some x) → o ≡ None
not_some None none = refl
not_some (Some x) none = absurd (none x refl)

-- a path that stands before another does not go on behind that
pub toward-before : (front path : List ℕ) → Before path front → toward front path ≡ None
toward-before front path before = not_some (toward front path) (λ port same.
    let found = further_from_toward front path port same in
    further-not_less front (port ∷ found.0) (subst (λ l. Before l front) found.1 before))

-- nor does a path go on behind itself
pub toward-itself : (path : List ℕ) → toward path path ≡ None
toward-itself [] = refl
toward-itself (x ∷ path) = rw (eq-eqb x x refl) (toward-itself path)

pub toward-last : (path : List ℕ) (port : ℕ) → toward path (onward path port) ≡ Some port
toward-last path port = toward-further path port []

-- one port more at the end of a path that goes on
pub toward-longer : (front path more : List ℕ) (port : ℕ) → toward front path ≡ Some port
    → toward front (path ++ more) ≡ Some port
toward-longer [] [] more port same = absurd (cc)
toward-longer [] (x ∷ path) more port same = same
toward-longer (x ∷ front) [] more port same = absurd (cc)
toward-longer (x ∷ front) (y ∷ path) more port same =
    go (eqb x y) same (λ leads. toward-longer front path more port leads)
  where
    go : (b : Bool) → (if b then toward front path else None) ≡ Some port
        → (toward front path ≡ Some port → toward front (path ++ more) ≡ Some port)
        → (if b then toward front (path ++ more) else None) ≡ Some port
    go true leads on = on leads
    go false leads on = absurd (cc)

-- a path goes on behind each of its fronts
pub toward-take : (path : List ℕ) (n : ℕ) (d : ℕ) → n < length path
    → toward (take n path) path ≡ Some (slice_index_or path n d)
toward-take [] n d within = absurd (omega (arith, within))
toward-take (x ∷ path) zero d within = refl
toward-take (x ∷ path) (suc n) d within =
    rw (eq-eqb x x refl) (toward-take path n d (omega (arith, within)))

-- and behind nothing else
pub take_from_toward : (front path : List ℕ) (port d : ℕ) → toward front path ≡ Some port
    → (front ≡ take (length front) path) × (length front < length path)
    × (slice_index_or path (length front) d ≡ port)
take_from_toward [] [] port d same = absurd (cc)
take_from_toward [] (x ∷ path) port d same = (refl, omega arith, cc)
take_from_toward (x ∷ front) [] port d same = absurd (cc)
take_from_toward (x ∷ front) (y ∷ path) port d same =
    go (eqb x y) refl same (λ leads. take_from_toward front path port d leads)
  where
    go : (b : Bool) → eqb x y ≡ b
        → (if b then toward front path else None) ≡ Some port
        → (toward front path ≡ Some port
        → (front ≡ take (length front) path) × (length front < length path)
        × (slice_index_or path (length front) d ≡ port))
        → (x ∷ front ≡ y ∷ take (length front) path)
        × (suc (length front) < suc (length path))
        × (slice_index_or path (length front) d ≡ port)
    go true is leads on =
        let found = on leads in
        let head = eqb-true x y is in
        let rest = found.0 in
        (cc, omega (arith, found.1), found.2)
    go false is leads on = absurd (cc)

find-free : (devices : List Device) (id : ℕ) → is_given devices id ≡ false
    → find (device_has_id id) devices ≡ None
find-free [] id free = refl
find-free (device ∷ devices) id free =
    go (device_has_id id device) free (λ none. find-free devices id none)
  where
    go : (b : Bool) → (b || list_any (device_has_id id) devices) ≡ false
        → (list_any (device_has_id id) devices ≡ false → find (device_has_id id) devices ≡ None)
        → cond b (Some device) (find (device_has_id id) devices) ≡ None
    go true free on = absurd (cc)
    go false free on = on free

-- an ID that is not given leads nowhere
pub port_toward-free : (devices : List Device) (path : List ℕ) (id : ℕ)
    → is_given devices id ≡ false → port_toward devices path id ≡ None
port_toward-free devices path id free =
    ap (λ o. option_and_then (λ (endpoint : Device). toward path endpoint.path) o)
    (find-free devices id free)

or_none : {X : Type 0} (o : Option X) → option_or o None ≡ o
or_none None = refl
or_none (Some x) = refl

-- a device that does not have the ID changes nothing
pub port_toward-other : (devices : List Device) (device : Device) (path : List ℕ) (id : ℕ)
    → device_has_id id device ≡ false
    → port_toward (devices ++ device ∷ []) path id ≡ port_toward devices path id
port_toward-other devices device path id other =
    ap (λ o. option_and_then (λ (endpoint : Device). toward path endpoint.path) o)
    (find-append (device_has_id id) devices (device ∷ [])
    ∙ (ap (λ o. option_or (find (device_has_id id) devices) o) last ∙ or_none
    (find (device_has_id id) devices)))
  where
    last : find (device_has_id id) (device ∷ []) ≡ None
    last = rw other refl

-- the first endpoint with an ID has the way
pub port_toward-new : (devices : List Device) (device : Device) (path : List ℕ) (id : ℕ)
    → is_given devices id ≡ false → device_has_id id device ≡ true
    → port_toward (devices ++ device ∷ []) path id ≡ toward path device.path
port_toward-new devices device path id free new =
    ap (λ o. option_and_then (λ (endpoint : Device). toward path endpoint.path) o)
    (find-append (device_has_id id) devices (device ∷ [])
    ∙ (ap (λ o. option_or o (find (device_has_id id) (device ∷ []))) (find-free devices id free)
    ∙ last))
  where
    last : find (device_has_id id) (device ∷ []) ≡ Some device
    last = rw new refl

-- no device is reached by a path behind this one
pub port_toward-unbegun : (devices : List Device) (path : List ℕ) (id : ℕ)
    → All (λ (device : Device). Before device.path path) devices
    → port_toward devices path id ≡ None
port_toward-unbegun [] path id before = refl
port_toward-unbegun (device ∷ devices) path id before =
    go (device_has_id id device)
    (port_toward-unbegun devices path id (λ k d within. before (suc k) d (omega (arith, within))))
  where
    go : (b : Bool) → port_toward devices path id ≡ None
        → option_and_then (λ (endpoint : Device). toward path endpoint.path)
        (cond b (Some device) (find (device_has_id id) devices)) ≡ None
    go true rest = toward-before path device.path (before zero device (omega arith))
    go false rest = rest
