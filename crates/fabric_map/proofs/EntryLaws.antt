-- Entries of a map, one after another.
use Rattle.fabric_map.proofs.Prelude.{◌≡◌, ℕ, ◌+◌, ◌<◌, Bool, true, false, cond, List, [], ◌∷◌, ◌++◌, length, map, filter, None, arith, refl, ap, ◌∙◌, append-nil, add-one, Device, Entry, is_given, toward, port_toward, port_for, numbers_below, given_ids, entries_at, Endpoint, Switch}

pub toward-none : (front path : List ℕ) → length path < 1 → None ≡ toward front path
toward-none [] [] short = refl
toward-none (x ∷ front) [] short = refl
toward-none front (y ∷ path) short = absurd (omega (arith, short))

pub port_toward-none : (devices : List Device) (path : List ℕ) (id : ℕ) → length devices < 1
    → None ≡ port_toward devices path id
port_toward-none [] path id short = refl
port_toward-none (x ∷ devices) path id short = absurd (omega (arith, short))

-- the entry of a switch for an ID
abbrev pub entry_for : List Device → Device → ℕ → ℕ → Entry
entry_for devices device entry id =
    record { tag = device.tag; id = id; port = port_for devices device.path entry id }

-- the entries of a switch for the IDs below a number
abbrev pub entries_below : List Device → Device → ℕ → ℕ → List Entry
entries_below devices device entry n =
    map (entry_for devices device entry) (filter (is_given devices) (numbers_below n))

filter-push : {X : Type 0} (p : X → Bool) (xs : List X) (x : X) (b : Bool) → p x ≡ b
    → filter p (xs ++ x ∷ []) ≡ filter p xs ++ cond b (x ∷ []) []
filter-push p [] x true is = rw is refl
filter-push p [] x false is = rw is refl
filter-push p (y ∷ xs) x b is = go (p y) (filter-push p xs x b is)
  where
    go : (c : Bool) → filter p (xs ++ x ∷ []) ≡ filter p xs ++ cond b (x ∷ []) []
        → cond c (y ∷ filter p (xs ++ x ∷ [])) (filter p (xs ++ x ∷ []))
        ≡ cond c (y ∷ filter p xs) (filter p xs) ++ cond b (x ∷ []) []
    go true rest = ap (λ l. y ∷ l) rest
    go false rest = rest

pub map-push : {X Y : Type 0} (f : X → Y) (xs ys : List X) → map f (xs ++ ys) ≡ map f xs ++ map f ys
map-push f [] ys = refl
map-push f (x ∷ xs) ys = ap (λ l. f x ∷ l) (map-push f xs ys)

numbers_below-next : (n : ℕ) → numbers_below (n + 1) ≡ numbers_below n ++ n ∷ []
numbers_below-next n = ap (λ m. numbers_below m) (add-one n)

-- one number more
pub entries_below-given : (devices : List Device) (device : Device) (entry n : ℕ)
    → is_given devices n ≡ true
    → entries_below devices device entry (n + 1)
    ≡ entries_below devices device entry n ++ entry_for devices device entry n ∷ []
entries_below-given devices device entry n given =
    ap (λ l. map (entry_for devices device entry) (filter (is_given devices) l))
    (numbers_below-next n)
    ∙ (ap (λ l. map (entry_for devices device entry) l) (filter-push (is_given devices)
    (numbers_below n) n true given)
    ∙ map-push (entry_for devices device entry) (filter (is_given devices) (numbers_below n))
    (n ∷ []))

pub entries_below-free : (devices : List Device) (device : Device) (entry n : ℕ)
    → is_given devices n ≡ false
    → entries_below devices device entry (n + 1) ≡ entries_below devices device entry n
entries_below-free devices device entry n free =
    ap (λ l. map (entry_for devices device entry) (filter (is_given devices) l))
    (numbers_below-next n)
    ∙ ap (λ l. map (entry_for devices device entry) l)
    (filter-push (is_given devices) (numbers_below n) n false free ∙ append-nil (filter
    (is_given devices) (numbers_below n)))

-- the entries of a switch are those for all IDs
pub entries_at-switch : (devices : List Device) (device : Device) (ports entry n : ℕ)
    → device.kind ≡ Switch ports entry → n ≡ 255
    → entries_below devices device entry n ≡ entries_at devices (given_ids devices) device
unfolding given_ids
entries_at-switch devices device ports entry n is all =
    rw (is, all) refl

pub entries_at-endpoint : (devices : List Device) (device : Device) (ids : List ℕ) (id : ℕ)
    → device.kind ≡ Endpoint id → entries_at devices ids device ≡ []
entries_at-endpoint devices device ids id is = rw is refl
