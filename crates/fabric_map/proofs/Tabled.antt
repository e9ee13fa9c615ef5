-- What stands in the entries of a map.
use Rattle.fabric_map.proofs.Prelude.{◌≡◌, ℕ, ◌+◌, ◌<◌, ◌||◌, Bool, true, false, cond, List, [], ◌∷◌, ◌++◌, length, map, filter, flat_map, Contains, arith, ◌⊎◌, inl, inr, subst, sym, refl, ap, ◌∙◌, length-append, list_any, Contains-append_cases, Kind, Endpoint, Switch, Device, Entry, Topology, device_has_id, is_given, port_for, numbers_below, given_ids, entries_at, entries_of, AreDescribed}
use Rattle.std.proofs.lemmas.List.Concat.{flat_map-cons}
use Rattle.fabric_map.proofs.Lists.{not_in_empty, Contains-first, Contains-rest, Contains-cases}

listed-flat_map : {X Y : Type 0} (f : X → List Y) (xs : List X) (y : Y)
    → Contains (flat_map f xs) y → (x : X) × Contains xs x × Contains (f x) y
listed-flat_map f [] y listed = absurd (not_in_empty y listed)
listed-flat_map {X} {Y} f (x ∷ xs) y listed =
    go (Contains-append_cases (f x) (flat_map f xs) y
    (subst (λ l. Contains l y) (flat_map-cons f x xs) listed))
    (λ later. listed-flat_map f xs y later)
  where
    go : Contains (f x) y ⊎ Contains (flat_map f xs) y
        → (Contains (flat_map f xs) y → (z : X) × Contains xs z × Contains (f z) y)
        → (z : X) × Contains (x ∷ xs) z × Contains (f z) y
    go (inl here) on = (x, Contains-first x xs, here)
    go (inr later) on =
        let found = on later in (found.0, Contains-rest x xs found.0 found.1, found.2)

listed-map : {X Y : Type 0} (f : X → Y) (xs : List X) (y : Y)
    → Contains (map f xs) y → (x : X) × Contains xs x × (f x ≡ y)
listed-map f [] y listed = absurd (not_in_empty y listed)
listed-map {X} {Y} f (x ∷ xs) y listed =
    go (Contains-cases (f x) (map f xs) y listed) (λ later. listed-map f xs y later)
  where
    go : (f x ≡ y) ⊎ Contains (map f xs) y
        → (Contains (map f xs) y → (z : X) × Contains xs z × (f z ≡ y))
        → (z : X) × Contains (x ∷ xs) z × (f z ≡ y)
    go (inl same) on = (x, Contains-first x xs, same)
    go (inr later) on =
        let found = on later in (found.0, Contains-rest x xs found.0 found.1, found.2)

listed-filter : {X : Type 0} (p : X → Bool) (xs : List X) (x : X)
    → Contains (filter p xs) x → p x ≡ true
listed-filter p [] x listed = absurd (not_in_empty x listed)
listed-filter p (y ∷ xs) x listed =
    go (p y) refl listed (λ later. listed-filter p xs x later)
  where
    go : (b : Bool) → p y ≡ b → Contains (cond b (y ∷ filter p xs) (filter p xs)) x
        → (Contains (filter p xs) x → p x ≡ true) → p x ≡ true
    go true is found on = at (Contains-cases y (filter p xs) x found)
      where
        at : (y ≡ x) ⊎ Contains (filter p xs) x → p x ≡ true
        at (inl same) = ap p (sym same) ∙ is
        at (inr later) = on later
    go false is found on = on found

-- an entry of a map is that of a switch for an ID that is given
pub entry_listed : (devices : List Device) (entry : Entry) → Contains (entries_of devices) entry
    → (device : Device) × (ports : ℕ) × (home : ℕ) × Contains devices device
    × (device.kind ≡ Switch ports home) × (device.tag ≡ entry.tag)
    × (is_given devices entry.id ≡ true)
    × (port_for devices device.path home entry.id ≡ entry.port)
unfolding given_ids
entry_listed devices entry listed =
    let at = listed-flat_map (entries_at devices (given_ids devices)) devices entry listed in
    go at.0 at.1 at.0.kind refl at.2
  where
    go : (device : Device) → Contains devices device → (kind : Kind) → device.kind ≡ kind
        → Contains (entries_at devices (given_ids devices) (record device { kind = kind })) entry
        → (device : Device) × (ports : ℕ) × (home : ℕ) × Contains devices device
        × (device.kind ≡ Switch ports home) × (device.tag ≡ entry.tag)
        × (is_given devices entry.id ≡ true)
        × (port_for devices device.path home entry.id ≡ entry.port)
    go device within (Endpoint id) is found = absurd (not_in_empty entry found)
    go device within (Switch ports home) is found =
        let of_id = listed-map (λ id. entry_with device home id) (given_ids devices) entry found in
        let given = listed-filter (is_given devices) (numbers_below 255) of_id.0 of_id.1 in
        let id_same : of_id.0 ≡ entry.id = ap (λ (e : Entry). e.id) of_id.2 in (
          device,
          ports,
          home,
          within,
          is,
          ap (λ (e : Entry). e.tag) of_id.2,
          subst (λ n. is_given devices n ≡ true) id_same given,
          ap (λ n. port_for devices device.path home n) (sym id_same)
              ∙ ap (λ (e : Entry). e.port) of_id.2,
        )
      where
        entry_with : Device → ℕ → ℕ → Entry
        entry_with device home id = record {
          tag = device.tag;
          id = id;
          port = port_for devices device.path home id;
        }

-- the device to which an ID is given
pub given_device : (devices : List Device) (id : ℕ) → is_given devices id ≡ true
    → (device : Device) × Contains devices device × (device_has_id id device ≡ true)
given_device [] id given = absurd (cc)
given_device (first ∷ devices) id given =
    go (device_has_id id first) refl given (λ later. given_device devices id later)
  where
    go : (b : Bool) → device_has_id id first ≡ b → (b || list_any (device_has_id id) devices) ≡ true
        → (is_given devices id ≡ true
        → (device : Device) × Contains devices device × (device_has_id id device ≡ true))
        → (device : Device) × Contains (first ∷ devices) device × (device_has_id id device ≡ true)
    go true is found on = (first, Contains-first first devices, is)
    go false is found on =
        let at = on found in (at.0, Contains-rest first devices at.0 at.1, at.2)

later_tag : (topology : Topology) (host_id : ℕ) (before devices : List Device) (device : Device)
    → AreDescribed topology host_id before devices → Contains devices device
    → length before < device.tag
later_tag topology host_id before [] device described listed =
    absurd (not_in_empty device listed)
later_tag topology host_id before (first ∷ devices) device described listed =
    go (Contains-cases first devices device listed)
    (λ later. later_tag topology host_id (before ++ first ∷ []) devices device described.1 later)
  where
    go : (first ≡ device) ⊎ Contains devices device
        → (Contains devices device → length (before ++ first ∷ []) < device.tag)
        → length before < device.tag
    go (inl same) on =
        let tag = described.0.tag in
        let equal = ap (λ (d : Device). d.tag) same in omega (arith, tag, equal)
    go (inr later) on =
        let more = on later in
        let long = length-append before (first ∷ []) in omega (arith, more, long)

-- each tag is that of one device
pub one_tag : (topology : Topology) (host_id : ℕ) (before devices : List Device)
    (a b : Device)
    → AreDescribed topology host_id before devices → Contains devices a → Contains devices b
    → a.tag ≡ b.tag → a ≡ b
one_tag topology host_id before [] a b described one two same = absurd (not_in_empty a one)
one_tag topology host_id before (first ∷ devices) a b described one two same =
    go (Contains-cases first devices a one) (Contains-cases first devices b two)
    (λ later both. one_tag topology host_id (before ++ first ∷ []) devices a b described.1 later
    both same)
  where
    long : length (before ++ first ∷ []) ≡ length before + 1
    long = length-append before (first ∷ [])

    first_tag : first.tag ≡ length before + 1
    first_tag = described.0.tag

    go : (first ≡ a) ⊎ Contains devices a → (first ≡ b) ⊎ Contains devices b
        → (Contains devices a → Contains devices b → a ≡ b) → a ≡ b
    go (inl is_a) (inl is_b) on = sym is_a ∙ is_b
    go (inl is_a) (inr later) on =
        let more = later_tag topology host_id (before ++ first ∷ []) devices b described.1 later in
        let equal = ap (λ (d : Device). d.tag) is_a in
        absurd (omega (arith, more, equal, same, long, first_tag))
    go (inr later) (inl is_b) on =
        let more = later_tag topology host_id (before ++ first ∷ []) devices a described.1 later in
        let equal = ap (λ (d : Device). d.tag) is_b in
        absurd (omega (arith, more, equal, same, long, first_tag))
    go (inr one) (inr two) on = on one two
