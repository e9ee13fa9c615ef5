-- Which ID is given next, and that IDs are few.
use Rattle.host_enumerate.proofs.Prelude.{◌≡◌, ◌≢◌, ℕ, zero, suc, ◌+◌, ◌<◌, ◌≤◌, nat_lt, Bool, true, false, List, [], ◌∷◌, ◌++◌, length, Contains, arith, ◌⊎◌, inl, inr, subst, sym, refl, ap, ◌∙◌, if◌then◌else◌, ne_eqb, eq-eqb, length-append, cases_eq, cases_lt, lt-ltb, le-ltb, Contains-push_cases, Endpoint, Switch, Device, device_has_id, is_given, IsLeastFree, has_id-endpoint, has_id-switch, or_false, is_given-later, is_given-not, is_given-new, id_after, given_below, IdsAreCounted}

-- before the host nothing is given
pub counted-none : (host_id : ℕ) → IdsAreCounted host_id [] 0
counted-none host_id = record {
  below = λ id less other. absurd (omega (arith, less));
  rest = λ id more other. refl;
  endpoints = λ device listed. absurd (omega (arith, listed.1));
  switches = λ device ports entry listed is. absurd (omega (arith, listed.1));
}

pub counted-host : (host_id : ℕ) (host : Device) → host.kind ≡ Endpoint host_id
    → IdsAreCounted host_id (host ∷ []) 0
counted-host host_id host is = record {
  below = λ id less other. absurd (omega (arith, less));
  rest = λ id more other. free id other;
  endpoints = λ device listed. few;
  switches = λ device ports entry listed switch. absurd (none device ports entry listed switch);
}
  where
    free : (id : ℕ) → id ≢ host_id → is_given (host ∷ []) id ≡ false
    free id other =
        or_false (device_has_id id host)
        ∙ (has_id-endpoint host id host_id is ∙ ne_eqb host_id id (λ same. other (sym same)))

    few : given_below host_id 0 ≤ 1
    few = go (nat_lt host_id 0)
      where
        go : (b : Bool) → (if b then 0 else 0 + 1) ≤ 1
        go true = omega arith
        go false = omega arith

    none : (device : Device) (ports entry : ℕ) → Contains (host ∷ []) device
        → ¬ (device.kind ≡ Switch ports entry)
    none device ports entry (zero, within, same) switch =
        let kind = ap (λ (d : Device). d.kind) same in
        let both : Endpoint host_id ≡ Switch ports entry = sym is ∙ (kind ∙ switch) in
        absurd (cc)
    none device ports entry (suc k, within, same) switch = omega (arith, within)

pub counted-switch : (host_id next ports entry : ℕ) (devices : List Device) (first device : Device)
    → IdsAreCounted host_id devices next → Contains devices first
    → device.kind ≡ Switch ports entry
    → IdsAreCounted host_id (devices ++ device ∷ []) next
counted-switch host_id next ports entry devices first device counted some is = record {
  below = λ id less other. is_given-later devices device id (counted.below id less other);
  rest = λ id more other. is_given-not devices device id (counted.rest id more other)
      (has_id-switch device id ports entry is);
  endpoints = λ other listed. let few = counted.endpoints first some in
      let one_more = length-append devices (device ∷ []) in omega (arith, few, one_more);
  switches = λ other p e listed switch. let few = counted.endpoints first some in
      let one_more = length-append devices (device ∷ []) in omega (arith, few, one_more);
}

-- one ID more is given
given_below-next : (host_id next : ℕ)
    → given_below host_id (id_after host_id next + 1) ≡ given_below host_id next + 1
given_below-next host_id next = go (cases_eq next host_id) (cases_lt host_id next)
  where
    go : (next ≡ host_id) ⊎ (next ≢ host_id) → (host_id < next) ⊎ (next ≤ host_id)
        → given_below host_id (id_after host_id next + 1) ≡ given_below host_id next + 1
    go (inl same) (inl less) = absurd (omega (arith, same, less))
    go (inl same) (inr more) =
        rw (
          eq-eqb next host_id same,
          lt-ltb host_id (next + 1 + 1) (omega (arith, same)),
          le-ltb host_id next more,
        ) refl
    go (inr other) (inl less) =
        rw (
          ne_eqb next host_id other,
          lt-ltb host_id (next + 1) (omega (arith, less)),
          lt-ltb host_id next less,
        ) refl
    go (inr other) (inr more) =
        rw (
          ne_eqb next host_id other,
          le-ltb host_id (next + 1) (omega (arith, other, more)),
          le-ltb host_id next more,
        ) refl

id_after-cases : (host_id next : ℕ)
    → ((next ≡ host_id) × (id_after host_id next ≡ next + 1))
    ⊎ ((next ≢ host_id) × (id_after host_id next ≡ next))
id_after-cases host_id next = go (cases_eq next host_id)
  where
    go : (next ≡ host_id) ⊎ (next ≢ host_id)
        → ((next ≡ host_id) × (id_after host_id next ≡ next + 1))
        ⊎ ((next ≢ host_id) × (id_after host_id next ≡ next))
    go (inl same) = inl (same, rw (eq-eqb next host_id same) refl)
    go (inr other) = inr (other, rw (ne_eqb next host_id other) refl)

pub counted-endpoint : (host_id next id : ℕ) (devices : List Device) (first device : Device)
    → IdsAreCounted host_id devices next → Contains devices first → id ≡ id_after host_id next
    → device.kind ≡ Endpoint id
    → IdsAreCounted host_id (devices ++ device ∷ []) (id + 1)
counted-endpoint host_id next id devices first device counted some new is = record {
  below = λ lesser less other. below lesser less other
      (id_after-cases host_id next) (cases_eq id lesser);
  rest = λ more above other. rest more above other (id_after-cases host_id next);
  endpoints = λ other listed. let few = counted.endpoints first some in
      omega (arith, one_more, longer, few);
  switches = λ other ports entry listed switch. switches other ports entry switch
      (Contains-push_cases devices device other listed);
}
  where
    below : (lesser : ℕ) → lesser < id + 1 → lesser ≢ host_id
        → ((next ≡ host_id) × (id_after host_id next ≡ next + 1))
        ⊎ ((next ≢ host_id) × (id_after host_id next ≡ next))
        → (id ≡ lesser) ⊎ (id ≢ lesser)
        → is_given (devices ++ device ∷ []) lesser ≡ true
    below lesser less other next_is (inl same) =
        is_given-new devices device lesser
        (has_id-endpoint device lesser id is ∙ eq-eqb id lesser same)
    below lesser less other (inl next_is) (inr apart) =
        is_given-later devices device lesser
        (counted.below lesser (omega (arith, less, other, next_is.0, next_is.1, new, apart))
        other)
    below lesser less other (inr next_is) (inr apart) =
        is_given-later devices device lesser
        (counted.below lesser (omega (arith, less, next_is.1, new, apart)) other)

    rest : (more : ℕ) → id + 1 ≤ more → more ≢ host_id
        → ((next ≡ host_id) × (id_after host_id next ≡ next + 1))
        ⊎ ((next ≢ host_id) × (id_after host_id next ≡ next))
        → is_given (devices ++ device ∷ []) more ≡ false
    rest more above other next_is =
        is_given-not devices device more (counted.rest more (least next_is) other)
        (has_id-endpoint device more id is
        ∙ ne_eqb id more (λ same. omega (arith, same, above)))
      where
        least : ((next ≡ host_id) × (id_after host_id next ≡ next + 1))
            ⊎ ((next ≢ host_id) × (id_after host_id next ≡ next))
            → next ≤ more
        least (inl is_next) = omega (arith, above, new, is_next.1)
        least (inr is_next) = omega (arith, above, new, is_next.1)

    one_more : given_below host_id (id + 1) ≡ given_below host_id next + 1
    one_more = ap (λ n. given_below host_id (n + 1)) new ∙ given_below-next host_id next

    longer : length (devices ++ device ∷ []) ≡ length devices + 1
    longer = length-append devices (device ∷ [])

    switches : (other : Device) (ports entry : ℕ) → other.kind ≡ Switch ports entry
        → Contains devices other ⊎ (device ≡ other)
        → given_below host_id (id + 1) < length (devices ++ device ∷ [])
    switches other ports entry switch (inl listed) =
        let few = counted.switches other ports entry listed switch in
        omega (arith, one_more, longer, few)
    switches other ports entry switch (inr same) =
        let both : Endpoint id ≡ Switch ports entry =
        sym is ∙ (ap (λ (d : Device). d.kind) same ∙ switch) in
        absurd (cc)

-- the ID that is given is the least that is free
pub counted-least : (host_id next : ℕ) (devices : List Device) → IdsAreCounted host_id devices next
    → is_given devices host_id ≡ true → IsLeastFree devices (id_after host_id next)
counted-least host_id next devices counted host = record {
  free = free (id_after-cases host_id next);
  least = λ lesser less. least lesser less (id_after-cases host_id next)
      (cases_eq lesser host_id);
}
  where
    free : ((next ≡ host_id) × (id_after host_id next ≡ next + 1))
        ⊎ ((next ≢ host_id) × (id_after host_id next ≡ next))
        → is_given devices (id_after host_id next) ≡ false
    free (inl is_next) = counted.rest (id_after host_id next) (omega (arith, is_next.1))
        (λ same. omega (arith, same, is_next.0, is_next.1))
    free (inr is_next) = counted.rest (id_after host_id next) (omega (arith, is_next.1))
        (λ same. is_next.0 (omega (arith, same, is_next.1)))

    least : (lesser : ℕ) → lesser < id_after host_id next
        → ((next ≡ host_id) × (id_after host_id next ≡ next + 1))
        ⊎ ((next ≢ host_id) × (id_after host_id next ≡ next))
        → (lesser ≡ host_id) ⊎ (lesser ≢ host_id) → is_given devices lesser ≡ true
    least lesser less is_next (inl same) = subst (λ n. is_given devices n ≡ true) (sym same) host
    least lesser less (inl is_next) (inr other) =
        counted.below lesser (omega (arith, less, is_next.0, is_next.1, other)) other
    least lesser less (inr is_next) (inr other) =
        counted.below lesser (omega (arith, less, is_next.1)) other

-- it is less than the number of IDs that are given then
pub id_after-few : (host_id next : ℕ) → id_after host_id next ≤ given_below host_id next
id_after-few host_id next = go (cases_eq next host_id) (cases_lt host_id next)
  where
    go : (next ≡ host_id) ⊎ (next ≢ host_id) → (host_id < next) ⊎ (next ≤ host_id)
        → id_after host_id next ≤ given_below host_id next
    go (inl same) (inl less) = absurd (omega (arith, same, less))
    go (inl same) (inr more) = rw (eq-eqb next host_id same, le-ltb host_id next more) (omega arith)
    go (inr other) (inl less) =
        rw (ne_eqb next host_id other, lt-ltb host_id next less) (omega arith)
    go (inr other) (inr more) =
        rw (ne_eqb next host_id other, le-ltb host_id next more) (omega arith)
