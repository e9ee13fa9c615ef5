-- The writes that are left for an endpoint let each switch on its path send to it.
use Rattle.contest_machine.proofs.Prelude.{◌≡◌, ◌≢◌, ℕ, ◌<◌, true, List, [], ◌∷◌, ◌++◌, Option, Some, None, Contains, ◌⊎◌, inl, inr, subst, sym, refl, ap, ◌∙◌, same_Some, cases_eq, PortRef, is_switch, Kind, Endpoint, Switch, Device, Topology, entered, node_at, Walked, AllRegisters, IsNext, paths_of, toward, AreDescribed, toward-further, further_from_toward, passed_listed, device_on, described-listed, port_of_entry, Contains-first, Contains-rest, with_entry, PathPasses, AreRouted, passed_switch, entry_set, route_of, route_pending, routes_to, AreOnce}
use Rattle.contest_machine.proofs.Numbering.OnWay.{performed}
use Rattle.contest_machine.proofs.Numbering.Leading.{performed-append, one-beside, routes-passed}

-- a device none of whose entries in a list of devices has such a write
routes-none : (view : Topology) (path : List ℕ) (id : ℕ) (devices : List Device)
    (now : AllRegisters)
    (node : ℕ)
    → ((device : Device) → Contains devices device → node_at view device.path ≡ Some node
    → route_pending path id device ≡ [])
    → performed view now (routes_to devices path id) node ≡ now node
routes-none view path id [] now node none = refl
routes-none view path id (first ∷ rest) now node none =
    ap (λ r. r node)
    (performed-append view now (route_pending path id first) (routes_to rest path id))
    ∙ (routes-none view path id rest (performed view now (route_pending path id first)) node
    (λ device listed leads. none device (Contains-rest first rest device listed) leads)
    ∙ go (node_at view first.path) refl)
  where
    at : (n : ℕ) → node_at view first.path ≡ Some n → (n ≡ node) ⊎ (n ≢ node)
        → performed view now (route_pending path id first) node ≡ now node
    at n is (inl same) =
        ap (λ t. performed view now t node)
        (none first (Contains-first first rest) (is ∙ ap (λ k. Some k) same))
    at n is (inr other) =
        one-beside view path id first now node (λ leads. other (same_Some n node (sym is ∙ leads)))

    go : (o : Option ℕ) → node_at view first.path ≡ o
        → performed view now (route_pending path id first) node ≡ now node
    go None is = one-beside view path id first now node (λ leads. clash (sym is ∙ leads))
      where
        clash : None ≡ Some node → ⊥
        clash e = absurd (cc)
    go (Some n) is = at n is (cases_eq n node)

module _ (view : Topology) (host_id id first : ℕ) (rest : List ℕ) (devices : List Device)
    (mid : AllRegisters) (end : PortRef)
    (walked : Walked view (paths_of devices) (first ∷ rest))
    (described : AreDescribed view host_id [] devices)
    (once : AreOnce view (paths_of devices))
    (is_next : IsNext (paths_of devices) (first ∷ rest))
    (enters : entered view (first ∷ rest) ≡ Some end)
    (host_kind : (device : Device) → Contains devices device → device.path ≡ []
    → (given : ℕ) × (device.kind ≡ Endpoint given))
    (few : id < 256)
    (switches : (front later : List ℕ) (port : ℕ) (at : PortRef)
    → first ∷ rest ≡ front ++ port ∷ later → front ≢ [] → entered view front ≡ Some at
    → (is_switch (mid at.node) ≡ true) × (port < 256) × (at.node ≢ view.host)) where
  abbrev path : List ℕ
  path = first ∷ rest

  kind_routes : (device : Device) (port ports entry : ℕ) → device.kind ≡ Switch ports entry
      → toward device.path path ≡ Some port
      → route_pending path id device ≡ entry_set device.path id port
  kind_routes device port ports entry kind leads =
      ap (λ k. route_of device.path id k (toward device.path path)) kind
      ∙ ap (λ o. route_of device.path id (Switch ports entry) o) leads

  passed : (node port : ℕ) → PathPasses view (first ∷ []) rest node port
      → performed view mid (routes_to devices path id) node ≡ with_entry (mid node) id port
  passed node port (middle, later, at, is, leads, same) =
      let front : List ℕ = first ∷ middle in
      let whole : path ≡ front ++ port ∷ later = ap (λ l. first ∷ l) is in
      let known = switches front later port at whole (λ e. cc) leads in
      let listed = passed_listed view (paths_of devices) path path front later port walked is_next
      whole in
      let found = device_on devices front listed in
      let member = found.0 in
      let enters_member : entered view member.path ≡ Some at =
      ap (λ l. entered view l) found.2 ∙ leads in
      let told = described-listed view host_id [] devices member described found.1 in
      let kind = passed_switch view host_id told.0 member at end port later told.1 enters_member
      (ap (λ l. entered view (l ++ port ∷ later)) found.2
      ∙ (ap (λ l. entered view l) (sym whole) ∙ enters)) known.2 in
      let goes : toward member.path path ≡ Some port =
      ap (λ l. toward l path) found.2
      ∙ (ap (λ l. toward front l) whole ∙ toward-further front port later) in
      subst (λ n. performed view mid (routes_to devices path id) n ≡ with_entry (mid n) id port)
      same
      (routes-passed view path id devices member at port mid once found.1 enters_member
      (kind_routes member port kind.0 kind.1 kind.2 goes) known.0 few known.1)

  others : (node : ℕ) → ((port : ℕ) → ¬ PathPasses view (first ∷ []) rest node port)
      → performed view mid (routes_to devices path id) node ≡ mid node
  others node none =
      routes-none view path id devices mid node
      (λ device listed leads. go device leads (host_kind device listed) device.path refl
      device.kind refl
      (toward device.path path) refl)
    where
      host_none : (device : Device) (ports entry : ℕ) → device.kind ≡ Switch ports entry
          → ((device.path ≡ []) → (given : ℕ) × (device.kind ≡ Endpoint given))
          → device.path ≢ []
      host_none device ports entry kind host empty =
          let given = host empty in
          let clash : Endpoint given.0 ≡ Switch ports entry = sym given.1 ∙ kind in
          absurd (cc)

      passes : (device : Device) (port : ℕ) (p : List ℕ) → node_at view device.path ≡ Some node
          → device.path ≡ p → p ≢ [] → toward p path ≡ Some port
          → PathPasses view (first ∷ []) rest node port
      passes device port [] leads is some goes = absurd (some refl)
      passes device port (x ∷ p) leads is some goes =
          let further = further_from_toward (x ∷ p) path port goes in
          let entry = port_of_entry (entered view device.path) node leads in
          let head : x ≡ first = cc in
          let tail : rest ≡ p ++ port ∷ further.0 = cc in (
            p,
            further.0,
            entry.0,
            tail,
            ap (λ n. entered view (n ∷ p)) (sym head)
                ∙ (ap (λ l. entered view l) (sym is) ∙ entry.1),
            entry.2,
          )

      go : (device : Device) → node_at view device.path ≡ Some node
          → (device.path ≡ [] → (given : ℕ) × (device.kind ≡ Endpoint given))
          → (p : List ℕ) → device.path ≡ p
          → (kind : Kind) → device.kind ≡ kind
          → (o : Option ℕ) → toward device.path path ≡ o → route_pending path id device ≡ []
      go device leads host p at (Endpoint given) is o goes =
          ap (λ k. route_of device.path id k (toward device.path path)) is
      go device leads host p at (Switch ports entry) is None goes =
          ap (λ k. route_of device.path id k (toward device.path path)) is
          ∙ ap (λ o. route_of device.path id (Switch ports entry) o) goes
      go device leads host p at (Switch ports entry) is (Some port) goes =
          absurd (none port (passes device port device.path leads refl
          (host_none device ports entry is host) goes))

  pub routes_are_routed : AreRouted view mid (performed view mid (routes_to devices path id))
      (first ∷ []) rest id
  routes_are_routed = record { passed = passed; others = others }
