-- An endpoint that a walker keeps has its ID, and the walker is on its way past it.
use Rattle.contest_machine.proofs.Prelude.{◌≡◌, ◌≢◌, ℕ, ◌+◌, ◌*◌, ◌<◌, true, false, List, [], ◌∷◌, ◌++◌, length, Some, None, Contains, arith, subst, sym, refl, ap, ◌∙◌, unwrap_or, same_Some, PortRef, Registers, is_switch, base_id-written, Endpoint, Device, entered, node_at, onward, AllRegisters, Fits, IsNext, paths_of, node_at-entered, Write, after_access, IsTakable, id_after, met_as, IsUnderway, with_device-at, with_device-other, followed-none, underway-closed, IsTaken, underway-endpoint, PendingWrite, Features, Walker, write, routes_to, AreOnce}
use Rattle.contest_machine.proofs.Numbering.OnWay.{one_performed, performed, taken_as, IsOnWay, not_foreign}
use Rattle.contest_machine.proofs.Keeping.Stepped.{at_stage}
use Rattle.contest_machine.proofs.Numbering.Routed.{routes_are_routed}

module _ (w : Walker) (now : AllRegisters) (at : PortRef) (first : ℕ) (rest : List ℕ)
    (whole : w.path ≡ first ∷ rest)
    (way : IsOnWay (at_stage w Features) now) (fits : Fits w.view way.seen)
    (enters : entered w.view (first ∷ rest) ≡ Some at)
    (kind : w.view.switch_ports at.node ≡ None)
    (is_endpoint : is_switch (now at.node) ≡ false)
    (is_next : IsNext (paths_of w.devices) (first ∷ rest))
    (once : AreOnce w.view (paths_of w.devices))
    (few : id_after w.id w.next < 256)
    (host_kind : (device : Device) → Contains w.devices device → device.path ≡ []
    → (given : ℕ) × (device.kind ≡ Endpoint given))
    (switches : (mid : AllRegisters) → ((node : ℕ) → node ≢ at.node → mid node ≡ now node)
    → (front later : List ℕ) (port : ℕ) (on : PortRef)
    → first ∷ rest ≡ front ++ port ∷ later → front ≢ [] → entered w.view front ≡ Some on
    → (is_switch (mid on.node) ≡ true) × (port < 256) × (on.node ≢ w.view.host)) where
  abbrev id : ℕ
  id = id_after w.id w.next

  abbrev todo : List PendingWrite
  todo = write (first ∷ rest) 0x60 (id * 0x10000) ∷ routes_to w.devices (first ∷ rest) id

  abbrev mid : AllRegisters
  mid = after_access now at (Write 0x60 (id * 0x10000))

  beside : (node : ℕ) → node ≢ at.node → mid node ≡ now node
  beside node apart = with_device-other now at.node node _ apart

  abbrev with_id : Registers → Registers
  with_id device = record device { base_id = id }

  numbered : mid at.node ≡ record (now at.node) { base_id = id }
  numbered =
      with_device-at now at.node _
      ∙ (ap (λ o. unwrap_or o (now at.node))
      (base_id-written (now at.node) (id * 0x10000) is_endpoint)
      ∙ ap (λ n. record (now at.node) { base_id = n }) (omega (arith, few)))

  at_path : node_at w.view w.path ≡ Some at.node
  at_path = node_at-entered w.view w.path at (ap (λ l. entered w.view l) whole ∙ enters)

  fresh : IsTakable w.id (way.before at.node)
      × (now at.node ≡ record (way.before at.node) { lock = w.id; tag = length w.devices + 1 })
  fresh =
      let told = way.fresh at.node at_path in
      (told.0, told.1 ∙ ap (λ p. taken_as p w.id (length w.devices + 1) (way.before at.node)) whole)

  taken : IsTaken w.id w.devices (way.before at.node) (mid at.node)
  taken =
      subst (λ d. IsTaken w.id w.devices (way.before at.node) d)
      (sym (numbered ∙ ap with_id fresh.1))
      (record {
        lock = refl;
        tag = refl;
        not_foreign = not_foreign w.id (way.before at.node) fresh.0;
        changes = record {
          rest = refl;
          routes = λ id most less apart. refl;
        };
      })

  underway : IsUnderway w.view way.before way.seen w.id w.devices w.next (first ∷ rest)
  underway =
      subst (λ l. IsUnderway w.view way.before way.seen w.id w.devices w.next l) whole way.underway

  is_after : performed w.view mid (routes_to w.devices (first ∷ rest) id)
      ≡ performed w.view now todo
  is_after =
      ap (λ o. performed w.view
      (one_performed now (write (first ∷ rest) 0x60 (id * 0x10000)) o)
      (routes_to w.devices (first ∷ rest) id)) (sym enters)

  seen_beside : (node : ℕ) → node ≢ at.node → mid node ≡ way.seen node
  seen_beside node apart =
      beside node apart
      ∙ sym (way.seen_is node (λ leads. apart (same_Some node at.node (sym leads ∙ at_path))))

  -- the endpoint is in the list
  pub endpoint_taken : IsUnderway w.view way.before (performed w.view now todo) w.id
      (w.devices ++ met_as w.devices (Endpoint id) (first ∷ rest) ∷ []) (id + 1)
      (onward (first ∷ rest) 0)
  endpoint_taken =
      subst (λ r. IsUnderway w.view way.before r w.id
      (w.devices ++ met_as w.devices (Endpoint id) (first ∷ rest) ∷ []) (id + 1)
      (onward (first ∷ rest) 0)) is_after
      (underway-endpoint w.view way.before way.seen mid
      (performed w.view mid (routes_to w.devices (first ∷ rest) id)) w.id w.next id first rest
      w.devices at underway is_next enters (way.new at.node at_path) kind fits refl seen_beside
      (routes_are_routed w.view w.id id first rest w.devices mid at underway.walked
      underway.described once is_next enters host_kind few (switches mid beside)) taken
      (ap (λ (d : Registers). d.base_id) numbered))

  -- and the port behind which it is is done
  pub endpoint_past : (path : List ℕ) (port : ℕ) → first ∷ rest ≡ onward path port
      → at.node ≢ w.view.host
      → IsUnderway w.view way.before (performed w.view now todo) w.id
      (w.devices ++ met_as w.devices (Endpoint id) (first ∷ rest) ∷ []) (id + 1)
      (onward path (port + 1))
  endpoint_past path port same other =
      underway-closed w.view way.before (performed w.view now todo) w.id (id + 1)
      (w.devices ++ met_as w.devices (Endpoint id) (first ∷ rest) ∷ []) path at port 0
      (subst (λ l. IsUnderway w.view way.before (performed w.view now todo) w.id
      (w.devices ++ met_as w.devices (Endpoint id) (first ∷ rest) ∷ []) (id + 1) (onward l 0)) same
      endpoint_taken)
      (ap (λ l. entered w.view l) (sym same) ∙ enters)
      (followed-none w.view at.node other kind)
