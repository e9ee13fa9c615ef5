-- A walker that takes in an endpoint or a switch, or goes behind a port, leaves its way open.
use Rattle.contest_machine.proofs.Prelude.{◌≡◌, ◌≢◌, ℕ, ◌+◌, ◌*◌, ◌%◌, ◌≤◌, ◌<◌, Bool, true, false, eqb, List, [], ◌∷◌, ◌++◌, Option, Some, None, Contains, length, arith, ◌⊎◌, inl, inr, subst, sym, refl, ap, ◌∙◌, if◌then◌else◌, unwrap_or, eqb-true, eqb-false, Contains-append_left, PortRef, is_switch, next_port, select-written, Kind, Endpoint, Switch, Device, Topology, entered, AllRegisters, paths_of, toward, further_from_toward, paths_of-push, Write, after_access, answered, registers_with, with_entry, id_after, met_as, split-onward, opened-onward, with_device-at, next-with_entry, entry_sends, opened-entry, sends_is_switch, enters_before, PendingWrite, Tried, Stage, Information, Status, Walker, write, entry_set, route_of, route_pending, routes_to, home_set, numbered, switch_set_up, outward}
use Rattle.contest_machine.proofs.Numbering.OnWay.{one_performed, performed}
use Rattle.contest_machine.proofs.Numbering.Along.{IsHere}
use Rattle.contest_machine.proofs.Numbering.Joining.{at-home}
use Rattle.contest_machine.proofs.Numbering.Leading.{performed-append}
use Rattle.contest_machine.proofs.Numbering.Settling.{performed-one, after-entry, entry_after}
use Rattle.contest_machine.proofs.Asking.Answering.{PassesOthers}
use Rattle.contest_machine.proofs.Asking.Guided.{IsBehindHost, AreBehindHost}
use Rattle.contest_machine.proofs.Asking.OpenWays.{IsWay, AreOpen, way-single, way-front, way-more, way-sends, open-append, open-more, at_one, one_sends}
use Rattle.contest_machine.proofs.Asking.Opened.{IsOpening, AreNested, top_here, gone_opening}

-- ---- an endpoint is taken in

-- the entries of another ID leave the way open on which they are set
module _ (view : Topology) (devices : List Device) (id given : ℕ) (path : List ℕ)
    (not_all : 255 ≢ given) (not_host : id ≢ given) (few : given < 256) (end : PortRef)
    (leads : entered view path ≡ Some end) where
  abbrev Both : AllRegisters → List PendingWrite → Type 0
  Both now todo = AreOpen view devices id now todo
      × IsWay view devices id (performed view now todo) path

  one_route : (first : ℕ) (front : List ℕ) (port : ℕ) (later : List ℕ) (now : AllRegisters)
      → path ≡ first ∷ front ++ port ∷ later → IsWay view devices id now path
      → Both now (entry_set (first ∷ front) given port)
  one_route first front port later now is way = (writes, opened)
    where
      here : List ℕ
      here = first ∷ front

      way_here : IsWay view devices id now (first ∷ front)
      way_here =
          way-front view id devices now (first ∷ front) (port ∷ later)
          (subst (IsWay view devices id now) is way)

      there : (at : PortRef) × (entered view (first ∷ front) ≡ Some at)
      there =
          enters_before view (first ∷ front) (port ∷ later) end
          (ap (λ l. entered view l) (sym is) ∙ leads)

      is_one : is_switch (now there.0.node) ≡ true
      is_one =
          sends_is_switch (now there.0.node) 255 port
          (way.opened.onwards first front later port there.0 is there.1)

      new_is : (node : ℕ) → performed view now (entry_set (first ∷ front) given port) node
          ≡ registers_with now there.0.node (with_entry (now there.0.node) given (port % 0x100))
          node
      new_is node =
          performed-one view (first ∷ front) there.0 (entry_set (first ∷ front) given port) now
          there.1 (refl, (refl, tt)) node
          ∙ ap (λ d. registers_with now there.0.node d node)
          (entry_after (now there.0.node) there.0.port (first ∷ front) given port is_one few)

      opened : IsWay view devices id
          (performed view now (entry_set (first ∷ front) given port)) path
      opened = record {
        opened = opened-entry view now (performed view now (entry_set (first ∷ front) given port))
            id there.0.node given (port % 0x100) path way.opened new_is not_all not_host;
        passes = way.passes;
      }

      -- the selection changes no entry
      selected : IsWay view devices id (after_access now there.0 (Write 0x70 given))
          (first ∷ front)
      selected =
          let written = ap (λ o. unwrap_or o (now there.0.node))
          (select-written (now there.0.node) given is_one) in
          way-sends view id devices now (after_access now there.0 (Write 0x70 given))
          (first ∷ front)
          (one_sends view id now there.0.node
          (answered (now there.0.node) there.0.port (Write 0x70 given)).device
          (ap (λ d. next_port d 255) written) (ap (λ d. next_port d id) written)) way_here

      writes : AreOpen view devices id now (entry_set (first ∷ front) given port)
      writes = (
        way_here,
        (
          subst (λ o. IsWay view devices id (one_performed now (write (first ∷ front) 0x70 given) o)
              (first ∷ front)) (sym there.1) selected,
          tt,
        ),
      )

  routed : (all : List Device) (now : AllRegisters) → AreBehindHost all
      → IsWay view devices id now path → Both now (routes_to all path given)
  routed [] now some way = (tt, way)
  routed (device ∷ rest) now some way =
      let one = go device.kind some.0 (toward device.path path) refl device.path refl in
      let on = routed rest (performed view now (route_pending path given device)) some.1 one.1 in (
        open-append view id devices now (route_pending path given device)
            (routes_to rest path given)
            one.0 on.0,
        subst (λ r. IsWay view devices id r path)
            (sym (performed-append view now (route_pending path given device)
            (routes_to rest path given))) on.1,
      )
    where
      go : (kind : Kind) → IsBehindHost device.path kind → (o : Option ℕ)
          → toward device.path path ≡ o → (p : List ℕ) → device.path ≡ p
          → Both now (route_of device.path given kind o)
      go (Endpoint other) behind o goes p is = (tt, way)
      go (Switch ports entry) behind None goes p is = (tt, way)
      go (Switch ports entry) behind (Some port) goes [] is = absurd (behind is)
      go (Switch ports entry) behind (Some port) goes (first ∷ front) is =
          let more = further_from_toward device.path path port goes in
          subst (λ l. Both now (entry_set l given port)) (sym is)
          (one_route first front port more.0 now (more.1 ∙ ap (λ l. l ++ port ∷ more.0) is) way)

-- more devices are in the list
listed_more : (devices : List Device) (kind : Kind) (path one : List ℕ)
    → Contains (paths_of devices) one
    → Contains (paths_of (devices ++ met_as devices kind path ∷ [])) one
listed_more devices kind path one found =
    subst (λ l. Contains l one) (sym (paths_of-push devices (met_as devices kind path)))
    (Contains-append_left (paths_of devices) (path ∷ []) one found)

other_id : (id next : ℕ) → id ≢ id_after id next
other_id id next = go (eqb next id) refl
  where
    go : (b : Bool) → eqb next id ≡ b → id ≢ (if b then next + 1 else next)
    go true is same = let one = eqb-true next id is in omega (arith, one, same)
    go false is same = eqb-false next id is (sym same)

few_given : (id next : ℕ) → next ≤ 65 → id_after id next < 255
few_given id next few = go (eqb next id)
  where
    go : (b : Bool) → (if b then next + 1 else next) < 255
    go true = omega (arith, few)
    go false = omega (arith, few)

module _ (w : Walker) (now : AllRegisters) where
  -- the host is taken in
  pub host_opening : (stage : Stage)
      → IsOpening (numbered (record w { todo = []; path = []; stage = stage }) []) now
  host_opening stage = record { writes = tt; stands = way-single w.view w.id _ now 0 }

  abbrev given : ℕ
  given = id_after w.id w.next

  -- the ID is written to the endpoint
  abbrev numbers : List ℕ → PendingWrite
  numbers path = write path 0x60 (given * 0x10000)

  abbrev with_endpoint : List ℕ → List Device
  with_endpoint path = w.devices ++ met_as w.devices (Endpoint given) path ∷ []

  -- all that is written for it
  abbrev given_writes : List ℕ → List PendingWrite
  given_writes path = numbers path ∷ routes_to w.devices path given

  abbrev with_switch : ℕ → ℕ → List Device
  with_switch ports entry = w.devices ++ met_as w.devices (Switch ports entry) w.path ∷ []

  abbrev sent_out : Tried → AllRegisters
  sent_out top = performed w.view now (entry_set top.path 255 top.port)

  pub endpoint_opening : (x : ℕ) (path : List ℕ) (stage : Stage) (at : PortRef)
      → entered w.view (x ∷ path) ≡ Some at → PassesOthers w.view (x ∷ path) at.node
      → AreBehindHost w.devices → AreNested w.tried → IsHere (x ∷ path) w.tried → w.next ≤ 65
      → IsWay w.view w.devices w.id now (x ∷ path)
      → IsOpening (numbered (record w { todo = []; path = x ∷ path; stage = stage }) (x ∷ path)) now
  endpoint_opening x path stage at leads others behind chain here few way =
      gone_opening (record w {
        devices = with_endpoint (x ∷ path);
        next = given + 1;
        path = x ∷ path;
        todo = given_writes (x ∷ path);
        stage = stage;
      }) now w.tried chain
      (open-more w.view w.id w.devices (with_endpoint (x ∷ path)) now (given_writes (x ∷ path)) on
      (open-append w.view w.id w.devices now (numbers (x ∷ path) ∷ [])
      (routes_to w.devices (x ∷ path) given) first.0 then.0))
      (top_here w.view (with_endpoint (x ∷ path)) w.id
      (performed w.view now (given_writes (x ∷ path))) (x ∷ path) w.tried here
      (way-more w.view w.id w.devices (with_endpoint (x ∷ path))
      (performed w.view now (given_writes (x ∷ path))) (x ∷ path) on then.1))
    where
      on : (p : List ℕ) → Contains (paths_of w.devices) p
          → Contains (paths_of (with_endpoint (x ∷ path))) p
      on p found = listed_more w.devices (Endpoint given) (x ∷ path) p found

      first : AreOpen w.view w.devices w.id now (numbers (x ∷ path) ∷ [])
          × IsWay w.view w.devices w.id (performed w.view now (numbers (x ∷ path) ∷ [])) (x ∷ path)
      first =
          at_one w.view w.id w.devices (x ∷ path) at (numbers (x ∷ path) ∷ []) now leads (refl, tt)
          others way

      then : AreOpen w.view w.devices w.id (performed w.view now (numbers (x ∷ path) ∷ []))
          (routes_to w.devices (x ∷ path) given)
          × IsWay w.view w.devices w.id
          (performed w.view now (given_writes (x ∷ path))) (x ∷ path)
      then =
          let small = few_given w.id w.next few in
          routed w.view w.devices w.id given (x ∷ path) (λ same. omega (arith, same, small))
          (other_id w.id w.next) (omega (arith, small)) at leads w.devices
          (performed w.view now (numbers (x ∷ path) ∷ [])) behind first.1

  -- a switch is set up
  pub switch_opening : (ports entry : ℕ) (at : PortRef) → entered w.view w.path ≡ Some at
      → PassesOthers w.view w.path at.node → IsWay w.view w.devices w.id now w.path
      → IsOpening (switch_set_up (record w { todo = []; stage = Information }) ports entry) now
  switch_opening ports entry at leads others way =
      let done = at_one w.view w.id w.devices w.path at (home_set w.path w.id entry) now leads
      (at-home w.path w.id entry) others way in
      record {
        writes = open-more w.view w.id w.devices (with_switch ports entry) now
            (home_set w.path w.id entry) on done.0;
        stands = way-more w.view w.id w.devices (with_switch ports entry)
            (performed w.view now (home_set w.path w.id entry)) w.path on done.1;
      }
    where
      on : (p : List ℕ) → Contains (paths_of w.devices) p
          → Contains (paths_of (with_switch ports entry)) p
      on p found = listed_more w.devices (Switch ports entry) w.path p found

  -- the way to the device behind a port is opened
  pub outward_opening : (top : Tried) (rest : List Tried) (at : PortRef)
      → entered w.view top.path ≡ Some at → PassesOthers w.view top.path at.node
      → at.node ≢ w.view.host → Contains (paths_of w.devices) top.path
      → is_switch (now at.node) ≡ true → (now at.node).ports ≤ 16
      → length (now at.node).routes ≡ 1024 → top.port < (now at.node).ports → w.id < 255
      → next_port (now at.node) w.id ≡ Some at.port
      → IsWay w.view w.devices w.id now top.path
      → IsOpening (outward (record w { todo = []; stage = Status; tried = top ∷ rest })
      (top ∷ rest)) now
  outward_opening top rest at leads others other listed is few all below fits home way = record {
    writes = done.0;
    stands = record {
      opened = opened-onward w.view (sent_out top) w.id top.path at top.port done.1.opened leads
          sends_on sends_home other;
      passes = λ first front later port end is ends.
          passes first front later port end ends (split-onward top.path (first ∷ front) later
          top.port port is);
    };
  }
    where
      done : AreOpen w.view w.devices w.id now (entry_set top.path 255 top.port)
          × IsWay w.view w.devices w.id (sent_out top) top.path
      done =
          at_one w.view w.id w.devices top.path at (entry_set top.path 255 top.port) now leads
          (refl, (refl, tt)) others way

      new_at : sent_out top at.node ≡ with_entry (now at.node) 255 top.port
      new_at =
          performed-one w.view top.path at (entry_set top.path 255 top.port) now leads
          (refl, (refl, tt)) at.node
          ∙ (with_device-at now at.node _
          ∙ after-entry (now at.node) at.port top.path 255 top.port is (omega arith)
          (omega (arith, below, few)))

      sends_on : next_port (sent_out top at.node) 255 ≡ Some top.port
      sends_on =
          ap (λ d. next_port d 255) new_at
          ∙ next-with_entry (now at.node) is few all 255 top.port (omega arith) below

      sends_home : next_port (sent_out top at.node) w.id ≡ Some at.port
      sends_home =
          ap (λ d. next_port d w.id) new_at
          ∙ (entry_sends (now at.node) 255 top.port w.id (λ same. omega (arith, same, fits))
          ∙ home)

      passes : (first : ℕ) (front later : List ℕ) (port : ℕ) (end : PortRef)
          → entered w.view (first ∷ front) ≡ Some end
          → ((top.path ≡ first ∷ front) × (port ≡ top.port))
          ⊎ ((inner : List ℕ) × (top.path ≡ (first ∷ front) ++ port ∷ inner))
          → Contains (paths_of w.devices) (first ∷ front)
      passes first front later port end ends (inl last) =
          subst (Contains (paths_of w.devices)) last.0 listed
      passes first front later port end ends (inr inner) =
          way.passes first front inner.0 port end inner.1 ends
