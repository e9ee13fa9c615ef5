-- A walker that gives up opens the way to the last device that it keeps: each write finds its own
-- way open, and then the whole way is.
use Rattle.contest_machine.proofs.Prelude.{◌≡◌, ◌≢◌, ℕ, ◌<◌, ◌≤◌, true, List, [], ◌∷◌, ◌++◌, Option, Some, None, Contains, arith, ◌⊎◌, inl, inr, subst, sym, refl, ap, ◌∙◌, append_assoc, unwrap_or, cases_eq, same_Some, PortRef, Registers, is_switch, next_port, Kind, Endpoint, Switch, Device, Topology, IsTopology, entered, Before, AllRegisters, Fits, paths_of, toward, toward-further, further_from_toward, entered-inside, device_on, node_at-entered, Contains-first, Contains-rest, Contains-cases, further-not_less, registers_with, with_entry, with_device-at, with_device-other, next-with_entry, entry_sends, PendingWrite, entry_set, route_of, route_pending, routes_to}
use Rattle.contest_machine.proofs.Numbering.OnWay.{performed}
use Rattle.contest_machine.proofs.Numbering.Leading.{performed-append}
use Rattle.contest_machine.proofs.Numbering.Settling.{performed-one, after-entry}
use Rattle.contest_machine.proofs.Asking.Answering.{PassesOthers, not_longer}
use Rattle.contest_machine.proofs.Asking.Guided.{IsBehindHost, AreBehindHost}
use Rattle.contest_machine.proofs.Asking.OpenWays.{IsWay, AreOpen, open-append, at_one, performed_fits}
use Rattle.contest_machine.proofs.Asking.Trees.{AreLater, AreHome, IsSwitchAt, IsTree, tree_others}

module _ (view : Topology) (proper : IsTopology view) (id : ℕ) (fits : id < 255)
    (devices : List Device) (tree : IsTree view devices) (path : List ℕ)
    (listed : Contains (paths_of devices) path) where
  -- the switches of the way, other than those of a list, send 255 on along it
  abbrev AreSet : AllRegisters → List Device → Type 0
  AreSet now rest = (first : ℕ) (front later : List ℕ) (port : ℕ) (end : PortRef)
      → path ≡ first ∷ front ++ port ∷ later → entered view (first ∷ front) ≡ Some end
      → ¬ Contains (paths_of rest) (first ∷ front) → next_port (now end.node) 255 ≡ Some port

  record Stands (now : AllRegisters) (rest : List Device) : Type 0 where
    shown : Fits view now
    home : AreHome view devices id now
    base : (now view.host).base_id ≡ id
    set : AreSet now rest

  -- a device that the way does not pass, or passes as the host
  skipped : (now : AllRegisters) (device : Device) (rest : List Device)
      → ((port : ℕ) (later : List ℕ) → path ≡ device.path ++ port ∷ later → device.path ≡ [])
      → Stands now (device ∷ rest) → Stands now rest
  skipped now device rest none stands = record {
    shown = stands.shown;
    home = stands.home;
    base = stands.base;
    set = λ first front later port end is enters beside.
        stands.set first front later port end is enters
        (λ found. at first front later port is beside
        (Contains-cases device.path (paths_of rest) (first ∷ front) found));
  }
    where
      at : (first : ℕ) (front later : List ℕ) (port : ℕ) → path ≡ first ∷ front ++ port ∷ later
          → ¬ Contains (paths_of rest) (first ∷ front)
          → (device.path ≡ first ∷ front) ⊎ Contains (paths_of rest) (first ∷ front) → ⊥
      at first front later port is beside (inr more) = beside more
      at first front later port is beside (inl same) =
          let empty = none port later (is ∙ ap (λ l. l ++ port ∷ later) (sym same)) in
          let clash : [] ≡ first ∷ front = sym empty ∙ same in
          absurd (cc)

  -- the switch at the end of a front of the way
  module _ (now : AllRegisters) (device : Device) (rest : List Device) (first : ℕ) (front : List ℕ)
      (port : ℕ) (later : List ℕ) (in_list : Contains devices device)
      (path_is : device.path ≡ first ∷ front) (goes : path ≡ (first ∷ front) ++ port ∷ later)
      (behind : (other : List ℕ) → Contains (paths_of rest) other → Before device.path other)
      (stands : Stands now (device ∷ rest)) where
    abbrev here : List ℕ
    here = first ∷ front

    further : Contains (paths_of devices) (here ++ port ∷ later)
    further = subst (Contains (paths_of devices)) goes listed

    here_listed : Contains (paths_of devices) here
    here_listed = tree.fronts here (port ∷ later) further

    abbrev at : PortRef
    at = (tree.leads here here_listed).0

    leads : entered view here ≡ Some at
    leads = (tree.leads here here_listed).1

    switch : IsSwitchAt view device port at
    switch =
        tree.passed device later port at in_list
        (subst (λ l. Contains (paths_of devices) (l ++ port ∷ later)) (sym path_is) further)
        (λ none. let clash : [] ≡ first ∷ front = sym none ∙ path_is in absurd (cc))
        (ap (λ l. entered view l) path_is ∙ leads)

    inside : at.node < view.nodes
    inside = entered-inside view here at proper leads

    is_one : is_switch (now at.node) ≡ true
    is_one = stands.shown.switches at.node switch.ports inside switch.switch

    ports_are : (now at.node).ports ≡ switch.ports
    ports_are = stands.shown.ports at.node inside ∙ ap (λ o. unwrap_or o 1) switch.switch

    few : (now at.node).ports ≤ 16
    few = (stands.shown.devices at.node inside).most_ports

    abbrev todo : List PendingWrite
    todo = entry_set here 255 port

    abbrev new : AllRegisters
    new = performed view now todo

    abbrev held : Registers
    held = with_entry (now at.node) 255 port

    new_is : (node : ℕ) → new node ≡ registers_with now at.node held node
    new_is node =
        performed-one view here at todo now leads (refl, (refl, tt)) node
        ∙ ap (λ d. registers_with now at.node d node)
        (after-entry (now at.node) at.port here 255 port is_one (omega arith)
        (let below = switch.below in omega (arith, below, ports_are, few)))

    new_at : new at.node ≡ held
    new_at = new_is at.node ∙ with_device-at now at.node held

    new_other : (node : ℕ) → node ≢ at.node → new node ≡ now node
    new_other node apart = new_is node ∙ with_device-other now at.node node held apart

    -- what an entry of 255 does not change
    keeps : {X : Type 0} (of : Registers → X)
        → ((d : Registers) → of (with_entry d 255 port) ≡ of d) → (node : ℕ)
        → of (new node) ≡ of (now node)
    keeps of same node = go (cases_eq node at.node)
      where
        go : (node ≡ at.node) ⊎ (node ≢ at.node) → of (new node) ≡ of (now node)
        go (inl is) =
            ap (λ n. of (new n)) is
            ∙ (ap of new_at ∙ (same (now at.node) ∙ ap (λ n. of (now n)) (sym is)))
        go (inr apart) = ap of (new_other node apart)

    home_stays : (node : ℕ) → next_port (new node) id ≡ next_port (now node) id
    home_stays node =
        keeps (λ d. next_port d id)
        (λ d. entry_sends d 255 port id (λ same. omega (arith, same, fits))) node

    others : PassesOthers view here at.node
    others = tree_others view devices here at tree here_listed leads

    way_here : IsWay view devices id now here
    way_here = record {
      opened = record {
        onwards = λ one before after by end is enters.
            stands.set one before (after ++ port ∷ later) by end (whole one before after by is)
            enters (fresh one before after by is);
        home = λ one before after by end is enters.
            stands.home (one ∷ before) after by end (there one before after by is)
            (λ none. cc) enters;
        not_host = λ one before after by end is enters. elsewhere one before after by end is enters;
      };
      passes = λ one before after by end is enters.
          tree.fronts (one ∷ before) (by ∷ after) (there one before after by is);
    }
      where
        there : (one : ℕ) (before after : List ℕ) (by : ℕ) → here ≡ one ∷ before ++ by ∷ after
            → Contains (paths_of devices) ((one ∷ before) ++ by ∷ after)
        there one before after by is = subst (Contains (paths_of devices)) is here_listed

        whole : (one : ℕ) (before after : List ℕ) (by : ℕ) → here ≡ one ∷ before ++ by ∷ after
            → path ≡ one ∷ before ++ by ∷ (after ++ port ∷ later)
        whole one before after by is =
            goes ∙ (ap (λ l. l ++ port ∷ later) is
            ∙ ap (λ l. one ∷ l) (append_assoc before (by ∷ after) (port ∷ later)))

        -- a front of it stands before it
        fresh : (one : ℕ) (before after : List ℕ) (by : ℕ) → here ≡ one ∷ before ++ by ∷ after
            → ¬ Contains (paths_of (device ∷ rest)) (one ∷ before)
        fresh one before after by is found =
            go (Contains-cases device.path (paths_of rest) (one ∷ before) found)
          where
            go : (device.path ≡ one ∷ before) ⊎ Contains (paths_of rest) (one ∷ before) → ⊥
            go (inl same) = not_longer (one ∷ before) by after (sym is ∙ (sym path_is ∙ same))
            go (inr more) =
                further-not_less (one ∷ before) (by ∷ after)
                (subst (λ l. Before l (one ∷ before)) (path_is ∙ is) (behind (one ∷ before) more))

        elsewhere : (one : ℕ) (before after : List ℕ) (by : ℕ) (end : PortRef)
            → here ≡ one ∷ before ++ by ∷ after → entered view (one ∷ before) ≡ Some end
            → end.node ≢ view.host
        elsewhere one before after by end is enters =
            let found = device_on devices (one ∷ before)
            (tree.fronts (one ∷ before) (by ∷ after) (there one before after by is)) in
            (tree.passed found.0 after by end found.1
            (subst (λ l. Contains (paths_of devices) (l ++ by ∷ after)) (sym found.2)
            (there one before after by is))
            (λ none. let clash : [] ≡ one ∷ before = sym none ∙ found.2 in absurd (cc))
            (ap (λ l. entered view l) found.2 ∙ enters)).other

    -- both writes find the way open, and then the switch sends on
    set_here : AreOpen view devices id now todo × Stands new rest
    set_here = (
      (at_one view id devices here at todo now leads (refl, (refl, tt)) others way_here).0,
      record {
        shown = performed_fits view now todo stands.shown;
        home = λ one more by end is some enters.
            home_stays end.node ∙ stands.home one more by end is some enters;
        base = keeps (λ (d : Registers). d.base_id) (λ d. refl) view.host ∙ stands.base;
        set = λ one before after by end is enters beside.
            sent one before after by end is enters beside (cases_eq end.node at.node);
      },
    )
      where
        sent : (one : ℕ) (before after : List ℕ) (by : ℕ) (end : PortRef)
            → path ≡ one ∷ before ++ by ∷ after → entered view (one ∷ before) ≡ Some end
            → ¬ Contains (paths_of rest) (one ∷ before)
            → (end.node ≡ at.node) ⊎ (end.node ≢ at.node)
            → next_port (new end.node) 255 ≡ Some by
        sent one before after by end is enters beside (inl same) =
            let shorter = tree.fronts (one ∷ before) (by ∷ after)
            (subst (Contains (paths_of devices)) is listed) in
            let equal : here ≡ one ∷ before =
            tree.once here (one ∷ before) here_listed shorter
            (node_at-entered view here at leads
            ∙ (ap (λ n. Some n) (sym same)
            ∙ sym (node_at-entered view (one ∷ before) end enters))) in
            let port_is : port ≡ by =
            same_Some port by (sym (toward-further here port later)
            ∙ (ap (λ l. toward here l) (sym goes ∙ is)
            ∙ (ap (λ l. toward l ((one ∷ before) ++ by ∷ after)) equal
            ∙ toward-further (one ∷ before) by after))) in
            ap (λ n. next_port (new n) 255) same
            ∙ (ap (λ d. next_port d 255) new_at
            ∙ (next-with_entry (now at.node) is_one few
            (stands.shown.devices at.node inside).destinations 255 port (omega arith)
            (let below = switch.below in omega (arith, below, ports_are))
            ∙ ap (λ n. Some n) port_is))
        sent one before after by end is enters beside (inr apart) =
            ap (λ d. next_port d 255) (new_other end.node apart)
            ∙ stands.set one before after by end is enters
            (λ found. go (Contains-cases device.path (paths_of rest) (one ∷ before) found))
          where
            go : (device.path ≡ one ∷ before) ⊎ Contains (paths_of rest) (one ∷ before) → ⊥
            go (inl same) =
                apart (ap (λ (p : PortRef). p.node)
                (same_Some end at (sym enters
                ∙ (ap (λ l. entered view l) (sym same ∙ path_is) ∙ leads))))
            go (inr more) = beside more

  -- what is set at one device
  one_device : (device : Device) (rest : List Device) (now : AllRegisters)
      → Contains devices device → IsBehindHost device.path device.kind
      → ((other : List ℕ) → Contains (paths_of rest) other → Before device.path other)
      → Stands now (device ∷ rest)
      → AreOpen view devices id now (route_pending path 255 device)
      × Stands (performed view now (route_pending path 255 device)) rest
  one_device device rest now in_list some behind stands =
      go device.kind refl some (toward device.path path) refl
    where
      here : (p : List ℕ) → device.path ≡ p → p ≢ [] → (port : ℕ)
          → toward device.path path ≡ Some port
          → AreOpen view devices id now (entry_set device.path 255 port)
          × Stands (performed view now (entry_set device.path 255 port)) rest
      here [] is some port goes = absurd (some refl)
      here (first ∷ front) is some port goes =
          let more = further_from_toward device.path path port goes in
          subst (λ l. AreOpen view devices id now (entry_set l 255 port)
          × Stands (performed view now (entry_set l 255 port)) rest) (sym is)
          (set_here now device rest first front port more.0 in_list is
          (more.1 ∙ ap (λ l. l ++ port ∷ more.0) is) behind stands)

      not_some : (port : ℕ) → toward device.path path ≡ None → toward device.path path ≡ Some port
          → ⊥
      not_some port none some = absurd (let e : None ≡ Some port = sym none ∙ some in cc)

      endpoint : (given : ℕ) → device.kind ≡ Endpoint given → (port : ℕ) (later : List ℕ)
          → path ≡ device.path ++ port ∷ later → (p : List ℕ) → device.path ≡ p
          → device.path ≡ []
      endpoint given is port later whole [] empty = empty
      endpoint given is port later whole (x ∷ p) same =
          let more = subst (Contains (paths_of devices)) whole listed in
          let there = tree.leads device.path (tree.fronts device.path (port ∷ later) more) in
          let kind = (tree.passed device later port there.0 in_list more
          (λ none. let clash : [] ≡ x ∷ p = sym none ∙ same in absurd (cc)) there.1).kind in
          absurd (let clash = sym is ∙ kind in cc)

      go : (kind : Kind) → device.kind ≡ kind → IsBehindHost device.path kind → (o : Option ℕ)
          → toward device.path path ≡ o
          → AreOpen view devices id now (route_of device.path 255 kind o)
          × Stands (performed view now (route_of device.path 255 kind o)) rest
      go (Endpoint given) is some o goes = (
        tt,
        skipped now device rest
            (λ port later whole. endpoint given is port later whole device.path refl) stands,
      )
      go (Switch ports entry) is some None none = (
        tt,
        skipped now device rest
            (λ port later whole. absurd (not_some port none
            (ap (λ l. toward device.path l) whole ∙ toward-further device.path port later))) stands,
      )
      go (Switch ports entry) is some (Some port) goes = here device.path refl some port goes

  chain : (rest : List Device) (now : AllRegisters)
      → ((device : Device) → Contains rest device → Contains devices device)
      → AreBehindHost rest → AreLater (paths_of rest) → Stands now rest
      → AreOpen view devices id now (routes_to rest path 255)
      × Stands (performed view now (routes_to rest path 255)) []
  chain [] now of_list some later stands = (tt, stands)
  chain (device ∷ rest) now of_list some later stands =
      let one = one_device device rest now (of_list device (Contains-first device rest)) some.0
      later.0 stands in
      let on = chain rest (performed view now (route_pending path 255 device))
      (λ other found. of_list other (Contains-rest device rest other found)) some.1 later.1
      one.1 in (
        open-append view id devices now (route_pending path 255 device) (routes_to rest path 255)
            one.0
            on.0,
        subst (λ r. Stands r [])
            (sym (performed-append view now (route_pending path 255 device)
            (routes_to rest path 255)))
            on.1,
      )

  way_of : (now : AllRegisters) → Stands now [] → IsWay view devices id now path
  way_of now stands = record {
    opened = record {
      onwards = λ first front later port end is enters.
          stands.set first front later port end is enters (λ found. omega (arith, found.1));
      home = λ first front later port end is enters.
          stands.home (first ∷ front) later port end (subst (Contains (paths_of devices)) is listed)
          (λ none. cc) enters;
      not_host = λ first front later port end is enters.
          elsewhere first front later port end is enters;
    };
    passes = λ first front later port end is enters.
        tree.fronts (first ∷ front) (port ∷ later) (subst (Contains (paths_of devices)) is listed);
  }
    where
      elsewhere : (first : ℕ) (front later : List ℕ) (port : ℕ) (end : PortRef)
          → path ≡ first ∷ front ++ port ∷ later → entered view (first ∷ front) ≡ Some end
          → end.node ≢ view.host
      elsewhere first front later port end is enters =
          let more : Contains (paths_of devices) ((first ∷ front) ++ port ∷ later) =
          subst (Contains (paths_of devices)) is listed in
          let found = device_on devices (first ∷ front)
          (tree.fronts (first ∷ front) (port ∷ later) more) in
          (tree.passed found.0 later port end found.1
          (subst (λ l. Contains (paths_of devices) (l ++ port ∷ later)) (sym found.2) more)
          (λ none. let clash : [] ≡ first ∷ front = sym none ∙ found.2 in absurd (cc))
          (ap (λ l. entered view l) found.2 ∙ enters)).other

  -- the writes that open the way to a device that is kept
  pub way_opened : (now : AllRegisters) → AreBehindHost devices → Fits view now
      → AreHome view devices id now → (now view.host).base_id ≡ id
      → AreOpen view devices id now (routes_to devices path 255)
      × AreHome view devices id (performed view now (routes_to devices path 255))
      × ((performed view now (routes_to devices path 255) view.host).base_id ≡ id)
      × IsWay view devices id (performed view now (routes_to devices path 255)) path
  way_opened now behind shown home base =
      let done = chain devices now (λ device found. found) behind tree.later (record {
        shown = shown;
        home = home;
        base = base;
        set = λ first front later port end is enters none.
            absurd (none (tree.fronts (first ∷ front) (port ∷ later)
            (subst (Contains (paths_of devices)) is listed)));
      }) in (
        done.0,
        done.1.home,
        done.1.base,
        way_of (performed view now (routes_to devices path 255)) done.1,
      )
