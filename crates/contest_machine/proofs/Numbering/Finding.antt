-- A walker that sets up a switch, or reads the status of a port, stays along its way.
use Rattle.contest_machine.proofs.Prelude.{◌≡◌, ◌≢◌, ℕ, ◌+◌, ◌*◌, ◌/◌, ◌%◌, ◌≤◌, ◌<◌, ◌==◌, List, [], ◌∷◌, ◌++◌, Option, Some, None, is_some, Contains, arith, ◌⊎◌, inl, inr, subst, sym, refl, ap, ◌∙◌, if◌then◌else◌, unwrap_or, cases_eq, same_Some, Contains-append_left, Contains-append_right, PortRef, port_at, Registers, port_information-read, status-read, Switch, Device, IsTopology, entered, node_at, onward, AllRegisters, Fits, paths_of, entered-inside, entered-port, device_on, paths_of-push, node_at-entered, Contains-first, Read, answered, registers_with, with_device-at, with_device-other, with_entry, met_as, underway-255, Tried, Information, Status, Walker, entry_set, gone_on, switch_set_up, outward}
use Rattle.host_enumerate.specs.Asking.{Becomes}
use Rattle.contest_machine.proofs.Keeping.Stepped.{at_stage}
use Rattle.contest_machine.proofs.Numbering.OnWay.{performed}
use Rattle.contest_machine.proofs.Numbering.Settling.{performed-one, after-entry}
use Rattle.contest_machine.proofs.Numbering.Joining.{set_up_way}
use Rattle.contest_machine.proofs.Numbering.Chained.{IsBehind, unlinked_past}
use Rattle.contest_machine.proofs.Numbering.Along.{IsHere, IsAlong, front_of, port_of, here_is, gone_along}
use Rattle.contest_machine.proofs.Numbering.Moving.{chain_more, front_listed}

-- ---- a switch is set up

module _ (w : Walker) (now : AllRegisters) (at : PortRef) (ports : ℕ)
    (enters : entered w.view w.path ≡ Some at)
    (along : IsAlong (at_stage w Information) now) (fits : Fits w.view now)
    (switch : w.view.switch_ports at.node ≡ Some ports) where
  abbrev value : ℕ
  value = (answered (now at.node) at.port (Read 0x14)).answer.value

  proper : IsTopology w.view
  proper = along.way.underway.proper

  inside : at.node < w.view.nodes
  inside = entered-inside w.view w.path at proper enters

  ports_are : (now at.node).ports ≡ ports
  ports_are = fits.ports at.node inside ∙ ap (λ o. unwrap_or o 1) switch

  few : ports ≤ 16
  few = subst (λ o. unwrap_or o 1 ≤ 16) switch (proper.most_ports at.node)

  small : at.port < 16
  small =
      let port = (entered-port w.view w.path at proper enters).port in
      let most = proper.most_ports at.node in
      omega (arith, port, most)

  told : value ≡ ports * 0x100 + at.port
  told = ap (λ o. unwrap_or o 0)
      (port_information-read (now at.node) at.port (fits.switches at.node ports inside switch))
      ∙ ap (λ n. n * 0x100 + at.port) ports_are

  ports_told : value / 0x100 % 0x100 ≡ ports
  ports_told = omega (arith, told, few, small)

  entry_told : value % 0x100 ≡ at.port
  entry_told = omega (arith, told, few, small)

  not_host : at.node ≢ w.view.host
  not_host same =
      along.way.new at.node (node_at-entered w.view w.path at enters) along.host.0 along.host.1
      (along.host.2 ∙ ap (λ n. Some n) (sym same))

  behind_top : (tried : List Tried) (top : Tried) → top.path ≡ w.path → IsHere w.path tried
      → IsBehind top tried
  behind_top [] top same here = same ∙ here
  behind_top (second ∷ rest) top same here = same ∙ here

  abbrev more : List Device
  more = w.devices ++ met_as w.devices (Switch ports at.port) w.path ∷ []

  is_listed : Contains (paths_of more) w.path
  is_listed = subst (λ l. Contains l w.path)
      (sym (paths_of-push w.devices (met_as w.devices (Switch ports at.port) w.path)))
      (Contains-append_right (paths_of w.devices) (w.path ∷ []) w.path (Contains-first w.path []))

  abbrev top : Tried
  top = record {
    path = w.path;
    ports = ports;
    entry = at.port;
    port = (if at.port == 0 then 1 else 0);
  }

  set_up_along : IsAlong (switch_set_up (at_stage w Information) ports at.port) now
  set_up_along = record {
    way = set_up_way w now at ports along.way fits along.way.underway.host_has_id enters switch
        (inr (
          front_of w.tried,
          port_of w.tried,
          front_listed w.view w.devices w.path w.tried along.chained along.way.underway.walked
              along.here,
          here_is w.path w.tried along.here,
        ))
        (front_of w.tried) (port_of w.tried) (here_is w.path w.tried along.here);
    host = (
      along.host.0,
      Contains-append_left w.devices (met_as w.devices (Switch ports at.port) w.path ∷ [])
          along.host.0 along.host.1,
      along.host.2,
    );
    chained = (
      record {
        at = at;
        leads = enters;
        switch = switch;
        entry = refl;
        other = not_host;
        listed = is_listed;
        front = front_of w.tried;
        by = port_of w.tried;
        whole = here_is w.path w.tried along.here;
      },
      behind_top w.tried top refl along.here,
      chain_more w.view w.devices more w.tried
          (λ path listed. subst (λ l. Contains l path)
          (sym (paths_of-push w.devices (met_as w.devices (Switch ports at.port) w.path)))
          (Contains-append_left (paths_of w.devices) (w.path ∷ []) path listed))
          along.chained,
    );
    here = λ e. cc;
  }

  -- by what the device tells
  pub told_along : IsAlong (switch_set_up (at_stage w Information) (value / 0x100 % 0x100)
      (value % 0x100)) now
  told_along =
      subst (λ n. IsAlong (switch_set_up (at_stage w Information) n (value % 0x100)) now)
      (sym ports_told)
      (subst (λ n. IsAlong (switch_set_up (at_stage w Information) ports n) now) (sym entry_told)
      set_up_along)

-- ---- the status of a port

module _ (w : Walker) (now : AllRegisters) (top : Tried) (rest : List Tried) (at : PortRef)
    (enters : entered w.view top.path ≡ Some at)
    (along : IsAlong (record w { todo = []; stage = Status; tried = top ∷ rest }) now)
    (fits : Fits w.view now) where
  abbrev status : ℕ
  status = (answered (now at.node) at.port (Read (0x158 + 0x20 * top.port))).answer.value

  view_proper : IsTopology w.view
  view_proper = along.way.underway.proper

  there : at.node < w.view.nodes
  there = entered-inside w.view top.path at view_proper enters

  same_at : along.chained.0.at ≡ at
  same_at = same_Some along.chained.0.at at (sym along.chained.0.leads ∙ enters)

  is_ports : w.view.switch_ports at.node ≡ Some top.ports
  is_ports = subst (λ (p : PortRef). w.view.switch_ports p.node ≡ Some top.ports) same_at
      along.chained.0.switch

  -- a port with a link shows it
  shows_link : (next : PortRef) → w.view.peer (port_at at.node top.port) ≡ Some next → status ≡ 2
  shows_link next link =
      let port = (view_proper.ports (port_at at.node top.port) next link).port in
      let below : top.port < (now at.node).ports =
      subst (λ n. top.port < n) (sym (fits.ports at.node there)) port in
      ap (λ o. unwrap_or o 0)
      (status-read (now at.node) top.port at.port below)
      ∙ ap (λ n. if n == 1 then 2 else 1)
      (fits.linked at.node top.port there port ∙ ap (λ o. if is_some o then 1 else 0) link)

  no_link : status ≢ 2 → (on : PortRef) → entered w.view top.path ≡ Some on
      → w.view.peer (port_at on.node top.port) ≡ None
  no_link other on leads = go (w.view.peer (port_at on.node top.port)) refl
    where
      same : on ≡ at
      same = same_Some on at (sym leads ∙ enters)

      go : (o : Option PortRef) → w.view.peer (port_at on.node top.port) ≡ o
          → w.view.peer (port_at on.node top.port) ≡ None
      go None none = none
      go (Some next) link =
          absurd (other (shows_link next
          (ap (λ (p : PortRef). w.view.peer (port_at p.node top.port)) (sym same) ∙ link)))

  pub unlinked_along : status ≢ 2
      → IsAlong (gone_on (record w { todo = []; stage = Status; tried = top ∷ rest })
      (top ∷ rest)) now
  unlinked_along other =
      gone_along (record w { todo = []; stage = Status; tried = top ∷ rest }) along.way.before
      along.way.seen now along.host (λ node. along.way.seen_is node (λ a. a)) (top ∷ rest)
      along.chained
      (unlinked_past w.view along.way.before along.way.seen w.id w.next w.devices top rest
      along.chained.0 along.way.underway (no_link other))

  -- the way to the device behind it is set
  member : (device : Device) × Contains w.devices device × (device.path ≡ top.path)
  member = device_on w.devices top.path along.chained.0.listed

  few_ports : top.port < 256 → Becomes along.way.seen
      (performed w.view now (entry_set top.path 255 top.port)) at.node
      (with_entry (along.way.seen at.node) 255 top.port)
  few_ports small node =
      performed-one w.view top.path at (entry_set top.path 255 top.port) now enters
      (refl, (refl, tt)) node
      ∙ (ap (λ d. registers_with now at.node d node)
      (after-entry (now at.node) at.port top.path 255 top.port
      (fits.switches at.node top.ports there is_ports) (omega arith) small
      ∙ ap (λ d. with_entry d 255 top.port) (sym (along.way.seen_is at.node (λ a. a))))
      ∙ go (cases_eq node at.node))
    where
      d : Registers
      d = with_entry (along.way.seen at.node) 255 top.port

      go : (node ≡ at.node) ⊎ (node ≢ at.node)
          → registers_with now at.node (with_entry (along.way.seen at.node) 255 top.port) node
          ≡ registers_with along.way.seen at.node (with_entry (along.way.seen at.node) 255 top.port)
          node
      go (inl same) =
          ap (λ n. registers_with now at.node (with_entry (along.way.seen at.node) 255 top.port) n)
          same
          ∙ (with_device-at now at.node _ ∙ (sym (with_device-at along.way.seen at.node _)
          ∙ ap (λ n. registers_with along.way.seen at.node
          (with_entry (along.way.seen at.node) 255 top.port) n) (sym same)))
      go (inr apart) =
          with_device-other now at.node node _ apart
          ∙ (sym (along.way.seen_is node (λ a. a))
          ∙ sym (with_device-other along.way.seen at.node node _ apart))

  pub outward_along : top.port < 256
      → IsAlong (outward (record w { todo = []; stage = Status; tried = top ∷ rest })
      (top ∷ rest)) now
  outward_along small = record {
    way = record {
      before = along.way.before;
      seen = performed w.view now (entry_set top.path 255 top.port);
      underway = underway-255 w.view along.way.before along.way.seen w.id w.next w.devices
          (onward top.path top.port) along.way.underway
          (performed w.view now (entry_set top.path 255 top.port)) member.0 at.node top.port
          member.1 (ap (λ l. node_at w.view l) member.2 ∙ node_at-entered w.view top.path at enters)
          (few_ports small);
      seen_is = λ node beside. refl;
      new = λ node none. absurd none;
      hosted = inl along.host;
      fresh = tt;
    };
    host = along.host;
    chained = along.chained;
    here = refl;
  }
