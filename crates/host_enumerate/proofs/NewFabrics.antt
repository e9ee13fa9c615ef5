-- What set-up lines of a script that passes make is a fabric that a host can number.
use Rattle.std.proofs.Common.{◌≡◌, ℕ, zero, suc, ◌<◌, ◌≤◌, Bool, true, false, List, [], ◌∷◌, map, length, slice_get, Option, Some, None, IsSome, option_map, option_and_then, unwrap_or, if◌then◌else◌, arith, ◌⊎◌, inl, inr, refl, sym, ap, subst, ◌∙◌}
use Rattle.host_enumerate.proofs.Prelude.{cases_lt, cases_Bool, length-map, same_Some, slice_get-map, slice_get-get_or, slice_get_past, slice_get_within, Registers, IsDevice, is_switch, new_endpoint, PortRef, Node, Numbered, Known, nothing, node_ports, ports_of, node_is_switch, is_linked, peer_in, ScriptPasses, port_at, peer-linked, Topology, IsTopology, IsPortIn, device_ports, Fits, ports_of_switch, topology_of, registers_of, IsHost, devices_of, links_of}
use Rattle.host_enumerate.specs.Checking.{IsNewFabric}
use Rattle.host_enumerate.proofs.NewDevices.{IsNew}
use Rattle.host_enumerate.proofs.Devised.{IsEnd, count_ports, Stage, stage_after_all, first_stage}

module _ (end : Known) (devices : List Registers) (host : ℕ) (stage : Stage end devices)
    (endpoint : option_map is_switch (slice_get devices host) ≡ Some false)
    (host_has_id : (registers_of devices host).base_id < 255)
    (linked : IsSome (peer_in end.links (port_at host 0))) where
  abbrev topology : Topology
  topology = topology_of devices end.links host

  as_many : length devices ≡ length end.nodes
  as_many = sym (length-map devices is_switch) ∙ (ap length stage.kinds
      ∙ length-map end.nodes (λ node. node_is_switch (Some node)))

  device_at : (node : ℕ) → node < length devices
      → slice_get devices node ≡ Some (registers_of devices node)
  device_at node inside = slice_get-get_or devices node (new_endpoint 0 false) inside

  is_new : (node : ℕ) → node < length devices
      → IsNew (λ p. is_linked end.links p) node (registers_of devices node)
  is_new node inside = stage.are node (registers_of devices node) (device_at node inside)

  kind_at : (node : ℕ) → node < length devices
      → topology.switch_ports node ≡ ports_of_switch (registers_of devices node)
  kind_at node inside = ap (λ d. option_and_then ports_of_switch d) (device_at node inside)

  -- an endpoint has one port
  ports_shown : (device : Registers) → IsDevice device
      → unwrap_or (ports_of_switch device) 1 ≡ device.ports
  ports_shown device is = go (cases_Bool (is_switch device))
    where
      go : (is_switch device ≡ true) ⊎ (is_switch device ≡ false)
          → unwrap_or (ports_of_switch device) 1 ≡ device.ports
      go (inl switch) = rw switch refl
      go (inr other) = rw other (sym (is.endpoint_ports other))

  ports_at : (node : ℕ) → node < length devices
      → (registers_of devices node).ports ≡ device_ports topology node
  ports_at node inside =
      sym (ap (λ o. unwrap_or o 1) (kind_at node inside)
      ∙ ports_shown (registers_of devices node) (is_new node inside).device)

  known_ports : (node : ℕ) → node < length devices
      → (registers_of devices node).ports ≡ ports_of end.nodes node
  known_ports node inside =
      same_Some (registers_of devices node).ports (ports_of end.nodes node)
      (sym (ap (option_map count_ports) (device_at node inside))
      ∙ (sym (slice_get-map count_ports devices node)
      ∙ (ap (λ l. slice_get l node) stage.ports
      ∙ there end.nodes node (subst (λ n. node < n) as_many inside))))
    where
      there : (nodes : List Node) (n : ℕ) → n < length nodes
          → slice_get (map (λ node. node_ports (Some node)) nodes) n ≡ Some (ports_of nodes n)
      there [] n less = absurd (omega (arith, less))
      there (first ∷ nodes) zero less = refl
      there (first ∷ nodes) (suc n) less = there nodes n (omega (arith, less))

  is_port : (p : PortRef) → IsEnd end p → IsPortIn topology p
  is_port p is =
      let inside = subst (λ n. p.node < n) (sym as_many) is.0 in
      record {
        node = inside;
        port = subst (λ n. p.port < n)
            (sym (known_ports p.node inside) ∙ ports_at p.node inside) is.1;
      }

  host_inside : host < length devices
  host_inside = go (slice_get devices host) refl endpoint
    where
      go : (o : Option Registers) → slice_get devices host ≡ o
          → option_map is_switch o ≡ Some false → host < length devices
      go None is none = absurd (cc)
      go (Some device) is same = slice_get_within devices host device is

  host_kind : is_switch (registers_of devices host) ≡ false
  host_kind = same_Some (is_switch (registers_of devices host)) false
      (sym (ap (option_map is_switch) (device_at host host_inside)) ∙ endpoint)

  most : (node : ℕ) → device_ports topology node ≤ 16
  most node = go (cases_lt node (length devices))
    where
      go : (node < length devices) ⊎ (length devices ≤ node) → device_ports topology node ≤ 16
      go (inl within) =
          subst (λ n. n ≤ 16) (ports_at node within) (is_new node within).device.most_ports
      go (inr past) =
          subst (λ n. n ≤ 16)
          (sym (ap (λ d. unwrap_or (option_and_then ports_of_switch d) 1)
          (slice_get_past devices node past)))
          (omega arith)

  proper : IsTopology topology
  proper = record {
    most = let count = stage.count in let few = stage.few in let many = as_many in
        omega (arith, count, few, many);
    host = host_inside;
    host_is_endpoint = kind_at host host_inside ∙ rw host_kind refl;
    host_is_linked = linked;
    most_ports = most;
    ports = λ p q is. is_port p (stage.ends p q is).first;
    both_ways = λ p q is. (stage.ends p q is).back;
    two_ports = λ p is. (stage.ends p p is).apart refl;
  }

  endpoint_of : (device : Registers) → ports_of_switch device ≡ None → is_switch device ≡ false
  endpoint_of device is = go (is_switch device) is
    where
      go : (b : Bool) → (if b then Some device.ports else None) ≡ None → b ≡ false
      go true is = absurd (cc)
      go false is = refl

  switch_of : (device : Registers) (ports : ℕ) → ports_of_switch device ≡ Some ports
      → is_switch device ≡ true
  switch_of device ports is = go (is_switch device) is
    where
      go : (b : Bool) → (if b then Some device.ports else None) ≡ Some ports → b ≡ true
      go true is = refl
      go false is = absurd (cc)

  fits : Fits topology (registers_of devices)
  fits = record {
    devices = λ node within. (is_new node within).device;
    ids = λ node within. (is_new node within).id;
    large_ids = λ node within. (is_new node within).large_id;
    locks = λ node within. (is_new node within).lock;
    endpoints = λ node within is. endpoint_of (registers_of devices node)
        (sym (kind_at node within) ∙ is);
    switches = λ node ports within is. switch_of (registers_of devices node) ports
        (sym (kind_at node within) ∙ is);
    ports = λ node within. ports_at node within;
    linked = λ node port within below.
        (is_new node within).shown port (subst (λ n. port < n) (sym (ports_at node within)) below)
        ∙ ap (λ b. if b then 1 else 0) (sym (peer-linked end.links (port_at node port)));
  }

  new_fabric : IsNewFabric devices end.links host
  new_fabric = record {
    topology = proper;
    fits = fits;
    untagged = λ node within. (is_new node within).tag;
    host_has_id = host_has_id;
  }

-- a script that passes makes a fabric that such a host can number
pub devised_fabric : (names : List (List ℕ)) (lines : List Numbered) (host : ℕ)
    → ScriptPasses names lines → IsHost (devices_of lines) (links_of lines) host
    → IsNewFabric (devices_of lines) (links_of lines) host
devised_fabric names lines host passes is_host =
    let end = stage_after_all nothing names [] lines first_stage passes in
    subst (λ l. IsNewFabric (devices_of lines) l host) end.2
    (new_fabric end.0 (devices_of lines) host end.1 is_host.endpoint is_host.has_id
    (subst (λ l. IsSome (peer_in l (port_at host 0))) (sym end.2) is_host.linked))

-- devices and links that are those of the lines
pub made_fabric : (names : List (List ℕ)) (lines : List Numbered) (devices : List Registers)
    (links : List (PortRef × PortRef)) (host : ℕ) → ScriptPasses names lines
    → IsHost (devices_of lines) (links_of lines) host → devices ≡ devices_of lines
    → links ≡ links_of lines → IsNewFabric devices links host
made_fabric names lines devices links host passes is_host same_devices same_links =
    subst (λ d. IsNewFabric d links host) (sym same_devices)
    (subst (λ l. IsNewFabric (devices_of lines) l host) (sym same_links)
    (devised_fabric names lines host passes is_host))
