-- What an access leaves of plain registers, and what this is as a fabric.
use Rattle.std.proofs.Common.{◌≡◌, ℕ, ◌/◌, ◌%◌, ◌^◌, ◌<◌, ◌≤◌, ◌⊎◌, inl, inr, Bool, true, false, eqb, List, length, set, get_or, slice_get, slice_set, slice_index_or, Option, Some, option_and_then, if◌then◌else◌, refl, sym, ap, subst, ◌∙◌}
use Rattle.host_enumerate.proofs.Prelude.{length-set, get_or-set_same, get_or-set_other, slice_get-get_or, slice_get_past, slice_get_read, get_or_from_slice_get, cases_lt, eqb-true, eqb-false, fun_ext, PortRef, Registers, IsDevice, IsSameDevice, new_endpoint, same_kind, Topology, IsTopology, AllRegisters, Fits, Access, answered, registers_with, after_access, ports_of_switch, topology_of, registers_of}

-- an access leaves the device what it is
pub record Keeps (before after : Registers) : Type 0 where
  pub same : IsSameDevice before after
  pub device : IsDevice before → IsDevice after
  pub id : before.base_id < 256 → after.base_id < 256
  pub lock : before.lock < 65536 → after.lock < 65536

pub keeps_itself : (device : Registers) → Keeps device device
keeps_itself device = record {
  same = record { kind = refl; ports = refl; linked = refl; large_id = refl; standard = refl };
  device = λ is. is;
  id = λ is. is;
  lock = λ is. is;
}

-- what holds of one device and of any other holds of the device under a number
with_device-keeps : (registers : AllRegisters) (node : ℕ) (device : Registers)
    → Keeps (registers node) device → (other : ℕ)
    → Keeps (registers other) (registers_with registers node device other)
with_device-keeps registers node device keeps other = go (eqb other node) refl
  where
    go : (b : Bool) → eqb other node ≡ b
        → Keeps (registers other) (if b then device else registers other)
    go true is = subst (λ n. Keeps (registers n) device) (sym (eqb-true other node is)) keeps
    go false is = keeps_itself (registers other)

pub fits-with : (topology : Topology) (registers : AllRegisters) (node : ℕ) (device : Registers)
    → Fits topology registers → Keeps (registers node) device
    → Fits topology (registers_with registers node device)
fits-with topology registers node device fits keeps = record {
  devices = λ other inside. (kept other).device (fits.devices other inside);
  ids = λ other inside. (kept other).id (fits.ids other inside);
  large_ids = λ other inside. subst (λ n. n < 65536) (sym (kept other).same.large_id)
      (fits.large_ids other inside);
  locks = λ other inside. (kept other).lock (fits.locks other inside);
  endpoints = λ other inside is. same_kind (registers other) (after other) (kept other).same
      ∙ fits.endpoints other inside is;
  switches = λ other ports inside is. same_kind (registers other) (after other)
      (kept other).same ∙ fits.switches other ports inside is;
  ports = λ other inside. (kept other).same.ports ∙ fits.ports other inside;
  linked = λ other port inside below. ap (λ l. l / 2 ^ port % 2) (kept other).same.linked
      ∙ fits.linked other port inside below;
}
  where
    after : AllRegisters
    after = registers_with registers node device

    kept : (other : ℕ) → Keeps (registers other) (registers_with registers node device other)
    kept = with_device-keeps registers node device keeps

-- the registers with one device set
pub registers_of-set : (devices : List Registers) (node : ℕ) (device : Registers)
    → node < length devices
    → registers_of (slice_set devices node device)
    ≡ registers_with (registers_of devices) node device
registers_of-set devices node device inside = fun_ext (λ other. at other (eqb other node) refl)
  where
    at : (other : ℕ) (b : Bool) → eqb other node ≡ b
        → get_or (set devices node device) other (new_endpoint 0 false)
        ≡ (if b then device else get_or devices other (new_endpoint 0 false))
    at other true is =
        subst (λ n. get_or (set devices node device) n (new_endpoint 0 false) ≡ device)
        (sym (eqb-true other node is))
        (get_or-set_same devices node device (new_endpoint 0 false) inside)
    at other false is =
        get_or-set_other devices node other device (new_endpoint 0 false)
        (eqb-false other node is)

pub ports_of_switch-same : (before after : Registers) → IsSameDevice before after
    → ports_of_switch after ≡ ports_of_switch before
ports_of_switch-same before after same =
    ap (λ k. ports_of_switch (record after { kind = k })) same.kind
    ∙ ap (λ n. ports_of_switch (record before { ports = n })) same.ports

switch_ports-set : (devices : List Registers) (node : ℕ) (device : Registers)
    → node < length devices
    → IsSameDevice (get_or devices node (new_endpoint 0 false)) device → (other : ℕ)
    → option_and_then ports_of_switch (slice_get (set devices node device) other)
    ≡ option_and_then ports_of_switch (slice_get devices other)
switch_ports-set devices node device inside same other = go (cases_lt other (length devices))
  where
    first : Registers
    first = new_endpoint 0 false

    past : length devices ≤ other
        → option_and_then ports_of_switch (slice_get (set devices node device) other)
        ≡ option_and_then ports_of_switch (slice_get devices other)
    past out =
        ap (λ d. option_and_then ports_of_switch d)
        (slice_get_past (set devices node device) other
        (subst (λ n. n ≤ other) (sym (length-set devices node device)) out)
        ∙ sym (slice_get_past devices other out))

    element : (b : Bool) → eqb other node ≡ b
        → ports_of_switch (get_or (set devices node device) other first)
        ≡ ports_of_switch (get_or devices other first)
    element true is =
        subst (λ n. ports_of_switch (get_or (set devices node device) n first)
        ≡ ports_of_switch (get_or devices n first)) (sym (eqb-true other node is))
        (ap ports_of_switch (get_or-set_same devices node device first inside)
        ∙ ports_of_switch-same (get_or devices node first) device same)
    element false is =
        ap ports_of_switch (get_or-set_other devices node other device first
        (eqb-false other node is))

    within : (b : Bool) → eqb other node ≡ b → other < length devices
        → option_and_then ports_of_switch (slice_get (set devices node device) other)
        ≡ option_and_then ports_of_switch (slice_get devices other)
    within b is below =
        ap (λ d. option_and_then ports_of_switch d)
        (slice_get-get_or (set devices node device) other first
        (subst (λ n. other < n) (sym (length-set devices node device)) below))
        ∙ (element b is
        ∙ sym (ap (λ d. option_and_then ports_of_switch d)
        (slice_get-get_or devices other first below)))

    go : (other < length devices) ⊎ (length devices ≤ other)
        → option_and_then ports_of_switch (slice_get (set devices node device) other)
        ≡ option_and_then ports_of_switch (slice_get devices other)
    go (inl below) = within (eqb other node) refl below
    go (inr out) = past out

topology_of-set : (devices : List Registers) (links : List (PortRef × PortRef)) (host node : ℕ)
    (device : Registers)
    → node < length devices → IsSameDevice (registers_of devices node) device
    → topology_of (slice_set devices node device) links host ≡ topology_of devices links host
topology_of-set devices links host node device inside same =
    ap (λ (n : ℕ). of n (λ other.
    option_and_then ports_of_switch (slice_get (set devices node device) other)))
    (length-set devices node device)
    ∙ ap (λ (f : ℕ → Option ℕ). of (length devices) f)
    (fun_ext (switch_ports-set devices node device inside same))
  where
    of : ℕ → (ℕ → Option ℕ) → Topology
    of nodes ports = record (topology_of devices links host) {
      nodes = nodes;
      switch_ports = ports;
    }

-- a device that was read is the one under its number
pub read_is : (devices : List Registers) (node : ℕ) (device : Registers)
    → node < length devices → device ≡ slice_index_or devices node device
    → slice_get devices node ≡ Some device
read_is devices node device inside read =
    slice_get_read devices (length devices) node device refl inside read

pub registers_of-read : (devices : List Registers) (node : ℕ) (device : Registers)
    → node < length devices → device ≡ slice_index_or devices node device
    → registers_of devices node ≡ device
registers_of-read devices node device inside read =
    get_or_from_slice_get devices node device (new_endpoint 0 false)
    (read_is devices node device inside read)

module _ (devices : List Registers) (links : List (PortRef × PortRef)) (host : ℕ)
    (at : PortRef) (access : Access) (before after : Registers) (inside : at.node < length devices)
    (read : before ≡ slice_index_or devices at.node before)
    (becomes : after ≡ (answered before at.port access).device)
    (same : IsSameDevice before after) (device : IsDevice after) (id : after.base_id < 256)
    (lock : after.lock < 65536) where
  becomes_so : after ≡ (answered (registers_of devices at.node) at.port access).device
  becomes_so =
      becomes ∙ ap (λ d. (answered d at.port access).device)
      (sym (registers_of-read devices at.node before inside read))

  keeps : Keeps (registers_of devices at.node) after
  keeps = subst (λ d. Keeps d after) (sym (registers_of-read devices at.node before inside read))
      (record { same = same; device = λ _. device; id = λ _. id; lock = λ _. lock })

  -- the registers after an access
  pub accessed-registers : registers_of (slice_set devices at.node after)
      ≡ after_access (registers_of devices) at access
  accessed-registers =
      registers_of-set devices at.node after inside
      ∙ ap (λ d. registers_with (registers_of devices) at.node d) becomes_so

  -- devices and links stay
  pub accessed-topology : topology_of (slice_set devices at.node after) links host
      ≡ topology_of devices links host
  accessed-topology = topology_of-set devices links host at.node after inside keeps.same

  -- and it is still a fabric that its registers show
  pub accessed-whole : IsTopology (topology_of devices links host)
      × Fits (topology_of devices links host) (registers_of devices)
      → IsTopology (topology_of (slice_set devices at.node after) links host)
      × Fits (topology_of (slice_set devices at.node after) links host)
      (registers_of (slice_set devices at.node after))
  accessed-whole whole =
      subst (λ t. IsTopology t × Fits t (registers_of (slice_set devices at.node after)))
      (sym accessed-topology) (
        whole.0,
        subst (λ r. Fits (topology_of devices links host) r)
            (sym (registers_of-set devices at.node after inside))
            (fits-with (topology_of devices links host) (registers_of devices) at.node after whole.1
            keeps),
      )
