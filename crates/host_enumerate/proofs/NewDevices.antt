-- Devices of a fabric that is set up: what they are, and what stays of it when one of them is
-- changed.
use Rattle.host_enumerate.proofs.Prelude.{rules, ◌≡◌, ◌≢◌, ℕ, zero, suc, ◌/◌, ◌%◌, ◌^◌, ◌<◌, ◌≤◌, ◌||◌, Bool, true, false, List, [], ◌∷◌, ◌++◌, map, length, length-set, slice_get, Option, Some, None, option_map, if◌then◌else◌, arith, ◌⊎◌, inl, inr, refl, sym, ap, subst, ◌∙◌, cases_eq, cases_Bool, same_Some, slice_get-map, PortRef, Node, same_port, node_is_switch, is_known_switch, port_at, port_is, same_port-refl, Registers, IsDevice, is_switch, new_endpoint, new_switch, with_link, with_device, linked_at, routed, defaulted, held_by, large_set, device-changed, device-kept, or_false, with_linked_end}
use Rattle.std.proofs.Math.Nat.{zero-div}
use Rattle.maint_registers.proofs.LinkLaws.{bit_set, bit_others}
use Rattle.maint_registers.proofs.WithinLaws.{no_routes_long}

-- ---- one device

-- a device of a fabric in which these ports have links
pub record IsNew (linked : PortRef → Bool) (node : ℕ) (held : Registers) : Type 0 where
  pub device : IsDevice held
  pub id : held.base_id < 256
  pub large_id : held.large_id < 65536
  pub lock : held.lock < 65536
  pub tag : held.tag ≡ 0
  pub shown : (port : ℕ) → port < held.ports
      → held.linked / 2 ^ port % 2 ≡ (if linked (port_at node port) then 1 else 0)

-- what each device of some is
abbrev pub AreNew : (PortRef → Bool) → List Registers → Type 0
AreNew linked devices = (node : ℕ) (held : Registers) → slice_get devices node ≡ Some held
    → IsNew linked node held

-- a port that has no link shows none
bit_none : (port : ℕ) → 0 / 2 ^ port % 2 ≡ 0
bit_none port = let none = zero-div (2 ^ port) in omega (arith, none)

pub new_endpoint_is : (linked : PortRef → Bool) (node id : ℕ) → id < 256
    → ((port : ℕ) → linked (port_at node port) ≡ false) → IsNew linked node (new_endpoint id false)
new_endpoint_is linked node id below none = record {
  device = record {
    most_ports = omega arith;
    endpoint_ports = λ is. refl;
    switch_id = λ is. absurd (cc);
    switch_large = λ is. absurd (cc);
    destinations = no_routes_long;
    selected = omega arith;
  };
  id = below;
  large_id = omega arith;
  lock = omega arith;
  tag = refl;
  shown = λ port less. rw (none port) (bit_none port);
}

pub new_switch_is : (linked : PortRef → Bool) (node ports : ℕ) → ports ≤ 16
    → ((port : ℕ) → linked (port_at node port) ≡ false) → IsNew linked node (new_switch ports 0)
new_switch_is linked node ports most none = record {
  device = record {
    most_ports = most;
    endpoint_ports = λ is. absurd (cc);
    switch_id = λ is. refl;
    switch_large = λ is. refl;
    destinations = no_routes_long;
    selected = omega arith;
  };
  id = omega arith;
  large_id = omega arith;
  lock = omega arith;
  tag = refl;
  shown = λ port less. rw (none port) (bit_none port);
}

-- its links, its lock and its default port may be any
stays_device : (held : Registers) (links lock port : ℕ) → IsDevice held
    → IsDevice (record held { linked = links; lock = lock; default_port = port })
stays_device held links lock port is = search rules

module _ (linked : PortRef → Bool) (node : ℕ) (held : Registers) (is : IsNew linked node held) where
  pub routed_is : (id port : ℕ) → IsNew linked node (routed id port held)
  routed_is id port = search (rules, length-set held.routes id port ∙ is.device.destinations)

  pub defaulted_is : (port : ℕ) → IsNew linked node (defaulted port held)
  defaulted_is port = search (rules, stays_device held held.linked held.lock port is.device)

  pub held_by_is : (id : ℕ) → id < 65536 → IsNew linked node (held_by id held)
  held_by_is id below = search (rules, stays_device held held.linked id held.default_port is.device)

-- an endpoint has the ID
large_of : (held : Registers) (id : ℕ) → is_switch held ≡ false → is_switch held ≡ true → id ≡ 0
large_of held id endpoint switch = absurd (cc)

pub large_set_is : (linked : PortRef → Bool) (node : ℕ) (held : Registers) (id : ℕ) → id < 65536
    → is_switch held ≡ false → IsNew linked node held → IsNew linked node (large_set id held)
large_set_is linked node held id below endpoint is = search (rules, large_of held id endpoint)

-- another port with a link
abbrev pub also : (PortRef → Bool) → PortRef → PortRef → Bool
also linked a p = linked p || same_port a p

also_own : (linked : PortRef → Bool) (a : PortRef) → also linked a a ≡ true
also_own linked a = go (linked a) (same_port-refl a)
  where
    go : (b : Bool) → same_port a a ≡ true → (b || same_port a a) ≡ true
    go true own = refl
    go false own = own

also_other : (linked : PortRef → Bool) (a p : PortRef) → p ≢ a → also linked a p ≡ linked p
also_other linked a p apart = go (cases_Bool (same_port a p))
  where
    go : (same_port a p ≡ true) ⊎ (same_port a p ≡ false) → also linked a p ≡ linked p
    go (inl same) = absurd (apart (sym (port_is a p same)))
    go (inr other) = ap (λ b. linked p || b) other ∙ or_false (linked p)

linked_at_is : (linked : PortRef → Bool) (a : PortRef) (held : Registers)
    → IsNew linked a.node held → IsNew (also linked a) a.node (linked_at a.port held)
linked_at_is linked a held is = record {
  device = stays_device held (with_link held.linked a.port) held.lock held.default_port
      is.device;
  id = is.id;
  large_id = is.large_id;
  lock = is.lock;
  tag = is.tag;
  shown = λ port less. at port less (cases_eq port a.port);
}
  where
    at : (port : ℕ) → port < held.ports → (port ≡ a.port) ⊎ (port ≢ a.port)
        → with_link held.linked a.port / 2 ^ port % 2
        ≡ (if also linked a (port_at a.node port) then 1 else 0)
    at port less (inl same) =
        ap (λ n. with_link held.linked a.port / 2 ^ n % 2) same
        ∙ (bit_set held.linked a.port
        ∙ sym (ap (λ b. if b then 1 else 0)
        (ap (λ n. also linked a (port_at a.node n)) same ∙ also_own linked a)))
    at port less (inr apart) =
        bit_others held.linked a.port port apart
        ∙ (is.shown port less
        ∙ sym (ap (λ b. if b then 1 else 0)
        (also_other linked a (port_at a.node port)
        (λ same. apart (ap (λ (p : PortRef). p.port) same)))))

also_elsewhere : (linked : PortRef → Bool) (a : PortRef) (node : ℕ) (held : Registers)
    → node ≢ a.node
    → IsNew linked node held → IsNew (also linked a) node held
also_elsewhere linked a node held apart is = record {
  device = is.device;
  id = is.id;
  large_id = is.large_id;
  lock = is.lock;
  tag = is.tag;
  shown = λ port less. is.shown port less
      ∙ sym (ap (λ b. if b then 1 else 0) (also_other linked a (port_at node port)
      (λ same. apart (ap (λ (p : PortRef). p.node) same))));
}

-- ---- several devices

-- a device is a switch if the node of its line is one
pub kind_known : (devices : List Registers) (nodes : List Node) (n : ℕ) (held : Registers)
    → map is_switch devices ≡ map (λ node. node_is_switch (Some node)) nodes
    → slice_get devices n ≡ Some held → is_switch held ≡ is_known_switch nodes n
kind_known devices nodes n held kinds stands = go (slice_get nodes n) refl
  where
    same : Some (is_switch held)
        ≡ option_map (λ node. node_is_switch (Some node)) (slice_get nodes n)
    same =
        ap (option_map is_switch) (sym stands)
        ∙ (sym (slice_get-map is_switch devices n)
        ∙ (ap (λ all. slice_get all n) kinds
        ∙ slice_get-map (λ node. node_is_switch (Some node)) nodes n))

    go : (o : Option Node) → slice_get nodes n ≡ o → is_switch held ≡ is_known_switch nodes n
    go None is = absurd (let none = same
        ∙ ap (option_map (λ node. node_is_switch (Some node))) is in cc)
    go (Some node) is =
        same_Some (is_switch held) (node_is_switch (Some node))
        (same ∙ ap (option_map (λ node. node_is_switch (Some node))) is)
        ∙ ap (λ o. node_is_switch o) (sym is)

-- one of them is changed
pub are_changed : (linked now : PortRef → Bool) (devices : List Registers) (n : ℕ)
    (change : Registers → Registers)
    → ((held : Registers) → slice_get devices n ≡ Some held → IsNew linked n held
    → IsNew now n (change held))
    → ((node : ℕ) (held : Registers) → node ≢ n → IsNew linked node held → IsNew now node held)
    → AreNew linked devices → AreNew now (with_device devices n change)
are_changed linked now devices n change here others are node held stands = go (cases_eq node n)
  where
    changed : (o : Option Registers) → slice_get devices n ≡ o → option_map change o ≡ Some held
        → IsNew now n held
    changed None is same = absurd (cc)
    changed (Some old) is same =
        subst (λ d. IsNew now n d) (same_Some (change old) held same) (here old is (are n old is))

    go : (node ≡ n) ⊎ (node ≢ n) → IsNew now node held
    go (inl same) =
        subst (λ m. IsNew now m held) (sym same)
        (changed (slice_get devices n) refl
        (sym (device-changed devices n change)
        ∙ (ap (λ m. slice_get (with_device devices n change) m) (sym same) ∙ stands)))
    go (inr apart) =
        others node held apart
        (are node held (sym (device-kept devices n node change apart) ∙ stands))

pub are_linked : (linked : PortRef → Bool) (devices : List Registers) (a : PortRef)
    → AreNew linked devices → AreNew (also linked a) (with_linked_end devices a)
are_linked linked devices a are =
    are_changed linked (also linked a) devices a.node (linked_at a.port)
    (λ held stands is. linked_at_is linked a held is)
    (λ node held apart is. also_elsewhere linked a node held apart is) are

-- what stands behind a list
behind : {X : Type 0} (xs : List X) (x y : X) (n : ℕ) → slice_get (xs ++ x ∷ []) n ≡ Some y
    → (slice_get xs n ≡ Some y) ⊎ ((n ≡ length xs) × (x ≡ y))
behind [] x y zero is = inr (refl, same_Some x y is)
behind [] x y (suc n) is = absurd (cc)
behind (first ∷ xs) x y zero is = inl is
behind (first ∷ xs) x y (suc n) is = go (behind xs x y n is)
  where
    go : (slice_get xs n ≡ Some y) ⊎ ((n ≡ length xs) × (x ≡ y))
        → (slice_get xs n ≡ Some y) ⊎ ((suc n ≡ suc (length xs)) × (x ≡ y))
    go (inl before) = inl before
    go (inr last) = inr (ap suc last.0, last.1)

pub are_longer : (linked : PortRef → Bool) (devices : List Registers) (new : Registers)
    → AreNew linked devices → IsNew linked (length devices) new
    → AreNew linked (devices ++ new ∷ [])
are_longer linked devices new are is node held stands = go (behind devices new held node stands)
  where
    go : (slice_get devices node ≡ Some held) ⊎ ((node ≡ length devices) × (new ≡ held))
        → IsNew linked node held
    go (inl before) = are node held before
    go (inr last) = subst (λ m. IsNew linked m held) (sym last.0)
        (subst (λ d. IsNew linked (length devices) d) last.1 is)

pub are_as : (linked now : PortRef → Bool) (devices : List Registers)
    → ((p : PortRef) → linked p ≡ now p) → AreNew linked devices → AreNew now devices
are_as linked now devices same are node held stands =
    let is = are node held stands in
    record {
      device = is.device;
      id = is.id;
      large_id = is.large_id;
      lock = is.lock;
      tag = is.tag;
      shown = λ port less. is.shown port less
          ∙ ap (λ b. if b then 1 else 0) (same (port_at node port));
    }
