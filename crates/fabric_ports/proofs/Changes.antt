-- Where ports stand when a device changes that has as many ports as before: where they stood.
use Rattle.std.proofs.Common.{◌≡◌, ℕ, Bool, zero, suc, ◌+◌, ◌<◌, List, [], ◌∷◌, All, Some, option_map, refl, sym, ap, subst}
use Rattle.std.proofs.lemmas.List.Elements.{All-cons, All-head, All-tail}
use Rattle.std.specs.List.{slice_get}
use Rattle.maint_registers.specs.Devices.{Registers, is_switch}
use Rattle.fabric_model.specs.Network.{Network, switch_at, with_device}
use Rattle.fabric_model.proofs.Devices.{map-with_device}
use Rattle.fabric_trace.proofs.SetUps.KindLaws.{IsKindThere, kind_there}
use Rattle.fabric_ports.specs.Places.{AreFirsts, port_count, HasPort}
use Rattle.fabric_ports.specs.Plans.{counts_of, HasPorts}
use Rattle.fabric_ports.specs.Showing.{AreRegisters}

-- a device has as many ports after a change
abbrev pub KeepsPorts : (Registers → Registers) → Type 0
KeepsPorts change = (device : Registers) → (change device).ports ≡ device.ports

pub counts-change : (devices : List Registers) (n : ℕ) (change : Registers → Registers)
    → KeepsPorts change
    → counts_of (with_device devices n change) ≡ counts_of devices
counts-change devices n change same =
    map-with_device (λ (device : Registers). device.ports) devices n change same

pub count-change : (devices : List Registers) (n : ℕ) (change : Registers → Registers)
    → KeepsPorts change
    → port_count (with_device devices n change) ≡ port_count devices
count-change [] n change same = refl
count-change (d ∷ devices) zero change same = ap (λ k. k + port_count devices) (same d)
count-change (d ∷ devices) (suc n) change same =
    ap (λ k. d.ports + k) (count-change devices n change same)

pub firsts-change : (place : ℕ) (devices : List Registers) (firsts : List ℕ) (n : ℕ)
    (change : Registers → Registers) → KeepsPorts change → AreFirsts place devices firsts
    → AreFirsts place (with_device devices n change) firsts
firsts-change place [] firsts n change same are = are
firsts-change place (d ∷ devices) [] zero change same are = absurd are
firsts-change place (d ∷ devices) [] (suc n) change same are = absurd are
firsts-change place (d ∷ devices) (f ∷ firsts) zero change same are =
    (are.0, subst (λ k. AreFirsts (place + k) devices firsts) (sym (same d)) are.1)
firsts-change place (d ∷ devices) (f ∷ firsts) (suc n) change same are =
    (are.0, firsts-change (place + d.ports) devices firsts n change same are.1)

pub have_ports-change : (devices : List Registers) (n : ℕ) (change : Registers → Registers)
    → KeepsPorts change → All HasPorts devices → All HasPorts (with_device devices n change)
have_ports-change [] n change same have = have
have_ports-change (d ∷ devices) zero change same have =
    All-cons HasPorts (change d) devices
    (subst (λ k. 0 < k) (sym (same d)) (All-head HasPorts d devices have))
    (All-tail HasPorts d devices have)
have_ports-change (d ∷ devices) (suc n) change same have =
    All-cons HasPorts d (with_device devices n change) (All-head HasPorts d devices have)
    (have_ports-change devices n change same (All-tail HasPorts d devices have))

pub port-change : (devices : List Registers) (n : ℕ) (change : Registers → Registers)
    → KeepsPorts change
    → (m port : ℕ) → HasPort (slice_get devices m) port
    → HasPort (slice_get (with_device devices n change) m) port
port-change [] n change same m port has = has
port-change (d ∷ devices) zero change same zero port has =
    subst (λ k. port < k) (sym (same d)) has
port-change (d ∷ devices) zero change same (suc m) port has = has
port-change (d ∷ devices) (suc n) change same zero port has = has
port-change (d ∷ devices) (suc n) change same (suc m) port has =
    port-change devices n change same m port has

pub port-unchange : (devices : List Registers) (n : ℕ) (change : Registers → Registers)
    → KeepsPorts change
    → (m port : ℕ) → HasPort (slice_get (with_device devices n change) m) port
    → HasPort (slice_get devices m) port
port-unchange [] n change same m port has = has
port-unchange (d ∷ devices) zero change same zero port has = subst (λ k. port < k) (same d) has
port-unchange (d ∷ devices) zero change same (suc m) port has = has
port-unchange (d ∷ devices) (suc n) change same zero port has = has
port-unchange (d ∷ devices) (suc n) change same (suc m) port has =
    port-unchange devices n change same m port has

-- an endpoint or a switch of the network is one of its devices
pub kind_of : (switch : Bool) (net : Network) (devices : List Registers) (node : ℕ)
    → AreRegisters net devices → switch_at net node ≡ Some switch
    → IsKindThere switch devices node
kind_of switch net devices node registers is =
    kind_there switch devices node
    (subst (λ (x : List Registers). option_map is_switch (slice_get x node) ≡ Some switch) registers
    is)
