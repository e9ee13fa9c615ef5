-- What a change of the registers of one device leaves of a fabric.
use Rattle.std.proofs.Common.{◌≡◌, ℕ, zero, suc, ◌<◌, Bool, true, false, eqb, List, [], ◌∷◌, length, get_or, slice_get, Option, Some, option_map, option_and_then, unwrap_or, if◌then◌else◌, refl, sym, ap, ◌∙◌}
use Rattle.std.proofs.lemmas.Bool.{eqb-true, eqb-false}
use Rattle.std.proofs.lemmas.Option.{slice_get-get_or, get_or_from_slice_get, unwrap_or-slice_get}
use mathlib.Core.Path.{fun_ext}
use Rattle.maint_registers.specs.Devices.{Registers, IsSameDevice, new_endpoint}
use Rattle.maint_registers.specs.Changes.{with_device}
use Rattle.maint_registers.proofs.ChangeLaws.{length-with_device, device-changed, device-kept}
use Rattle.fabric_script.specs.declared.ports.PortRef.{PortRef}
use Rattle.fabric_map.specs.Topology.{Topology}
use Rattle.fabric_map.specs.Plain.{ports_of_switch, topology_of, registers_of}
use Rattle.host_enumerate.specs.Accesses.{registers_with}
use Rattle.host_enumerate.proofs.Accessed.{ports_of_switch-same}

-- the registers by number, with those of one device changed
pub registers_of-changed : (devices : List Registers) (node : ℕ) (change : Registers → Registers)
    → node < length devices
    → registers_of (with_device devices node change)
    ≡ registers_with (registers_of devices) node (change (registers_of devices node))
registers_of-changed devices node change inside =
    fun_ext (λ other. at other (eqb other node) refl)
  where
    first : Registers
    first = new_endpoint 0 false

    at : (other : ℕ) (b : Bool) → eqb other node ≡ b
        → get_or (with_device devices node change) other (new_endpoint 0 false)
        ≡ (if b then change (get_or devices node (new_endpoint 0 false))
        else get_or devices other (new_endpoint 0 false))
    at other true is =
        ap (λ n. get_or (with_device devices node change) n first) (eqb-true other node is)
        ∙ get_or_from_slice_get (with_device devices node change) node
        (change (get_or devices node first)) first
        (device-changed devices node change
        ∙ ap (option_map change) (slice_get-get_or devices node first inside))
    at other false is =
        sym (unwrap_or-slice_get (with_device devices node change) other first)
        ∙ ap (λ o. unwrap_or o first)
        (device-kept devices node other change (eqb-false other node is))
        ∙ unwrap_or-slice_get devices other first

-- which devices are switches, and of how many ports
kinds-changed : (devices : List Registers) (node : ℕ) (change : Registers → Registers)
    → ((device : Registers) → slice_get devices node ≡ Some device
    → IsSameDevice device (change device)) → (n : ℕ)
    → option_and_then ports_of_switch (slice_get (with_device devices node change) n)
    ≡ option_and_then ports_of_switch (slice_get devices n)
kinds-changed [] node change same n = refl
kinds-changed (device ∷ devices) zero change same zero =
    ports_of_switch-same device (change device) (same device refl)
kinds-changed (device ∷ devices) zero change same (suc n) = refl
kinds-changed (device ∷ devices) (suc node) change same zero = refl
kinds-changed (device ∷ devices) (suc node) change same (suc n) =
    kinds-changed devices node change same n

-- the devices and links are the same
pub topology_of-changed : (devices : List Registers) (links : List (PortRef × PortRef))
    (host node : ℕ) (change : Registers → Registers)
    → ((device : Registers) → slice_get devices node ≡ Some device
    → IsSameDevice device (change device))
    → topology_of (with_device devices node change) links host ≡ topology_of devices links host
topology_of-changed devices links host node change same =
    ap (λ (n : ℕ). of n (λ other.
    option_and_then ports_of_switch (slice_get (with_device devices node change) other)))
    (length-with_device devices node change)
    ∙ ap (λ (f : ℕ → Option ℕ). of (length devices) f)
    (fun_ext (kinds-changed devices node change same))
  where
    of : ℕ → (ℕ → Option ℕ) → Topology
    of nodes ports = record (topology_of devices links host) {
      nodes = nodes;
      switch_ports = ports;
    }
