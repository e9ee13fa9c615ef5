-- Devices that were changed: they stay of their kinds, with their ports.
use Rattle.std.proofs.Common.{◌≡◌, ℕ, zero, suc, ◌+◌, ◌<◌, true, false, List, [], ◌∷◌, Some, option_map, slice_get, slice_set, refl, sym, ap, ◌∙◌, subst, arith}
use Rattle.maint_registers.specs.Devices.{Registers, IsSameDevice, is_switch}
use Rattle.maint_registers.specs.declared.registers.DeviceKind.{DeviceKind}
use Rattle.switch_core.specs.Faces.{AllAlike}
use Rattle.fabric_ports.specs.Places.{AreFirsts, port_count, HasPort, IsEndpointAt, IsSwitchAt}

-- of the kind that it was, with as many ports
pub record HasForm (before after : Registers) : Type 0 where
  pub kind : after.kind ≡ before.kind
  pub ports : after.ports ≡ before.ports

abbrev pub AreSameDevices : List Registers → List Registers → Type 0
AreSameDevices old new = AllAlike HasForm old new

same_form : (device : Registers) → HasForm device device
same_form device = record { kind = refl; ports = refl }

pub same_devices : (devices : List Registers) → AreSameDevices devices devices
same_devices [] = tt
same_devices (device ∷ devices) = (same_form device, same_devices devices)

-- one device was changed
pub one_changed : (devices : List Registers) (n : ℕ) (device next : Registers)
    → slice_get devices n ≡ Some device → HasForm device next
    → AreSameDevices devices (slice_set devices n next)
one_changed [] n device next stands same = tt
one_changed (d ∷ devices) zero device next stands same =
    let own : d ≡ device = cc in
    (subst (λ e. HasForm e next) (sym own) same, same_devices devices)
one_changed (d ∷ devices) (suc n) device next stands same =
    (same_form d, one_changed devices n device next stands same)

-- what was written to has its form
pub written_form : {device next : Registers} → IsSameDevice device next → HasForm device next
written_form same = record { kind = same.kind; ports = same.ports }

-- one device was written to
pub one_written : (devices : List Registers) (n : ℕ) (device next : Registers)
    → slice_get devices n ≡ Some device → IsSameDevice device next
    → AreSameDevices devices (slice_set devices n next)
one_written devices n device next stands same =
    one_changed devices n device next stands (written_form same)

kind_is : (d e : Registers) → HasForm d e → is_switch e ≡ is_switch d
kind_is d e same = ap (λ (k : DeviceKind). is_switch (record d { kind = k })) same.kind

pub kinds_stay : (old new : List Registers) (n : ℕ) → AreSameDevices old new
    → option_map is_switch (slice_get new n) ≡ option_map is_switch (slice_get old n)
kinds_stay [] [] n same = refl
kinds_stay (d ∷ old) (e ∷ new) zero same = ap Some (kind_is d e same.0)
kinds_stay (d ∷ old) (e ∷ new) (suc n) same = kinds_stay old new n same.1
kinds_stay [] (e ∷ new) n same = absurd same
kinds_stay (d ∷ old) [] n same = absurd same

pub firsts_stay : (base : ℕ) (old new : List Registers) (firsts : List ℕ) → AreSameDevices old new
    → AreFirsts base old firsts → AreFirsts base new firsts
firsts_stay base [] [] firsts same are = are
firsts_stay base (d ∷ old) (e ∷ new) [] same are = absurd are
firsts_stay base (d ∷ old) (e ∷ new) (first ∷ firsts) same are = (
  are.0,
  subst (λ n. AreFirsts (base + n) new firsts) (sym same.0.ports)
      (firsts_stay (base + d.ports) old new firsts same.1 are.1),
)
firsts_stay base [] (e ∷ new) firsts same are = absurd same
firsts_stay base (d ∷ old) [] firsts same are = absurd same

pub count_stays : (old new : List Registers) → AreSameDevices old new
    → port_count new ≡ port_count old
count_stays [] [] same = refl
count_stays (d ∷ old) (e ∷ new) same =
    let one = same.0.ports in
    let rest = count_stays old new same.1 in
    omega (arith, one, rest)
count_stays [] (e ∷ new) same = absurd same
count_stays (d ∷ old) [] same = absurd same

pub has_port_still : (old new : List Registers) (n port : ℕ) → AreSameDevices old new
    → HasPort (slice_get old n) port → HasPort (slice_get new n) port
has_port_still [] [] n port same has = absurd has
has_port_still (d ∷ old) (e ∷ new) zero port same has =
    subst (λ k. port < k) (sym same.0.ports) has
has_port_still (d ∷ old) (e ∷ new) (suc n) port same has =
    has_port_still old new n port same.1 has
has_port_still [] (e ∷ new) n port same has = absurd same
has_port_still (d ∷ old) [] n port same has = absurd same

pub had_port : (old new : List Registers) (n port : ℕ) → AreSameDevices old new
    → HasPort (slice_get new n) port → HasPort (slice_get old n) port
had_port [] [] n port same has = absurd has
had_port (d ∷ old) (e ∷ new) zero port same has = subst (λ k. port < k) same.0.ports has
had_port (d ∷ old) (e ∷ new) (suc n) port same has = had_port old new n port same.1 has
had_port [] (e ∷ new) n port same has = absurd same
had_port (d ∷ old) [] n port same has = absurd same

-- an endpoint stays one
pub endpoint_stays : (old new : List Registers) (n : ℕ) → AreSameDevices old new
    → IsEndpointAt old n
    → IsEndpointAt new n
endpoint_stays [] [] n same at = let stands = at.stands in absurd cc
endpoint_stays (d ∷ old) (e ∷ new) zero same at =
    let own : d ≡ at.device = (let stands = at.stands in cc) in
    record {
      device = e;
      stands = refl;
      kind = kind_is d e same.0 ∙ ap is_switch own ∙ at.kind;
      has_port = subst (λ k. 0 < k) (ap (λ (x : Registers). x.ports) (sym own) ∙ sym same.0.ports)
          at.has_port;
    }
endpoint_stays (d ∷ old) (e ∷ new) (suc n) same at =
    let rest = endpoint_stays old new n same.1 (record {
      device = at.device;
      stands = at.stands;
      kind = at.kind;
      has_port = at.has_port;
    }) in
    record {
      device = rest.device;
      stands = rest.stands;
      kind = rest.kind;
      has_port = rest.has_port;
    }
endpoint_stays [] (e ∷ new) n same at = absurd same
endpoint_stays (d ∷ old) [] n same at = absurd same

-- the device that stands where an endpoint does is one
pub kind_read : {devices : List Registers} {n : ℕ} {device : Registers} → IsEndpointAt devices n
    → slice_get devices n ≡ Some device → is_switch device ≡ false
kind_read {device = device} at stands =
    let same : at.device ≡ device = (let known = at.stands in cc) in
    ap is_switch (sym same) ∙ at.kind

-- the same of a switch
pub switch_read : {devices : List Registers} {n : ℕ} {device : Registers} → IsSwitchAt devices n
    → slice_get devices n ≡ Some device → is_switch device ≡ true
switch_read {device = device} at stands =
    let same : at.device ≡ device = (let known = at.stands in cc) in
    ap is_switch (sym same) ∙ at.kind
