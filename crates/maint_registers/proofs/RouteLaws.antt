-- Where a switch sends packets, by its table and after a write to it.
use Rattle.std.proofs.Common.{◌≡◌, ◌≢◌, ℕ, ◌<◌, ◌≤◌, ◌==◌, ◌&&◌, nat_lt, true, List, length, slice_index_or, slice_set, Some, None, arith, refl, ap, sym, subst, ◌∙◌, if◌then◌else◌, ne_eqb, get_or-set_same}
use Rattle.std.proofs.lemmas.List.{get_or-set_other}
use Rattle.std.proofs.lemmas.Bool.{lt-ltb}
use Rattle.maint_registers.specs.Devices.{Registers, is_switch}
use Rattle.maint_registers.specs.Routes.{entry_of, port_named, next_port}

-- the port of a switch that its table names
named-next : (device : Registers) (dest port : ℕ) → is_switch device ≡ true
    → port_named device dest ≡ port → port < device.ports → next_port device dest ≡ Some port
named-next device dest port is named below =
    subst (λ p. (if is_switch device && nat_lt p device.ports then Some p else None) ≡ Some port)
    (sym named)
    (rw (is, lt-ltb port device.ports below) refl)

-- the entry of the destination
pub entry-next : (device : Registers) (dest port : ℕ) → is_switch device ≡ true
    → device.ports ≤ 16 → entry_of device dest ≡ port → port < device.ports
    → next_port device dest ≡ Some port
entry-next device dest port is few named below =
    named-next device dest port is
    (rw (named, ne_eqb port 255 (λ same. omega (arith, same, below, few))) refl) below

-- or the default port if the entry is 255
pub default-next : (device : Registers) (dest port : ℕ) → is_switch device ≡ true
    → entry_of device dest ≡ 255 → device.default_port ≡ port → port < device.ports
    → next_port device dest ≡ Some port
default-next device dest port is none default below =
    named-next device dest port is (rw none default) below

-- a device with the same entry of a destination sends packets for it to the same port
pub next-same : (before after : Registers) (dest : ℕ) → after.kind ≡ before.kind
    → after.ports ≡ before.ports → after.default_port ≡ before.default_port
    → entry_of after dest ≡ entry_of before dest
    → next_port after dest ≡ next_port before dest
next-same before after dest kind ports default entry =
    ap (λ b. if b && nat_lt (port_named after dest) after.ports
    then Some (port_named after dest) else None)
    (ap (λ k. is_switch (record before { kind = k })) kind)
    ∙ (ap (λ n. if is_switch before && nat_lt (port_named after dest) n
    then Some (port_named after dest) else None) ports
    ∙ ap (λ p. if is_switch before && nat_lt p before.ports then Some p else None) named)
  where
    named : port_named after dest ≡ port_named before dest
    named =
        ap (λ e. if e == 255 then after.default_port else e) entry
        ∙ ap (λ d. if entry_of before dest == 255 then d
        else entry_of before dest) default

-- one entry is set
pub entry-set_same : (routes : List ℕ) (dest port : ℕ) → dest < length routes
    → slice_index_or (slice_set routes dest port) dest 255 ≡ port
entry-set_same routes dest port within = get_or-set_same routes dest port 255 within

-- and no other
pub entry-set_other : (routes : List ℕ) (dest other port : ℕ) → other ≢ dest
    → slice_index_or (slice_set routes dest port) other 255 ≡ slice_index_or routes other 255
entry-set_other routes dest other port apart = get_or-set_other routes dest other port 255 apart
