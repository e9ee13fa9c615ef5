-- What a register shows before a write to it, and after.
use Rattle.std.proofs.Common.{◌≡◌, ℕ, ◌+◌, ◌%◌, ◌^◌, ◌<◌, Some, option_map, unwrap_or, refl, sym, ap, ◌∙◌, subst, arith, get_or-set_same}
use Rattle.std.specs.Option.{option_and_then}
use Rattle.std.proofs.lemmas.List.Elements.{All-get_or}
use Rattle.std.proofs.lemmas.Option.{same_Some}
use Rattle.maint_registers.specs.declared.table.Register.{Register}
use Rattle.maint_registers.specs.declared.table.Register.TheVariants.{Fixed, PortInformation, BaseId, HostLock, ComponentTag, RouteSelect, RouteEntry, DefaultPort}
use Rattle.maint_registers.specs.Devices.{Registers, IsDevice}
use Rattle.maint_registers.specs.Table.{register_at}
use Rattle.maint_registers.specs.Access.{value_of, value_at, written_to, write_into}
use Rattle.maint_registers.specs.Laws.{Bits, written_bits, only, other_bits}
use Rattle.maint_registers.specs.Within.{IsWithin}

-- a register that stands at its offset shows its value there
shown : (device : Registers) (offset port : ℕ) (register : Register) (value : ℕ)
    → register_at device offset ≡ Some register → value_of device port register ≡ value
    → value_at device offset port ≡ Some value
shown device offset port register value at is =
    ap (option_map (value_of device port)) at ∙ ap (λ n. Some n) is

module _ (device : Registers) (offset value port : ℕ)
    (is_device : IsDevice device) (range : value < 2 ^ 32) where
  -- the register shows afterwards what was written, and its other bits
  abbrev becomes : Register → Bits → Registers → Type 0
  becomes register bits next =
      value_at next offset port ≡ Some (only bits value + other_bits device register)

  -- one step from what the register of a device shows
  step : (register : Register) (bits wanted : Bits) (next : Registers) → Some wanted ≡ Some bits
      → register_at next offset ≡ Some register
      → value_of next port register ≡ only wanted value + other_bits device register
      → becomes register bits next
  step register bits wanted next w at is =
      shown next offset port register (only bits value + other_bits device register) at
      (is ∙ ap (λ (b : Bits). only b value + other_bits device register)
      (same_Some wanted bits w))

  after : (register : Register) (bits : Bits) → register_at device offset ≡ Some register
      → written_bits register ≡ Some bits
      → becomes register bits (unwrap_or (written_to device value register) device)
  after (Fixed n) bits at w = cc
  after PortInformation bits at w = cc
  after HostLock bits at w = cc
  after BaseId bits at w = step BaseId bits _ _ w at refl
  after ComponentTag bits at w = step ComponentTag bits _ _ w at (omega arith)
  after RouteSelect bits at w = step RouteSelect bits _ _ w at (omega arith)
  after RouteEntry bits at w =
      let routes = is_device.destinations in
      let selected = is_device.selected in
      let here = get_or-set_same device.routes device.select (value % 256) 255 (omega arith) in
      step RouteEntry bits _ _ w at (omega (arith, here))
  after DefaultPort bits at w = step DefaultPort bits _ _ w at (omega arith)

pub shows_written : (device : Registers) (offset value port : ℕ) (register : Register)
    (bits : Bits) → IsDevice device → register_at device offset ≡ Some register
    → written_bits register ≡ Some bits → value < 2 ^ 32
    → value_at (write_into device offset value).device offset port
    ≡ Some (only bits value + other_bits device register)
shows_written device offset value port register bits is at has range =
    subst (λ o. becomes device offset value port is range register bits
    (unwrap_or (option_and_then (written_to device value) o) device)) (sym at)
    (after device offset value port is range register bits at has)

module _ (device : Registers) (port : ℕ) (within : IsWithin device) where
  abbrev has_both : Register → Bits → Type 0
  has_both register bits =
      value_of device port register
      ≡ only bits (value_of device port register) + other_bits device register

  is_both : (register : Register) (bits wanted : Bits) → Some wanted ≡ Some bits
      → has_both register wanted → has_both register bits
  is_both register bits wanted w is = subst (has_both register) (same_Some wanted bits w) is

  -- what each register shows that a write changes
  both : (register : Register) (bits : Bits) → written_bits register ≡ Some bits
      → has_both register bits
  both (Fixed n) bits w = cc
  both PortInformation bits w = cc
  both HostLock bits w = cc
  both BaseId bits w =
      let base = within.base_id in
      let large = within.large_id in
      is_both BaseId bits _ w (omega arith)
  both ComponentTag bits w =
      let most = within.tag in is_both ComponentTag bits _ w (omega arith)
  both RouteSelect bits w =
      let most = within.select in is_both RouteSelect bits _ w (omega arith)
  both RouteEntry bits w =
      let routes = within.destinations in
      let selected = within.select in
      let most = All-get_or (λ e. e < 0x100) device.routes device.select 255 (omega arith)
      within.routes in
      is_both RouteEntry bits _ w (omega (arith, most))
  both DefaultPort bits w =
      let most = within.default_port in is_both DefaultPort bits _ w (omega arith)

pub shows_both : (device : Registers) (offset port value : ℕ) (register : Register) (bits : Bits)
    → IsWithin device → register_at device offset ≡ Some register
    → written_bits register ≡ Some bits → value_at device offset port ≡ Some value
    → value ≡ only bits value + other_bits device register
shows_both device offset port value register bits within at has shows =
    subst (λ n. n ≡ only bits n + other_bits device register)
    (same_Some (value_of device port register) value
    (sym (ap (option_map (value_of device port)) at) ∙ shows))
    (both device port within register bits has)
