-- What a device answers at the offsets that a host asks for, and what a write makes of it.
use Rattle.std.proofs.Common.{◌≡◌, ℕ, ◌+◌, ◌*◌, ◌/◌, ◌%◌, ◌<◌, ◌≤◌, ◌&&◌, nat_lt, Bool, true, false, List, [], ◌∷◌, ◌++◌, Option, Some, None, option_map, unwrap_or, slice_set, arith, refl, ap, sym, ◌∙◌, ◌==◌, if◌then◌else◌, ne_eqb, ltb-true}
use Rattle.std.specs.Option.{option_and_then, option_or}
use Rattle.maint_registers.specs.declared.registers.DeviceKind.{DeviceKind}
use Rattle.maint_registers.specs.declared.registers.DeviceKind.TheVariants.{Endpoint, Switch}
use Rattle.maint_registers.specs.declared.table.Register.{Register}
use Rattle.maint_registers.specs.declared.table.Register.TheVariants.{Fixed, PortInformation, BaseId, HostLock, ComponentTag, RouteSelect, RouteEntry, DefaultPort}
use Rattle.maint_registers.specs.Devices.{Registers, is_switch}
use Rattle.maint_registers.specs.Table.{Row, rows, table, standard_table, column, in_rows, status_offset, status_port, status_of, register_at}
use Rattle.maint_registers.specs.Access.{value_of, value_at, locked, written_to, written_at, write_into}
use Rattle.maint_registers.specs.Changes.{standard_shown}
use Rattle.maint_registers.proofs.StatusLaws.{status_port-none, status_port-found}

-- what stands in the rows of a device's kind stands at the offset
in_its_rows : (device : Registers) (offset : ℕ) (kind : DeviceKind) (register : Register)
    → device.kind ≡ kind → in_rows kind (rows device.standard) offset ≡ Some register
    → register_at device offset ≡ Some register
in_its_rows device offset kind register is stands =
    ap (λ o. option_or o (option_map (λ n. Fixed (status_of device n))
    (status_port device.ports offset)))
    (ap (λ k. in_rows k (rows device.standard) offset) is ∙ stands)

pub kind-switch : (device : Registers) → is_switch device ≡ true → device.kind ≡ Switch
kind-switch device is = go device.kind refl is
  where
    go : (kind : DeviceKind) → device.kind ≡ kind
        → is_switch (record device { kind = kind }) ≡ true → kind ≡ Switch
    go Switch same is = refl
    go Endpoint same is = absurd (cc)

pub kind-endpoint : (device : Registers) → is_switch device ≡ false → device.kind ≡ Endpoint
kind-endpoint device is = go device.kind is
  where
    go : (kind : DeviceKind) → is_switch (record device { kind = kind }) ≡ false → kind ≡ Endpoint
    go Endpoint is = refl
    go Switch is = absurd (cc)

-- what stands at an offset in both columns
in_both : (device : Registers) (offset : ℕ) (register : Register)
    → in_rows Endpoint (rows device.standard) offset ≡ Some register
    → in_rows Switch (rows device.standard) offset ≡ Some register
    → register_at device offset ≡ Some register
in_both device offset register endpoint switch = go device.kind refl
  where
    go : (kind : DeviceKind) → device.kind ≡ kind → register_at device offset ≡ Some register
    go Endpoint is = in_its_rows device offset Endpoint register is endpoint
    go Switch is = in_its_rows device offset Switch register is switch

at-lock : (device : Registers) → register_at device 0x68 ≡ Some HostLock
at-lock device = in_both device 0x68 HostLock refl refl

at-tag : (device : Registers) → register_at device 0x6c ≡ Some ComponentTag
at-tag device = in_both device 0x6c ComponentTag refl refl

reads : (device : Registers) (offset port : ℕ) (register : Register)
    → register_at device offset ≡ Some register
    → value_at device offset port ≡ Some (value_of device port register)
reads device offset port register at = ap (λ o. option_map (value_of device port) o) at

writes : (device : Registers) (offset value : ℕ) (register : Register)
    → register_at device offset ≡ Some register
    → written_at device offset value ≡ written_to device value register
writes device offset value register at = ap (λ o. option_and_then (written_to device value) o) at

-- What holds of a device holds after a write to it, if it does after one to the register that
-- stands at the offset.
pub by_register : (P : Registers → Type 0) (device : Registers) (offset value : ℕ) → P device
    → ((register : Register) → register_at device offset ≡ Some register
    → P (unwrap_or (written_to device value register) device))
    → P (write_into device offset value).device
by_register P device offset value is each = go (register_at device offset) refl
  where
    go : (o : Option Register) → register_at device offset ≡ o
        → P (unwrap_or (option_and_then (written_to device value) o) device)
    go None at = is
    go (Some register) at = each register at

pub lock-read : (device : Registers) (port : ℕ) → value_at device 0x68 port ≡ Some device.lock
lock-read device port = reads device 0x68 port HostLock (at-lock device)

pub tag-read : (device : Registers) (port : ℕ) → value_at device 0x6c port ≡ Some device.tag
tag-read device port = reads device 0x6c port ComponentTag (at-tag device)

pub features-read : (device : Registers) (port : ℕ)
    → value_at device 0x10 port ≡ Some (if is_switch device then 0x10000118 else 0x18)
features-read device port = go (is_switch device) refl
  where
    go : (b : _) → is_switch device ≡ b
        → value_at device 0x10 port ≡ Some (if b then 0x10000118 else 0x18)
    go true is = reads device 0x10 port (Fixed 0x10000118)
        (in_its_rows device 0x10 Switch (Fixed 0x10000118) (kind-switch device is) refl)
    go false is = reads device 0x10 port (Fixed 0x18)
        (in_its_rows device 0x10 Endpoint (Fixed 0x18) (kind-endpoint device is) refl)

pub port_information-read : (device : Registers) (port : ℕ) → is_switch device ≡ true
    → value_at device 0x14 port ≡ Some (device.ports * 0x100 + port)
port_information-read device port is =
    reads device 0x14 port PortInformation
    (in_its_rows device 0x14 Switch PortInformation (kind-switch device is) refl)

pub base_id-read : (device : Registers) (port : ℕ) → is_switch device ≡ false
    → value_at device 0x60 port ≡ Some (device.base_id * 0x10000 + device.large_id)
base_id-read device port is =
    reads device 0x60 port BaseId
    (in_its_rows device 0x60 Endpoint BaseId (kind-endpoint device is) refl)

pub lock-written : (device : Registers) (value : ℕ)
    → written_at device 0x68 value
    ≡ Some (record device { lock = locked device.lock (value % 0x10000) })
lock-written device value = writes device 0x68 value HostLock (at-lock device)

pub tag-written : (device : Registers) (value : ℕ)
    → written_at device 0x6c value ≡ Some (record device { tag = value })
tag-written device value = writes device 0x6c value ComponentTag (at-tag device)

pub base_id-written : (device : Registers) (value : ℕ) → is_switch device ≡ false
    → written_at device 0x60 value
    ≡ Some (record device { base_id = value / 0x10000 % 0x100 })
base_id-written device value is =
    writes device 0x60 value BaseId
    (in_its_rows device 0x60 Endpoint BaseId (kind-endpoint device is) refl)

pub select-written : (device : Registers) (value : ℕ) → is_switch device ≡ true
    → written_at device 0x70 value ≡ Some (record device { select = value % 0x400 })
select-written device value is =
    writes device 0x70 value RouteSelect
    (in_its_rows device 0x70 Switch RouteSelect (kind-switch device is) refl)

pub entry-written : (device : Registers) (value : ℕ) → is_switch device ≡ true
    → written_at device 0x74 value
    ≡ Some (record device { routes = slice_set device.routes device.select (value % 0x100) })
entry-written device value is =
    writes device 0x74 value RouteEntry
    (in_its_rows device 0x74 Switch RouteEntry (kind-switch device is) refl)

pub default_port-written : (device : Registers) (value : ℕ) → is_switch device ≡ true
    → written_at device 0x78 value ≡ Some (record device { default_port = value % 0x100 })
default_port-written device value is =
    writes device 0x78 value DefaultPort
    (in_its_rows device 0x78 Switch DefaultPort (kind-switch device is) refl)

-- Rows that do not have an offset change nothing there behind others.
in_more_rows : (kind : DeviceKind) (first second : List Row) (offset : ℕ)
    → in_rows kind second offset ≡ None
    → in_rows kind (first ++ second) offset ≡ in_rows kind first offset
in_more_rows kind [] second offset none = none
in_more_rows kind (row ∷ first) second offset none =
    ap (λ o. if row.0 == offset then column kind row else o)
    (in_more_rows kind first second offset none)

-- a device that shows what standard hosts look for shows all else as before
pub standard_adds : (device : Registers) (offset port : ℕ)
    → in_rows device.kind standard_table offset ≡ None
    → value_at (standard_shown device) offset port ≡ value_at device offset port
standard_adds device offset port none =
    ap (λ o. option_map (value_of device port) (option_or o
    (option_map (λ n. Fixed (status_of device n)) (status_port device.ports offset))))
    (in_more_rows device.kind table standard_table offset none ∙ sym (go device.standard))
  where
    go : (standard : Bool)
        → in_rows device.kind (rows standard) offset ≡ in_rows device.kind table offset
    go true = in_more_rows device.kind table standard_table offset none
    go false = in_more_rows device.kind table [] offset refl

-- every offset of these rows is less than a number
abbrev are_less : List Row → ℕ → Bool
are_less [] limit = true
are_less (row ∷ rows) limit = nat_lt row.0 limit && are_less rows limit

-- at an offset that is greater than those of all rows, none stands
past_rows : (kind : DeviceKind) (rows : List Row) (limit offset : ℕ) → are_less rows limit ≡ true
    → limit ≤ offset → in_rows kind rows offset ≡ None
past_rows kind [] limit offset less past = refl
past_rows kind (row ∷ rows) limit offset less past =
    go (nat_lt row.0 limit) (are_less rows limit) refl refl less
    (λ rest. past_rows kind rows limit offset rest past)
  where
    go : (a b : Bool) → nat_lt row.0 limit ≡ a → are_less rows limit ≡ b → (a && b) ≡ true
        → (are_less rows limit ≡ true → in_rows kind rows offset ≡ None)
        → in_rows kind (row ∷ rows) offset ≡ None
    go true true first rest both on =
        let below = ltb-true row.0 limit first in
        rw (ne_eqb row.0 offset (λ same. omega (arith, same, below, past)))
        (on rest)
    go true false first rest both on = absurd (cc)
    go false b first rest both on = absurd (cc)

-- where the error and status registers are, no row stands
past_table : (kind : DeviceKind) (standard : Bool) (n : ℕ)
    → in_rows kind (rows standard) (status_offset n) ≡ None
past_table kind true n = past_rows kind (rows true) 0x101 (status_offset n) refl (omega arith)
past_table kind false n = past_rows kind (rows false) 0x101 (status_offset n) refl (omega arith)

-- what is read there
at_status : (device : Registers) (n port : ℕ) (found : Option ℕ)
    → status_port device.ports (status_offset n) ≡ found
    → value_at device (status_offset n) port ≡ option_map (status_of device) found
at_status device n port found stands =
    ap (λ o. option_map (value_of device port) (option_or o
    (option_map (λ n. Fixed (status_of device n)) (status_port device.ports (status_offset n)))))
    (past_table device.kind device.standard n)
    ∙ ap (λ o. option_map (value_of device port) (option_map (λ n. Fixed (status_of device n)) o))
    stands
    ∙ go found
  where
    go : (o : Option ℕ)
        → option_map (value_of device port) (option_map (λ n. Fixed (status_of device n)) o)
        ≡ option_map (status_of device) o
    go None = refl
    go (Some n) = refl

-- 2 of a port with a link, 1 of one without
pub status-read : (device : Registers) (n port : ℕ) → n < device.ports
    → value_at device (status_offset n) port ≡ Some (status_of device n)
status-read device n port below =
    at_status device n port (Some n)
    (status_port-found device.ports (status_offset n) n below refl)

-- and nothing of one that the device has not
pub status-none : (device : Registers) (n port : ℕ) → device.ports ≤ n
    → value_at device (status_offset n) port ≡ None
status-none device n port past =
    at_status device n port None
    (status_port-none device.ports (status_offset n)
    (λ k below same. omega (arith, below, same, past)))
