-- The numbers of a device fit their registers.
use Rattle.std.proofs.Common.{◌≡◌, ℕ, ◌/◌, ◌%◌, ◌^◌, ◌<◌, ◌≤◌, ◌==◌, ◌&&◌, nat_lt, Bool, true, false, List, [], ◌∷◌, length, All, Option, Some, None, option_map, unwrap_or, slice_set, arith, refl, subst, if◌then◌else◌, ltb-true, length-set}
use Rattle.std.specs.Option.{option_or}
use Rattle.std.proofs.lemmas.Bool.{and_parts}
use Rattle.std.proofs.lemmas.List.Elements.{All-set, All-replicate, All-get_or}
use Rattle.maint_registers.specs.declared.registers.DeviceKind.{DeviceKind}
use Rattle.maint_registers.specs.declared.registers.DeviceKind.TheVariants.{Endpoint, Switch}
use Rattle.maint_registers.specs.declared.table.Register.{Register}
use Rattle.maint_registers.specs.declared.table.Register.TheVariants.{Fixed, PortInformation, BaseId, HostLock, ComponentTag, RouteSelect, RouteEntry, DefaultPort}
use Rattle.maint_registers.specs.Devices.{Registers, no_routes, new_endpoint, new_switch}
use Rattle.maint_registers.specs.Table.{Row, rows, column, in_rows, status_port, status_of, register_at}
use Rattle.maint_registers.specs.Access.{value_of, value_at, locked, written_to, write_into}
use Rattle.maint_registers.specs.Changes.{standard_shown}
use Rattle.maint_registers.specs.Within.{IsWithin}
use Rattle.maint_registers.proofs.AccessLaws.{by_register}

no_routes_fit : All (λ entry. entry < 0x100) no_routes
unfolding no_routes
no_routes_fit = All-replicate (λ entry. entry < 0x100) 1024 255 (omega arith)

pub no_routes_long : length no_routes ≡ 1024
unfolding no_routes
no_routes_long = refl

pub new_endpoint_within : (id : ℕ) (linked : Bool) → id < 0x100 → IsWithin (new_endpoint id linked)
new_endpoint_within id linked range = record {
  ports = omega arith;
  base_id = range;
  large_id = omega arith;
  lock = omega arith;
  tag = omega arith;
  select = omega arith;
  destinations = no_routes_long;
  routes = no_routes_fit;
  default_port = omega arith;
}

pub new_switch_within : (ports linked : ℕ) → ports ≤ 16 → IsWithin (new_switch ports linked)
new_switch_within ports linked most = record {
  ports = most;
  base_id = omega arith;
  large_id = omega arith;
  lock = omega arith;
  tag = omega arith;
  select = omega arith;
  destinations = no_routes_long;
  routes = no_routes_fit;
  default_port = omega arith;
}

-- each of its numbers fits
each_within : {device : Registers} → device.ports ≤ 16 → device.base_id < 0x100
    → device.large_id < 0x10000 → device.lock < 0x10000 → device.tag < 0x100000000
    → device.select < 0x400 → length device.routes ≡ 1024
    → All (λ entry. entry < 0x100) device.routes → device.default_port < 0x100 → IsWithin device
each_within ports base_id large_id lock tag select destinations routes default_port = record {
  ports = ports;
  base_id = base_id;
  large_id = large_id;
  lock = lock;
  tag = tag;
  select = select;
  destinations = destinations;
  routes = routes;
  default_port = default_port;
}

pub base_id_within : (device : Registers) (id : ℕ) → IsWithin device → id < 0x100
    → IsWithin (record device { base_id = id })
base_id_within device id within range =
    each_within within.ports range within.large_id within.lock within.tag within.select
    within.destinations within.routes within.default_port

pub large_within : (device : Registers) (id : ℕ) → IsWithin device → id < 0x10000
    → IsWithin (record device { large_id = id })
large_within device id within range =
    each_within within.ports within.base_id range within.lock within.tag within.select
    within.destinations within.routes within.default_port

pub lock_within : (device : Registers) (id : ℕ) → IsWithin device → id < 0x10000
    → IsWithin (record device { lock = id })
lock_within device id within range =
    each_within within.ports within.base_id within.large_id range within.tag within.select
    within.destinations within.routes within.default_port

pub tag_within : (device : Registers) (tag : ℕ) → IsWithin device → tag < 0x100000000
    → IsWithin (record device { tag = tag })
tag_within device tag within range =
    each_within within.ports within.base_id within.large_id within.lock range within.select
    within.destinations within.routes within.default_port

pub select_within : (device : Registers) (dest : ℕ) → IsWithin device → dest < 0x400
    → IsWithin (record device { select = dest })
select_within device dest within range =
    each_within within.ports within.base_id within.large_id within.lock within.tag range
    within.destinations within.routes within.default_port

pub route_within : (device : Registers) (dest port : ℕ) → IsWithin device → port < 0x100
    → IsWithin (record device { routes = slice_set device.routes dest port })
route_within device dest port within range =
    let long = length-set device.routes dest port in
    let before = within.destinations in
    each_within within.ports within.base_id within.large_id within.lock within.tag within.select
    (omega (arith, long, before))
    (All-set (λ entry. entry < 0x100) device.routes dest port range within.routes)
    within.default_port

pub default_within : (device : Registers) (port : ℕ) → IsWithin device → port < 0x100
    → IsWithin (record device { default_port = port })
default_within device port within range =
    each_within within.ports within.base_id within.large_id within.lock within.tag within.select
    within.destinations within.routes range

pub links_within : (device : Registers) (linked : ℕ) → IsWithin device
    → IsWithin (record device { linked = linked })
links_within device linked within =
    each_within within.ports within.base_id within.large_id within.lock within.tag within.select
    within.destinations within.routes within.default_port

pub standard_within : (device : Registers) → IsWithin device → IsWithin (standard_shown device)
standard_within device within =
    each_within within.ports within.base_id within.large_id within.lock within.tag within.select
    within.destinations within.routes within.default_port

-- a lock that a host writes to
pub locked_within : (lock id : ℕ) → lock < 0x10000 → id < 0x10000 → locked lock id < 0x10000
locked_within lock id below range = go (lock == 0xffff) (lock == id)
  where
    go : (free own : Bool) → (if free then id else (if own then 0xffff else lock)) < 0x10000
    go true own = range
    go false true = omega arith
    go false false = below

register_within : (device : Registers) (value : ℕ) (register : Register) → IsWithin device
    → value < 0x100000000 → IsWithin (unwrap_or (written_to device value register) device)
register_within device value (Fixed shown) within range = within
register_within device value PortInformation within range = within
register_within device value BaseId within range = base_id_within device _ within (omega arith)
register_within device value HostLock within range =
    lock_within device _ within
    (locked_within device.lock (value % 0x10000) within.lock (omega arith))
register_within device value ComponentTag within range = tag_within device value within range
register_within device value RouteSelect within range = select_within device _ within (omega arith)
register_within device value RouteEntry within range =
    route_within device device.select _ within (omega arith)
register_within device value DefaultPort within range =
    default_within device _ within (omega arith)

-- whatever is written, the device stays within
pub write_within : (device : Registers) (offset value : ℕ) → IsWithin device
    → value < 0x100000000 → IsWithin (write_into device offset value).device
write_within device offset value within range =
    by_register IsWithin device offset value within
    (λ register at. register_within device value register within range)

-- a fixed value fits a word
abbrev fits : Register → Bool
fits (Fixed value) = nat_lt value 0x100000000
fits _ = true

abbrev fit : Option Register → Bool
fit None = true
fit (Some register) = fits register

abbrev all_fit : List Row → Bool
all_fit [] = true
all_fit (row ∷ rows) = fit row.1 && (fit row.2 && all_fit rows)

rows_fit : (kind : DeviceKind) (rows : List Row) (offset : ℕ) → all_fit rows ≡ true
    → fit (in_rows kind rows offset) ≡ true
rows_fit kind [] offset all = refl
rows_fit kind (row ∷ rows) offset all =
    let first = and_parts (fit row.1) (fit row.2 && all_fit rows) all in
    let second = and_parts (fit row.2) (all_fit rows) first.1 in
    go kind (row.0 == offset) first.0 second.0 (rows_fit kind rows offset second.1)
  where
    go : (k : DeviceKind) (here : Bool) → fit row.1 ≡ true → fit row.2 ≡ true
        → fit (in_rows kind rows offset) ≡ true
        → fit (if here then column k row else in_rows kind rows offset) ≡ true
    go Endpoint true endpoint switch rest = endpoint
    go Switch true endpoint switch rest = switch
    go k false endpoint switch rest = rest

status_fits : (device : Registers) (o : Option ℕ)
    → fit (option_map (λ n. Fixed (status_of device n)) o) ≡ true
status_fits device None = refl
status_fits device (Some n) = go (device.linked / 2 ^ n % 2 == 1)
  where
    go : (linked : Bool) → fits (Fixed (if linked then 2 else 1)) ≡ true
    go true = refl
    go false = refl

table_fits : (standard : Bool) → all_fit (rows standard) ≡ true
table_fits true = refl
table_fits false = refl

registers_fit : (device : Registers) (offset : ℕ) → fit (register_at device offset) ≡ true
registers_fit device offset =
    go (in_rows device.kind (rows device.standard) offset)
    (rows_fit device.kind (rows device.standard) offset (table_fits device.standard))
  where
    go : (o : Option Register) → fit o ≡ true
        → fit (option_or o
        (option_map (λ n. Fixed (status_of device n)) (status_port device.ports offset))) ≡ true
    go None all = status_fits device (status_port device.ports offset)
    go (Some register) all = all

value_fits : (device : Registers) (port : ℕ) (register : Register) → IsWithin device → port < 0x100
    → fits register ≡ true → value_of device port register < 0x100000000
value_fits device port (Fixed value) within range fit = ltb-true value 0x100000000 fit
value_fits device port PortInformation within range fit = let most = within.ports in omega arith
value_fits device port BaseId within range fit =
    let most = within.base_id in
    let second = within.large_id in
    omega arith
value_fits device port HostLock within range fit = let most = within.lock in omega arith
value_fits device port ComponentTag within range fit = within.tag
value_fits device port RouteSelect within range fit = let most = within.select in omega arith
value_fits device port RouteEntry within range fit =
    let long = within.destinations in
    let selected = within.select in
    let entry = All-get_or (λ e. e < 0x100) device.routes device.select 255 (omega arith)
    within.routes in
    omega arith
value_fits device port DefaultPort within range fit = let most = within.default_port in omega arith

-- what is read is a word
pub read_fits : (device : Registers) (offset port value : ℕ) → IsWithin device → port < 0x100
    → value_at device offset port ≡ Some value → value < 0x100000000
read_fits device offset port value within range =
    go (register_at device offset) (registers_fit device offset)
  where
    go : (o : Option Register) → fit o ≡ true → option_map (value_of device port) o ≡ Some value
        → value < 0x100000000
    go None fit is = absurd (cc)
    go (Some register) fit is =
        let same : value_of device port register ≡ value = cc in
        subst (λ n. n < 0x100000000) same (value_fits device port register within range fit)
