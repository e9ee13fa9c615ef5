-- Each number of a device fits its register, and stays so whatever is written.
use Rattle.std.specs.Prelude.{◌≡◌, ℕ, ◌<◌, ◌≤◌, Bool, length, All, slice_set, Some}
use Rattle.maint_registers.specs.Devices.{Registers, new_endpoint, new_switch}
use Rattle.maint_registers.specs.Access.{value_at, write_into}
use Rattle.maint_registers.specs.Changes.{standard_shown}

-- each number of a device fits its register
pub record IsWithin (device : Registers) : Type 0 where
  pub ports : device.ports ≤ 16
  pub base_id : device.base_id < 0x100
  pub large_id : device.large_id < 0x10000
  pub lock : device.lock < 0x10000
  pub tag : device.tag < 0x100000000
  pub select : device.select < 0x400
  pub destinations : length device.routes ≡ 1024
  pub routes : All (λ entry. entry < 0x100) device.routes
  pub default_port : device.default_port < 0x100

abbrev pub NewEndpointIsWithin : Type 0
NewEndpointIsWithin = (id : ℕ) (linked : Bool) → id < 0x100 → IsWithin (new_endpoint id linked)

abbrev pub NewSwitchIsWithin : Type 0
NewSwitchIsWithin = (ports linked : ℕ) → ports ≤ 16 → IsWithin (new_switch ports linked)

-- A word is written, and the device stays within.
abbrev pub WrittenStaysWithin : Type 0
WrittenStaysWithin = (device : Registers) (offset value : ℕ) → IsWithin device
    → value < 0x100000000 → IsWithin (write_into device offset value).device

-- What is read is a word.
abbrev pub ReadsWord : Type 0
ReadsWord = (device : Registers) (offset port value : ℕ) → IsWithin device → port < 0x100
    → value_at device offset port ≡ Some value → value < 0x100000000

-- Every value that fits may be set.
abbrev pub LargeStaysWithin : Type 0
LargeStaysWithin = (device : Registers) (id : ℕ) → IsWithin device → id < 0x10000
    → IsWithin (record device { large_id = id })

abbrev pub LockStaysWithin : Type 0
LockStaysWithin = (device : Registers) (id : ℕ) → IsWithin device → id < 0x10000
    → IsWithin (record device { lock = id })

abbrev pub RouteStaysWithin : Type 0
RouteStaysWithin = (device : Registers) (dest port : ℕ) → IsWithin device → port < 0x100
    → IsWithin (record device { routes = slice_set device.routes dest port })

abbrev pub DefaultStaysWithin : Type 0
DefaultStaysWithin = (device : Registers) (port : ℕ) → IsWithin device → port < 0x100
    → IsWithin (record device { default_port = port })

-- How many links there are bounds no register.
abbrev pub LinksStayWithin : Type 0
LinksStayWithin = (device : Registers) (linked : ℕ) → IsWithin device
    → IsWithin (record device { linked = linked })

-- So does what it shows besides.
abbrev pub StandardStaysWithin : Type 0
StandardStaysWithin = (device : Registers) → IsWithin device → IsWithin (standard_shown device)
