-- What the lines of a script and the answers of a device change in one of several devices.
use Rattle.std.specs.Prelude.{ℕ, zero, suc, true, List, [], ◌∷◌, slice_set}
use Rattle.maint_registers.specs.Devices.{Registers, with_link}

-- the registers of several devices, with those of one changed
abbrev pub with_device : List Registers → ℕ → (Registers → Registers) → List Registers
with_device [] n change = []
with_device (device ∷ devices) zero change = change device ∷ devices
with_device (device ∷ devices) (suc n) change = device ∷ with_device devices n change

-- a device knows that this port has a link
abbrev pub linked_at : ℕ → Registers → Registers
linked_at port device = record device { linked = with_link device.linked port }

-- a switch sends what is for a destination to this port
abbrev pub routed : ℕ → ℕ → Registers → Registers
routed dest port device = record device { routes = slice_set device.routes dest port }

-- a switch sends what its table does not name to this port
abbrev pub defaulted : ℕ → Registers → Registers
defaulted port device = record device { default_port = port }

-- an endpoint has this ID of 16 bits
abbrev pub large_set : ℕ → Registers → Registers
large_set id device = record device { large_id = id }

-- a device shows the registers besides that standard hosts look for
abbrev pub standard_shown : Registers → Registers
standard_shown device = record device { standard = true }

-- a host with this ID holds a device
abbrev pub held_by : ℕ → Registers → Registers
held_by id device = record device { lock = id }
