-- What holds of the first step of a switch, by the packet that makes it.
use Rattle.std.proofs.Common.{◌≡◌, ℕ, ◌<◌, List, Option, Some, None, unwrap_or, refl}
use Rattle.maint_registers.specs.Devices.{Registers}
use Rattle.maint_packets.specs.NextHops.{next_of}
use Rattle.switch_core.specs.Faces.{Face, face_at, head_of}
use Rattle.switch_core.specs.Order.{least_first}
use Rattle.switch_core.specs.SwitchSteps.{step_to, step_of_head, step_at, first_step, step_of}
use Rattle.switch_core.specs.declared.switch.Step.{Step}
use Rattle.switch_core.specs.declared.switch.Step.TheVariants.{Nothing}
use Rattle.switch_core.proofs.OrderLaws.{least_first-is, greatest_first-is}

-- What holds of no step, and of each step of a packet that is first at its port, holds of the first
-- step.
pub first_step_by : (Holds : Step → Type 0) (device : Registers) (faces : List Face)
    → Holds Nothing
    → ((port prio : ℕ) (packet : List ℕ) (step : Step) → port < device.ports
    → head_of (face_at faces port) prio ≡ Some packet
    → step_to device faces port packet (next_of device packet) ≡ Some step → Holds step)
    → Holds (step_of device faces)
first_step_by Holds device faces none some = by_found (first_step device faces) refl
  where
    by_head : (port prio : ℕ) (head : Option (List ℕ)) (step : Step) → port < device.ports
        → head_of (face_at faces port) prio ≡ head
        → step_of_head device faces port head ≡ Some step → Holds step
    by_head port prio None step there head is = absurd cc
    by_head port prio (Some packet) step there head is = some port prio packet step there head is

    by_found : (found : Option Step) → first_step device faces ≡ found
        → Holds (unwrap_or found Nothing)
    by_found None is = none
    by_found (Some step) is =
        let of_prio = greatest_first-is
        (λ prio. least_first (step_at device faces prio) device.ports) 4 step is in
        let at = least_first-is (step_at device faces of_prio.0) device.ports step of_prio.2 in
        by_head at.0 of_prio.0 (head_of (face_at faces at.0) of_prio.0) step at.1 refl at.2
