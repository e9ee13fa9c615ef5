-- What the step of a switch is over the list in which its ports stand, and what is written of it.
use Rattle.std.specs.Prelude.{◌≡◌, ℕ, ◌+◌, Bool, true, false, List, [], ◌++◌, take, drop}
use Rattle.rio_packets.specs.LinkForm.{Passes}
use Rattle.link_port.specs.Ports.{PortState, AreAlike}
use Rattle.maint_registers.specs.Devices.{Registers, IsSameDevice}
use Rattle.switch_core.specs.Faces as faces
use Rattle.switch_core.specs.SwitchSteps.{step_of, faces_after, switch_after}
use Rattle.switch_core.specs.declared.switch.Step.{Step}
use Rattle.switch_core.specs.declared.switch.Step.TheVariants.{Moved, Dropped, Answered, Nothing}
use Rattle.trace_lines.specs.Lines.{TraceLine}
use Rattle.fabric_trace.specs.Served.{step_lines}
use Rattle.trace_lines.specs.Writing.{Adds}
use Rattle.trace_lines.specs.declared.writer.TraceWriter.{TraceWriter}

-- the lists of ports
abbrev pub faces_at : List PortState → List faces.Face
faces_at ports =
    faces.faces_of (λ (port : PortState). port.received.lists) (λ (port : PortState). port.queued)
    ports

-- so many ports from a place on
abbrev pub own_ports : List PortState → ℕ → ℕ → List PortState
own_ports ports first count = take count (drop first ports)

-- its packets are ones in their link form
abbrev pub AreForms : Step → Type 0
AreForms (Moved from to packet) = Passes packet
AreForms (Dropped from packet) = Passes packet
AreForms (Answered port request response) = Passes request × Passes response
AreForms Nothing = Unit {0}

-- The ports of a device, which stand in a list from a place on, made its first step. The other
-- ports are as they were.
pub record MadeStep (first : ℕ) (device next : Registers) (old new : List PortState) (step : Step)
    : Type 0 where
  pub own : List PortState
  pub made : step ≡ step_of device (faces_at (own_ports old first device.ports))
  pub lists : faces_at own ≡ faces_after (faces_at (own_ports old first device.ports)) step
  pub alike : faces.AllAlike AreAlike (own_ports old first device.ports) own
  pub ports : new ≡ take first old ++ (own ++ drop (first + device.ports) old)
  pub registers : next ≡ switch_after device step
  pub same : IsSameDevice device next

-- whether it is a step
abbrev pub is_step : Step → Bool
is_step Nothing = false
is_step _ = true

-- what is written of it: nothing if there is none
abbrev pub written_lines : ℕ → Step → List TraceLine
written_lines node Nothing = []
written_lines node step = step_lines node step

-- The step was written, and its packets are ones in their link form. It is told whether it is one.
pub record Wrote (node : ℕ) (step : Step) {K : Type 0} (old new : TraceWriter K) (told : Bool)
    : Type 0 where
  pub forms : AreForms step
  pub is : told ≡ is_step step
  pub adds : Adds old new (written_lines node step)
