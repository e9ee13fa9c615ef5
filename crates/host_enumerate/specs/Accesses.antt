-- What an access to a register of a device answers, and what it leaves.
use Rattle.std.specs.Prelude.{◌≡◌, ◌≢◌, ℕ, ◌==◌, Option, Some, unwrap_or, if◌then◌else◌}
use Rattle.fabric_script.specs.declared.ports.PortRef.{PortRef}
use Rattle.fabric_script.specs.Ports.{port_at}
use Rattle.maint_registers.specs.Devices.{Registers}
use Rattle.maint_registers.specs.Access.{Accessed, read_from, write_into, access_status}
use Rattle.fabric_map.specs.Topology.{Topology}
use Rattle.fabric_map.specs.Routes.{AllRegisters, walk}
use Rattle.host_enumerate.specs.declared.maint.Access.{Access}
use Rattle.host_enumerate.specs.declared.maint.Access.TheVariants.{Read, Write}
use Rattle.host_enumerate.specs.declared.maint.Answer.{Answer}

-- an answer, and the registers after it
pub record AccessAnswered : Type 0 where
  pub answer : Answer
  pub device : Registers

-- the answer to an access that gives this value, if it is carried out
abbrev pub access_answer : Option ℕ → Answer
access_answer value = record { status = access_status value; value = unwrap_or value 0 }

abbrev pub access_answered : Accessed → AccessAnswered
access_answered accessed =
    record { answer = access_answer accessed.value; device = accessed.device }

-- a device answers an access that came to a port
abbrev pub answered : Registers → ℕ → Access → AccessAnswered
answered device port (Read offset) = access_answered (read_from device offset port)
answered device port (Write offset value) = access_answered (write_into device offset value)

abbrev pub access_offset : Access → ℕ
access_offset (Read offset) = offset
access_offset (Write offset value) = offset

-- the registers, with these for one device
abbrev pub registers_with : AllRegisters → ℕ → Registers → AllRegisters
registers_with registers node device other = if other == node then device else registers other

-- the registers after an access to the device of a port
abbrev pub after_access : AllRegisters → PortRef → Access → AllRegisters
after_access registers at access =
    registers_with registers at.node (answered (registers at.node) at.port access).device

-- A request for this destination with so many hops ends at the device of this port, which is not
-- the host, and the answer comes back to the host by the tables as the access leaves them.
pub record IsAnswered (topology : Topology) (registers : AllRegisters) (dest hops : ℕ)
    (access : Access) (at : PortRef) : Type 0 where
  pub ends : walk topology registers dest hops (port_at topology.host 0) ≡ Some at
  pub not_host : at.node ≢ topology.host
  pub returns : walk topology (after_access registers at access)
      (registers topology.host).base_id 255 at
      ≡ Some (port_at topology.host 0)
