-- The numbers of the states of an input (RapidIO Interconnect Specification 1.3, Part 6,
-- link-response).
use Rattle.std.specs.Prelude.{ℕ}
use Rattle.link_model.specs.declared.symbols.PortStatus.{PortStatus}
use Rattle.link_model.specs.declared.symbols.PortStatus.TheVariants as Status

abbrev pub port_status_number : PortStatus → ℕ
port_status_number Status.RetryStopped = 4
port_status_number Status.ErrorStopped = 5
port_status_number Status.Ok = 16
