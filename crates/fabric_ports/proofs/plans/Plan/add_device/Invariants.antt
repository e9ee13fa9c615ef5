use Rattle.std.proofs.Common.{◌≡◌, ◌++◌, replicate}
use Rattle.fabric_ports.specs.Plans.{plain_port}
use Rattle.fabric_ports.proofs.plans.Plan.add_device.Given as goal

abbrev pub invariant-loop : goal.invariant-loop
invariant-loop l = record {
  ports : l.self.ports.items ≡ l.fn.self.ports.items ++ replicate l.counter plain_port;
  devices : l.self.devices ≡ l.fn.self.devices;
  firsts : l.self.firsts ≡ l.initial.self.firsts;
  cables : l.self.cables ≡ l.fn.self.cables;
  end : l.end ≡ l.device.ports;
}
