-- The fields of `Registers`, which hold what contracts see.
use Rattle.maint_registers.specs.declared.registers.Registers.TheInside.{Inside}
use Rattle.maint_registers.specs.Devices.{Registers}

abbrev pub device_of : Inside → Registers
device_of fields = record {
  kind = fields.kind;
  ports = fields.ports;
  linked = fields.linked;
  base_id = fields.base_id;
  large_id = fields.large_id;
  lock = fields.lock;
  tag = fields.tag;
  select = fields.select;
  routes = fields.routes;
  default_port = fields.default_port;
  standard = fields.standard;
}

abbrev pub inside_of : Registers → Inside
inside_of device = record {
  kind = device.kind;
  ports = device.ports;
  linked = device.linked;
  base_id = device.base_id;
  large_id = device.large_id;
  lock = device.lock;
  tag = device.tag;
  select = device.select;
  routes = device.routes;
  default_port = device.default_port;
  standard = device.standard;
}
