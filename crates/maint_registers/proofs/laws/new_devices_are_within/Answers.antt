use Rattle.maint_registers.proofs.WithinLaws.{new_endpoint_within, new_switch_within}
use Rattle.maint_registers.proofs.laws.new_devices_are_within.Goals as goal

pub returns : goal.returns
returns c = record { endpoint = new_endpoint_within; switch = new_switch_within }
