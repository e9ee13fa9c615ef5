use Rattle.std.proofs.Common.{◌∙◌}
use Rattle.link_port.specs.Steps.{takes}
use Rattle.fabric_ports.proofs.OutsidePorts.{moves_written}
use Rattle.fabric_ports.proofs.outside.take_char.Goals as goal

pub returns-clause-told : goal.returns-clause-told
returns-clause-told g c =
    moves_written c.args.port (takes c.args.end.now c.args.c) c.take-taken.result.held
    c.as_slice.result.now c.take-taken.ensures.held
    (c.as_slice.ensures.value ∙ c.take-taken.ensures.freed) c.write_held.ensures
    c.write_freed.ensures
