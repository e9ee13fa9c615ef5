use Rattle.std.proofs.Common.{sym, subst}
use Rattle.fabric_ports.specs.OwnRegisters.{HasDevice, StandardShown}
use Rattle.fabric_ports.proofs.fabric.Fabric.show_standard.Goals as goal

pub show_standard_at-requires : goal.show_standard_at-requires
show_standard_at-requires c = record {
  device = subst (HasDevice c.args.self.now) (sym c.from.ensures) c.requires.device;
}

pub returns : goal.returns
returns c = λ from lines stands.
    subst (λ n. StandardShown n from lines c.show_standard_at.new.self) c.from.ensures
    (c.show_standard_at.ensures from lines stands)
