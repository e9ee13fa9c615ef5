use Rattle.fabric_maint.specs.declared.maint.FabricMaint.{FabricMaint}
use Rattle.fabric_maint.proofs.Making.{follows_itself}
use Rattle.fabric_maint.proofs.maint.FabricMaint.resting.Goals as goal

pub returns-clause-follows : goal.returns-clause-follows
returns-clause-follows g c =
    let maint : FabricMaint g.row.N.Denot g.row.K.Denot = record {
      fabric = c.args.fabric;
      script = c.args.script;
      host = c.args.host;
      noise = c.args.noise;
      sink = c.args.sink;
      tid = 0;
      undetected = 0;
    } in
    follows_itself g.N.Noise.edits g.K.Sink.written g.K.Sink.faults maint
