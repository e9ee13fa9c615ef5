use Rattle.fabric_ports.proofs.FlushLaws.{nothing_told}
use Rattle.fabric_ports.proofs.fabric.Fabric.ask.Goals as goal

pub returns-in_err-buffer-clause-ended : goal.returns-in_err-buffer-clause-ended
returns-in_err-buffer-clause-ended g c =
    nothing_told c.args.names.now (g.K.Sink.written c.args.sink.now) c.args.host c.args.request.now
    (g.N.Noise.edits c.args.noise.now) c.args.self.now c.show_request.ensures.0
    c.from_residual.result c.show_request.ensures.1 c.from_residual.ensures.1
