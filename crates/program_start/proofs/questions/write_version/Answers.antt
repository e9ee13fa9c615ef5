use Rattle.std.proofs.Common.{codes, false}
use Rattle.rio_chars.proofs.UnlessLaws.{WritesUnless-then}
use Rattle.program_start.proofs.questions.write_version.Goals as goal

pub returns : goal.returns
returns g c =
    let written = g.K.Sink.written in
    let faults = g.K.Sink.faults in
    let mid = c.write_unless-failed.new.sink in
    let last = c.write_unless.new.sink in
    WritesUnless-then false (written c.args.sink.now) (faults c.args.sink.now)
    c.write_unless-failed.result (written mid) (faults mid)
    c.write_unless.result (written last) (faults last) c.args.name.now
    (codes " 1.0.0, proved with rattle logic dac8208d650f15bf\n")
    c.write_unless-failed.ensures c.write_unless.ensures
