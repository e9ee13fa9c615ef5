use Rattle.std.proofs.Common.{◌<◌, length, arith}
use Rattle.link_wires.proofs.SendLaws.{data_chars-one_more}
use Rattle.link_wires.proofs.sends.write_data.Goals as goal

pub loop-i-preserved : goal.loop-i-preserved
loop-i-preserved c =
    let below : c.loop-i.i < length c.loop-i.room = omega arith in
    let within : c.loop-i.i < length c.args.bytes.now = omega arith in
    data_chars-one_more c.loop-i.room c.args.bytes.now c.loop-i.i below within c.loop-i.invariant
