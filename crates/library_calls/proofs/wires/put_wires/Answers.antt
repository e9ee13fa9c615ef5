use Rattle.library_calls.proofs.WireLaws.{wires-more}
use Rattle.library_calls.proofs.wires.put_wires.Goals as goal

pub loop-i-preserved : goal.loop-i-preserved
loop-i-preserved c =
    wires-more c.args.chars.now c.loop-i.room c.args.room.now c.loop-i.i c.char_wire.result _
    c.loop-i-test.true c.requires c.loop-i.invariant c.char_wire.ensures
