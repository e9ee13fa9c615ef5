use Rattle.std.proofs.Common.{inr}
use Rattle.io_script.specs.IoTaking.{NoMoreIo, MoreIo}
use Rattle.io_script.proofs.IoReadLaws.{written_words}
use Rattle.io_script.proofs.reading.read_write.Goals as goal

pub returns : goal.returns
returns c = λ known is.
    let last = c.take_load.new.hit in
    let load = rw c.is_streaming.ensures at c.in_ok-load.ensures known in
    let taken = written_words known c.args.form c.write_of.result _ _ c.args.hit last
    c.take_endpoint-node.result c.take_device-dest.result c.take_address-addr.result
    c.in_ok-load.load
    c.requires.write c.write_of.ensures.values c.in-Some.ensures
    (MoreIo (c.take_endpoint-node.ensures known is)
    (MoreIo (c.take_device-dest.ensures known)
    (MoreIo (c.take_address-addr.ensures known) (MoreIo load NoMoreIo)))) in
    inr (c.write_of.result, last, c.write_of.ensures.form, taken, c.end.ensures)
