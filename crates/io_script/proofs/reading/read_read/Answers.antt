use Rattle.std.proofs.Common.{inr, refl, sym, subst}
use Rattle.io_script.specs.declared.forms.IoForm.TheVariants as F
use Rattle.io_script.specs.declared.lines.IoLine.TheVariants.{NRead}
use Rattle.io_script.specs.IoForms.{io_fields_of}
use Rattle.io_script.specs.IoLines.{io_values_of}
use Rattle.io_script.specs.IoTaking.{NoMoreIo, MoreIo, TakesAllIo}
use Rattle.io_script.proofs.reading.read_read.Goals as goal

pub returns : goal.returns
returns c = λ known is.
    let last = c.take_read_size-size.new.hit in
    let line = NRead c.take_endpoint-node.result c.take_device-dest.result
    c.take_address-addr.result c.take_read_size-size.result in
    let taken = subst
    (λ words. TakesAllIo known (io_fields_of F.NRead) (io_values_of line) words c.args.hit last)
    (sym c.in-Some.ensures)
    (MoreIo (c.take_endpoint-node.ensures known is)
    (MoreIo (c.take_device-dest.ensures known)
    (MoreIo (c.take_address-addr.ensures known)
    (MoreIo (c.take_read_size-size.ensures known) NoMoreIo)))) in
    inr (line, last, refl, taken, c.end.ensures)
