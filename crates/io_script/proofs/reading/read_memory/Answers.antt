use Rattle.std.proofs.Common.{inr, refl, sym, subst}
use Rattle.io_script.specs.declared.forms.IoForm.TheVariants as F
use Rattle.io_script.specs.declared.lines.IoLine.TheVariants.{Memory}
use Rattle.io_script.specs.IoForms.{io_fields_of}
use Rattle.io_script.specs.IoLines.{io_values_of}
use Rattle.io_script.specs.IoTaking.{NoMoreIo, MoreIo, TakesAllIo}
use Rattle.io_script.proofs.reading.read_memory.Goals as goal

pub returns : goal.returns
returns c = λ known is.
    let last = c.take_memory_size-bytes.new.hit in
    let line = Memory c.take_endpoint-node.result c.take_memory_size-bytes.result in
    let taken = subst
    (λ words. TakesAllIo known (io_fields_of F.Memory) (io_values_of line) words c.args.hit last)
    (sym c.in-Some.ensures)
    (MoreIo (c.take_endpoint-node.ensures known is)
    (MoreIo (c.take_memory_size-bytes.ensures known) NoMoreIo)) in
    inr (line, last, refl, taken, c.end.ensures)
