use Rattle.fabric_script.specs.declared.values.Value.TheVariants.{Counted}
use Rattle.io_script.specs.IoForms.{ReadSize}
use Rattle.io_script.proofs.IoTakes.{takes_io}
use Rattle.io_script.proofs.words.take_read_size.Goals as goal

pub returns : goal.returns
returns c = λ known.
    takes_io known ReadSize (λ n. Counted n) 0 c.args.word.now c.args.hit.now c.note.new.hit
    c.read_read_size.result c.note.result c.unwrap_or.result (c.read_read_size.ensures known)
    c.note.ensures.noted c.note.ensures.value c.unwrap_or.ensures
