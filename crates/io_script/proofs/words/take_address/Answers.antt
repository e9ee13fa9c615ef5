use Rattle.fabric_script.specs.declared.values.Value.TheVariants.{InDigits}
use Rattle.io_script.specs.IoForms.{Address}
use Rattle.io_script.proofs.IoTakes.{takes_io}
use Rattle.io_script.proofs.words.take_address.Goals as goal

pub returns : goal.returns
returns c = λ known.
    takes_io known Address (λ n. InDigits 8 n) 0 c.args.word.now c.args.hit.now c.note.new.hit
    c.read_address.result c.note.result c.unwrap_or.result (c.read_address.ensures known)
    c.note.ensures.noted c.note.ensures.value c.unwrap_or.ensures
