use Rattle.fabric_script.specs.declared.values.Value.TheVariants.{Bytes}
use Rattle.io_script.specs.IoTaking.{data_field}
use Rattle.io_script.proofs.IoTakes.{takes_io}
use Rattle.io_script.proofs.words.take_load.Goals as goal

pub returns : goal.returns
returns c = λ known.
    takes_io known (data_field c.args.stream) (λ load. Bytes load) c.of_bytes.result
    c.args.word.now c.args.hit.now c.note.new.hit c.in_ok-read.read c.note.result
    c.unwrap_or.result (c.in_ok-read.ensures known) c.note.ensures.noted c.note.ensures.value
    c.unwrap_or.ensures
