use Rattle.fabric_script.specs.declared.values.Value.TheVariants.{Node as NodeValue}
use Rattle.io_script.specs.IoForms.{AnEndpoint}
use Rattle.io_script.proofs.IoTakes.{takes_io}
use Rattle.io_script.proofs.words.take_endpoint.Goals as goal

pub returns : goal.returns
returns c = λ known is.
    takes_io known AnEndpoint (λ n. NodeValue n) 0 c.args.word.now c.args.hit.now c.note.new.hit
    c.read_endpoint.result c.note.result c.unwrap_or.result (c.read_endpoint.ensures known is)
    c.note.ensures.noted c.note.ensures.value c.unwrap_or.ensures
