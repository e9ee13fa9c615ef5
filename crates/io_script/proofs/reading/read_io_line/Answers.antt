use Rattle.std.proofs.Common.{ap, ◌∙◌}
use Rattle.fabric_script.specs.Words.{first_word, words_left}
use Rattle.io_script.specs.declared.forms.IoForm.TheVariants as F
use Rattle.io_script.proofs.IoReadLaws.{read_as, reads_no_io_form, write_read_as}
use Rattle.io_script.proofs.reading.read_io_line.Goals as goal

pub returns-in_default : goal.returns-in_default
returns-in_default c = λ known is.
    rw c.unknown.ensures (reads_no_io_form known c.args.earlier c.args.text.now
    (λ form same. c.in_default.ensures form (same ∙ ap first_word c.split_word.ensures)))

pub returns-in-Memory : goal.returns-in-Memory
returns-in-Memory c = λ known is.
    read_as known c.args.fabric.names.now c.args.fabric.switches.now c.args.fabric.links
    c.args.earlier c.args.text.now c.split_word.result.0.now (words_left c.split_word.result.1)
    c.in-Some.form F.Memory c.hit-hit.result c.read_memory.result is c.split_word.ensures
    c.in-Some.ensures c.in-Memory.is c.hit-hit.ensures (c.read_memory.ensures known is)

pub returns-in-NRead : goal.returns-in-NRead
returns-in-NRead c = λ known is.
    read_as known c.args.fabric.names.now c.args.fabric.switches.now c.args.fabric.links
    c.args.earlier c.args.text.now c.split_word.result.0.now (words_left c.split_word.result.1)
    c.in-Some.form F.NRead c.hit-hit.result c.read_read.result is c.split_word.ensures
    c.in-Some.ensures c.in-NRead.is c.hit-hit.ensures (c.read_read.ensures known is)

pub returns-in-NWrite : goal.returns-in-NWrite
returns-in-NWrite c =
    write_read_as c.args.fabric.names.now c.args.fabric.switches.now c.args.fabric.links
    c.args.earlier c.args.text.now c.split_word.result.0.now (words_left c.split_word.result.1)
    c.in-Some.form c.hit-hit.result c.read_write.result c.split_word.ensures c.in-Some.ensures
    c.hit-hit.ensures c.read_write.ensures

pub returns-in-Round : goal.returns-in-Round
returns-in-Round c = λ known is.
    read_as known c.args.fabric.names.now c.args.fabric.switches.now c.args.fabric.links
    c.args.earlier c.args.text.now c.split_word.result.0.now (words_left c.split_word.result.1)
    c.in-Some.form F.Round c.hit-hit.result c.read_round.result is c.split_word.ensures
    c.in-Some.ensures c.in-Round.is c.hit-hit.ensures (c.read_round.ensures known)
