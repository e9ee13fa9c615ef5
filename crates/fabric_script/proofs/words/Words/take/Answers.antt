use Rattle.fabric_script.specs.Texts.{Counted}
use Rattle.fabric_script.proofs.Taking.{takes}
use Rattle.fabric_script.proofs.words.Words.take.Goals as goal

pub returns : goal.returns
returns c =
    takes c.args.known.now c.args.field (Counted 0) c.args.self.now c.word-word.new.self
    c.note.new.self c.word-word.result.now c.in_ok-read.read c.note.result c.unwrap_or.result
    c.word-word.ensures.word c.word-word.ensures.rest c.in_ok-read.ensures c.note.ensures.noted
    c.note.ensures.value c.unwrap_or.ensures
