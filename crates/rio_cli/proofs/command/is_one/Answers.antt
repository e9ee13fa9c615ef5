use Rattle.std.proofs.Common.{◌≡◌, length, arith}
use Rattle.std.specs.String.{string_bytes}
use Rattle.std.proofs.lemmas.Slice.Eq.{bytes_eq-Decides}
use Rattle.rio_cli.proofs.AnswerLaws.{one_text}
use Rattle.rio_cli.proofs.command.is_one.Goals as goal

pub returns-in-len1 : goal.returns-in-len1
returns-in-len1 c =
    let one : length c.args.words.now ≡ 1 = omega arith in
    one_text string_bytes c.args.words.now c.word-item.result c.args.wanted.now c.as_str.result.now
    c.eq.result one c.word-item.is c.as_str.ensures.value
    (rw c.eq.ensures (bytes_eq-Decides c.as_str.result.now c.args.wanted.now))
