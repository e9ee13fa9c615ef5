use Rattle.std.proofs.Common.{◌<◌, arith, ◌∙◌}
use Rattle.rio_chars.proofs.DataTexts.{text_bytes}
use Rattle.rio_chars.proofs.runs.data_word.Goals as goal

pub returns : goal.returns
returns c =
    let below : c.args.byte < 256 = omega arith in
    c.to_le_bytes.ensures ∙ rw c.from.ensures (text_bytes c.args.byte _ below)
