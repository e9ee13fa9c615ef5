use Rattle.std.proofs.Common.{sym, ◌∙◌, arith}
use Rattle.fabric_script.proofs.NameLaws.{is_name-rest}
use Rattle.fabric_script.proofs.names.is_name.Goals as goal

pub returns : goal.returns
returns c =
    let letter = sym c.if-not-is_letter.ensures in
    c.are_letters_or_digits.ensures
    ∙ sym (is_name-rest c.args.word.now c.in-len1-up.len_at_least letter (omega arith))
