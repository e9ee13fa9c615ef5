use Rattle.std.proofs.Common.{◌++◌, codes, ap, ◌∙◌, append_assoc}
use Rattle.rio_chars.specs.HexText.{hex_of}
use Rattle.check_words.proofs.HintLaws.{hint-joined}
use Rattle.check_words.proofs.misfit_texts.push_crcs.Goals as goal

pub returns : goal.returns
returns c =
    let old = c.args.message.now.items in
    let there = hex_of c.args.there.now in
    let right = hex_of c.args.right.now in
    let between = codes ", and the right one is " in
    hint-joined c.push_hex-2.result old c.extend_from_slice.new.self.items
    c.push_hex-2.new.message.items (there ++ between) right (there ++ (between ++ right))
    c.push_hex-2.ensures
    (c.in_ok-extend_from_slice.ensures.items ∙ ap (λ m. m ++ between) c.in_ok-push_hex.ensures
    ∙ append_assoc old there between) (append_assoc there between right)
