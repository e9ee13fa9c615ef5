use Rattle.std.proofs.Common.{◌-◌, ◌∷◌, length, map, take, drop, ap, ◌∙◌}
use Rattle.std.specs.String.{string_bytes}
use Rattle.rio_conform.proofs.AskLaws.{asks_strictly}
use Rattle.rio_conform.proofs.PlayLaws.{front_any}
use Rattle.rio_conform.proofs.program.read_asked.Goals as goal

pub returns-in-len1-up-clause-asks : goal.returns-in-len1-up-clause-asks
returns-in-len1-up-clause-asks c =
    let words = c.args.words.now in
    let rest = take (length words - 1) (drop 1 words) in
    let strict = c.is_strict.ensures.0 c.if-is_strict.true in
    asks_strictly (map string_bytes words) (map string_bytes rest) c.read_plain.result
    (ap (map string_bytes) (front_any words c.first-item.result c.first-item.is
    c.in-len1-up.len_at_least)
    ∙ ap (λ l. l ∷ map string_bytes rest) strict)
    c.read_plain.ensures.asks
