use Rattle.std.proofs.Common.{◌==◌, not, rules}
use Rattle.std.proofs.lemmas.Fn.{filter_same}
use Rattle.fabric_script.proofs.known.Known.set_large_id.Goals as goal

pub returns : goal.returns
returns c =
    let kept = filter_same _ (λ pair. not (pair.0 == c.args.node)) _ (λ x b f' k. search rules)
    _ _ c.retain.ensures.filtered in
    search (rules, kept)
