use Rattle.std.proofs.Common.{List, ℕ, ap, ◌∙◌, slice_get}
use Rattle.trace_check.proofs.LackLaws.{first_in}
use Rattle.trace_check.proofs.TableLaws.{table_read}
use Rattle.trace_check.proofs.network.Network.first_lent.Goals as goal

pub returns-then-place-len : goal.returns-then-place-len
returns-then-place-len c = λ nodes net is is_in.
    let lent = table_read is.lent is_in c.place_of-place.ensures c.index.ensures in
    c.first_of.ensures ∙ ap (λ (l : List (List ℕ)). slice_get l 0) lent
    ∙ first_in (net.lent c.args.port)
