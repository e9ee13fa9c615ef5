use Rattle.std.proofs.Common.{◌≡◌, ◌+◌, ◌≤◌, length, sym, subst, rules}
use Rattle.live_fabric.proofs.AddedLaws.{added_one, anew_few}
use Rattle.live_fabric.proofs.AnsweringLaws.{on_each}
use Rattle.live_fabric.proofs.more_set_up.read_added.Goals as goal

pub returns-then-count-clause-read : goal.returns-then-count-clause-read
returns-then-count-clause-read c =
    let total : c.args.text.now.count ≡ c.args.count + 1 = search rules in
    on_each _ _ c.read_more.result
    (λ reason read. added_one c.args.text.now.bytes.items c.args.line.now c.args.count
    c.args.text.now.count c.args.set_up.now c.read_more.new.set_up reason total
    c.requires.says read)
    c.read_more.ensures.read

pub returns-else-count-clause-links : goal.returns-else-count-clause-links
returns-else-count-clause-links c =
    let old = c.args.set_up.now in
    let new = c.read_anew.new.set_up in
    let few = subst (λ text. length old.known.links ≤ length text) (sym c.as_slice.ensures)
    c.requires.room in
    subst (λ text. length new.known.links ≤ length text + 1) c.as_slice.ensures
    (anew_few c.as_slice.result.now old new c.read_anew.result few c.read_anew.ensures.read
    c.read_anew.ensures.failed)
