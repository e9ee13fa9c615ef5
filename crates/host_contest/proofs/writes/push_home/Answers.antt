use Rattle.host_contest.proofs.Prelude.{◌++◌, ◌∷◌, [], ◌∙◌, ap, write, entry_set, cleared_below}
use Rattle.host_contest.proofs.Machines.{on_ok, home_joined}
use Rattle.host_contest.proofs.writes.push_home.Goals as goal

pub returns : goal.returns
returns c =
    on_ok c.push_entry.result (λ set.
    set ∙ (ap (λ l. l ++ entry_set c.args.path.now c.args.host_id c.args.entry)
    (c.in_ok-push_cleared.ensures
    ∙ ap (λ l. l ++ cleared_below c.args.path.now c.args.host_id 63)
    (c.in_ok-push_write.ensures
    ∙ ap (λ v. c.args.todo.now ++ write c.args.path.now 0x78 v ∷ []) c.from.ensures))
    ∙ home_joined c.args.todo.now (cleared_below c.args.path.now c.args.host_id 63)
    (entry_set c.args.path.now c.args.host_id c.args.entry)
    (write c.args.path.now 0x78 c.args.entry))) c.push_entry.ensures
