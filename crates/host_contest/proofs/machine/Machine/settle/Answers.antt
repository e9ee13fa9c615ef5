use Rattle.host_contest.proofs.Prelude.{◌≡◌, true, ◌∙◌, sym, machine_of}
use Rattle.host_contest.proofs.Machines.{on_ok, no_length, settles}
use Rattle.host_contest.proofs.machine.Machine.settle.Goals as goal

pub returns-in-Features : goal.returns-in-Features
returns-in-Features c =
    let host : c.is_empty.result ≡ true = cc in
    let clear : c.is_empty-else-not-is_empty.result ≡ true = cc in
    on_ok c.number_host.result (λ numbered view.
    numbered view
    ∙ settles (machine_of view c.args.self.now)
    (no_length c.args.self.now.todo (sym c.is_empty-else-not-is_empty.ensures ∙ clear))
    c.in-Features.is
    (sym c.as_slice.ensures ∙ no_length c.as_slice.result.now (sym c.is_empty.ensures ∙ host)))
    c.number_host.ensures
