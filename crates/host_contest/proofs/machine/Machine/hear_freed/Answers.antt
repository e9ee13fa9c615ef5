use Rattle.host_contest.proofs.Prelude.{◌-◌, take, ◌∙◌, ap, machine_of}
use Rattle.host_contest.proofs.Machines.{on_ok, all_but_last, freed_so}
use Rattle.host_contest.proofs.machine.Machine.hear_freed.Goals as goal

pub returns : goal.returns
returns c =
    on_ok c.free_last.result (λ freed view.
    freed_so (machine_of view c.args.self.now) (machine_of view c.free_last.new.self)
    c.truncate.new.self.items
    (c.truncate.ensures.items
    ∙ (ap (λ n. take n c.args.self.now.map.devices.items) (c.saturating_sub-others.ensures
    ∙ ap (λ n. n - 1) c.count.ensures)
    ∙ all_but_last c.args.self.now.map.devices.items)) (freed view)) c.free_last.ensures
