use Rattle.host_contest.proofs.Prelude.{◌++◌, ◌∙◌, ap, option_to_list, machine_of}
use Rattle.host_contest.proofs.Machines.{on_ok, told_write}
use Rattle.host_contest.proofs.machine.Machine.told.Goals as goal

pub returns-in-Some : goal.returns-in-Some
returns-in-Some c =
    on_ok c.settle.result (λ settled view.
    settled view
    ∙ told_write (machine_of view c.args.self.now) c.args.value c.in-Some.field-0
    c.pop_front.new.self
    (c.pop_front.ensures.items
    ∙ ap (λ o. option_to_list o ++ c.pop_front.new.self) c.in-Some.is)) c.settle.ensures
