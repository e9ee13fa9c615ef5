use Rattle.host_contest.proofs.Prelude.{◌++◌, ◌∙◌, sym, ap, option_to_list, machine_of}
use Rattle.host_contest.proofs.Machines.{on_ok, gone_past}
use Rattle.host_contest.proofs.machine.Machine.+go_on.Goals as goal

pub returns-in-None : goal.returns-in-None
returns-in-None t c =
    on_ok c.go_on.result (λ gone view.
    gone view
    ∙ gone_past (machine_of view c.args.self.now) c.in-Some.top c.pop_front.new.self
    c.args.self.now.tried
    (c.pop_front.ensures.items
    ∙ ap (λ o. option_to_list o ++ c.pop_front.new.self) c.in-Some.is)
    (sym c.next_port.ensures ∙ c.in-None.is)) c.go_on.ensures
