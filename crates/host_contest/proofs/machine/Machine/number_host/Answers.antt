use Rattle.host_contest.proofs.Prelude.{◌∙◌, ap, machine_of}
use Rattle.fabric_map.specs.Walked.{onward}
use Rattle.host_contest.proofs.Machines.{host_moved}
use Rattle.host_contest.proofs.machine.Machine.number_host.Goals as goal

pub returns : goal.returns
returns c view =
    host_moved (machine_of view c.args.self.now) (machine_of view c.push_device.new.self)
    c.onward-self.result (c.in_ok-push_device.ensures view)
    (c.onward-self.ensures ∙ ap (λ p. onward p 0) c.of_host.ensures)
