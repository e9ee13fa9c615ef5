use Rattle.host_contest.proofs.Prelude.{◌≤◌, List, length, sym, subst, Device, machine_of}
use Rattle.host_contest.proofs.Machines.{no_view, same_devices, set_up_so}
use Rattle.host_contest.proofs.machine.Machine.set_up.Goals as goal

pub push_device-requires : goal.push_device-requires
push_device-requires c = record {
  few = subst (λ (d : List Device). length d ≤ 64)
      (sym (same_devices (machine_of no_view c.args.self.now)
      (machine_of no_view c.set_home.new.self) (machine_of no_view c.try_ports.new.self)
      c.args.ports c.args.entry (c.in_ok-set_home.ensures no_view)
      (c.in_ok-try_ports.ensures no_view)))
      c.requires.few;
}

pub returns : goal.returns
returns c view =
    set_up_so (machine_of view c.args.self.now) (machine_of view c.set_home.new.self)
    (machine_of view c.try_ports.new.self) (machine_of view c.push_device.new.self) c.args.ports
    c.args.entry (c.in_ok-set_home.ensures view) (c.in_ok-try_ports.ensures view)
    (c.in_ok-push_device.ensures view)
