use Rattle.host_contest.proofs.Prelude.{◌∙◌, sym, ap, length, told_at, machine_of}
use Rattle.host_contest.proofs.Machines.{on_ok, short_up, bounded_at}
use Rattle.host_contest.proofs.machine.Machine.hear.Goals as goal

pub hear_status-requires : goal.hear_status-requires
hear_status-requires c =
    short_up (length c.args.self.now.map.devices.items) 64 c.args.self.now.tried c.requires.few
    (bounded_at c.args.self.now.stage c.args.self.now.map.devices.items c.args.self.now.id
    c.args.self.now.next c.args.self.now.path c.args.self.now.tried c.in-Status.is
    c.requires.bounded)

pub returns-in-Claim : goal.returns-in-Claim
returns-in-Claim c =
    on_ok c.hear_write.result (λ heard view.
    heard view ∙ ap (told_at (machine_of view c.args.self.now) c.args.value) (sym c.in-Claim.is))
    c.hear_write.ensures

pub returns-in-Information : goal.returns-in-Information
returns-in-Information c =
    on_ok c.hear_ports.result (λ heard view.
    heard view
    ∙ ap (told_at (machine_of view c.args.self.now) c.args.value) (sym c.in-Information.is))
    c.hear_ports.ensures
