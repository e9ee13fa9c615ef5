use Rattle.host_contest.proofs.Prelude.{◌≡◌, false, machine_is_done}
use Rattle.host_contest.proofs.Machines.{no_view, new_is_not_done}
use Rattle.host_contest.proofs.walker.Walker.new.Goals as goal

pub returns-clause-entries : goal.returns-clause-entries
returns-clause-entries c done =
    let not : machine_is_done c.new.result ≡ false =
    new_is_not_done c.new.result c.args.id (c.new.ensures.machine no_view) in
    absurd (cc)
