use Rattle.host_contest.proofs.Prelude.{◌∙◌, ◌==◌, eq-eqb, taken, judged, machine_of}
use Rattle.host_contest.proofs.Machines.{on_ok, choose}
use Rattle.host_contest.proofs.machine.Machine.hear_claim.Goals as goal

pub returns-then-lock-from : goal.returns-then-lock-from
returns-then-lock-from c =
    on_ok c.keep.result (λ kept view.
    kept view
    ∙ choose (c.args.lock == c.args.self.now.id) (taken (machine_of view c.args.self.now))
    (judged (machine_of view c.args.self.now) c.args.lock)
    (eq-eqb c.args.lock c.args.self.now.id (c.if-lock-from.true ∙ c.from.ensures))) c.keep.ensures
