use Rattle.host_contest.proofs.Prelude.{◌∙◌, ◌==◌, eq-eqb, taken, gone_on, machine_of}
use Rattle.host_contest.proofs.Machines.{on_ok, choose}
use Rattle.host_contest.proofs.machine.Machine.hear_tag.Goals as goal

pub returns-then-tag-eq0 : goal.returns-then-tag-eq0
returns-then-tag-eq0 c =
    on_ok c.keep.result (λ kept view.
    kept view
    ∙ choose (c.args.tag == 0) (taken (machine_of view c.args.self.now))
    (gone_on (machine_of view c.args.self.now) c.args.self.now.tried)
    (eq-eqb c.args.tag 0 c.if-tag-eq0.true))
    c.keep.ensures
