use Rattle.contest_machine.proofs.Prelude.{refl, opened-first, host_waiting, waiting_host}
use Rattle.contest_machine.proofs.examples.a_lock_is_read.Goals as goal

pub returns-clause-wanted : goal.returns-clause-wanted
returns-clause-wanted c = record {
  wanted = refl;
  keeps_on = λ same. cc;
  some = λ same. cc;
  leads = refl;
  opened = opened-first waiting_host.view host_waiting.registers waiting_host.id 0;
}

pub returns-clause-carried : goal.returns-clause-carried
returns-clause-carried c = record { ends = refl; not_host = λ same. cc; returns = refl }

pub returns-clause-not_itself : goal.returns-clause-not_itself
returns-clause-not_itself c = λ carried. carried.not_host refl
