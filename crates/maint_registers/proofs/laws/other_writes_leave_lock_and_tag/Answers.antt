use Rattle.maint_registers.proofs.BesideLaws.{lock-stays, tag-stays}
use Rattle.maint_registers.proofs.laws.other_writes_leave_lock_and_tag.Goals as goal

pub returns : goal.returns
returns c = record { lock = lock-stays; tag = tag-stays }
