use Rattle.maint_registers.proofs.SameLaws.{write_same}
use Rattle.maint_registers.proofs.laws.writes_leave_large_id.Goals as goal

pub returns : goal.returns
returns c device offset value = (write_same device offset value).large_id
