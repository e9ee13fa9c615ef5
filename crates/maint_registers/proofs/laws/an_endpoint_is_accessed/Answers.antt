use Rattle.std.proofs.Common.{refl}
use Rattle.maint_registers.proofs.laws.an_endpoint_is_accessed.Goals as goal

pub returns : goal.returns
returns c = record { read = refl; taken = refl; refused = refl }
