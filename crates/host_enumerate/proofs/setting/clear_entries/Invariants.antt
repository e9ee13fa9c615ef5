use Rattle.host_enumerate.proofs.Prelude.{◌≡◌, Some, PortRef, Registers, entered, Becomes, IsCleared, HasAnswered}
use Rattle.host_enumerate.proofs.setting.clear_entries.Given as goal

abbrev pub invariant-loop-id : goal.invariant-loop-id
invariant-loop-id g l = record {
  goes_on : HasAnswered g.M.Maint l.initial.maint l.maint;
  cleared : (at : PortRef)
      → entered (g.M.Maint.topology l.initial.maint) l.path ≡ Some at
      → (held : Registers)
      × Becomes (g.M.Maint.registers l.initial.maint) (g.M.Maint.registers l.maint) at.node held
      × IsCleared l.host_id l.id (g.M.Maint.registers l.initial.maint at.node) held;
}
