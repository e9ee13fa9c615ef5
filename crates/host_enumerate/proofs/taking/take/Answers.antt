use Rattle.std.proofs.Common.{◌∙◌}
use Rattle.host_enumerate.proofs.Holders.{askable-same, lock_is, lock_fits, tag_answers, lock-writable}
use Rattle.host_enumerate.proofs.taking.take.Goals as goal

pub write-requires-clause-askable : goal.write-requires-clause-askable
write-requires-clause-askable g c =
    let at = c.requires.askable.0 in
    let topology = g.M.Maint.topology c.args.maint.now in
    let now = g.M.Maint.topology c.read.new.maint in
    let old = g.M.Maint.registers c.args.maint.now in
    let new = g.M.Maint.registers c.read.new.maint in
    let free = lock_is (old at.node) at.port
    (c.in_ok-lock.ensures.value at c.requires.askable.1.leads) ∙ c.if-lock-eq-FREE.true in (
      c.args.host_id,
      at,
      record (new at.node) { lock = c.args.host_id },
      askable-same new
          c.in_ok-lock.ensures.went.topology c.in_ok-lock.ensures.registers c.requires.askable.1,
      lock-writable old new c.args.path.now at
          c.in_ok-lock.ensures.went.topology c.in_ok-lock.ensures.registers free c.from.ensures
          c.ranges.host_id.fits (c.requires.askable.2 free),
    )

pub overflow_cast-result : goal.overflow_cast-result
overflow_cast-result g c = record {
  fits = lock_fits c.args.path.now (g.M.Maint.whole_is_proper c.args.maint.now c.requires.whole)
      (g.M.Maint.whole_fits c.args.maint.now c.requires.whole) c.requires.askable.1.leads
      (c.in_ok-lock.ensures.value c.requires.askable.0 c.requires.askable.1.leads);
}

pub read-requires-2-clause-askable : goal.read-requires-2-clause-askable
read-requires-2-clause-askable g c =
    let at = c.requires.askable.0 in (
      c.args.host_id,
      at,
      askable-same (g.M.Maint.registers c.read.new.maint) c.in_ok-lock.ensures.went.topology
          c.in_ok-lock.ensures.registers c.requires.askable.1,
      tag_answers (g.M.Maint.registers c.read.new.maint at.node) at.port,
    )
