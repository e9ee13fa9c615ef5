use Rattle.host_enumerate.proofs.Preparing.{is_endpoint, is_a_switch, same_askable}
use Rattle.host_enumerate.proofs.taking.prepare.Goals as goal

pub number-requires-clause-askable : goal.number-requires-clause-askable
number-requires-clause-askable g c =
    let at = c.requires.askable.0 in
    let old = g.M.Maint.registers c.args.maint.now in
    let found = same_askable
    (g.M.Maint.registers c.read.new.maint) c.in_ok-features.ensures.went.topology
    c.in_ok-features.ensures.registers c.requires.askable.1 c.requires.askable.2
    (is_endpoint (old at.node) at.port
    (c.in_ok-features.ensures.value at c.requires.askable.1.leads) c.if-features-eq0.true) in
    (at, found.0, found.1, found.2)

pub send_home-requires-clause-askable : goal.send_home-requires-clause-askable
send_home-requires-clause-askable g c =
    let at = c.requires.askable.0 in
    let old = g.M.Maint.registers c.args.maint.now in
    let found = same_askable
    (g.M.Maint.registers c.read.new.maint) c.in_ok-features.ensures.went.topology
    c.in_ok-features.ensures.registers c.requires.askable.1 c.requires.askable.2
    (is_a_switch (old at.node) at.port
    (c.in_ok-features.ensures.value at c.requires.askable.1.leads) c.if-features-eq0.false) in
    (at, found.0, found.1, found.2)
