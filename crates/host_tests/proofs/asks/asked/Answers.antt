use Rattle.std.proofs.Common.{[], codes, length, arith, sym, ap, ◌∙◌, subst}
use Rattle.fabric_trace.specs.Runs.{start}
use Rattle.host_enumerate.specs.Devised.{devices_of, links_of}
use Rattle.host_enumerate.specs.Hosts.{FindsHost}
use Rattle.host_enumerate.proofs.NewFabrics.{devised_fabric}
use Rattle.fabric_maint.proofs.Starting.{start_devices, rests_new}
use Rattle.host_tests.proofs.asks.asked.Goals as goal

pub ask-requires-clause-can : goal.ask-requires-clause-can
ask-requires-clause-can c =
    let script = c.in-Ok.script in
    let lines = script.lines.items in
    let is = (subst (FindsHost script.names.items (devices_of lines) (links_of lines) (codes "H"))
    c.in-Ok-Ok.field-0-is c.in-Ok-Ok.ensures).1 in (
      start lines,
      [],
      (rests_new script.names.items lines c.in-Ok-Ok.host c.in-Ok-new.fabric
          c.in-Ok.ensures.passes is c.in-Ok-new.ensures.stands).can,
    )

pub ask-requires-clause-few : goal.ask-requires-clause-few
ask-requires-clause-few c =
    let script = c.in-Ok.script in
    let lines = script.lines.items in
    let is = (subst (FindsHost script.names.items (devices_of lines) (links_of lines) (codes "H"))
    c.in-Ok-Ok.field-0-is c.in-Ok-Ok.ensures).1 in
    let most = (devised_fabric script.names.items lines c.in-Ok-Ok.host c.in-Ok.ensures.passes
    is).topology.most in
    let devices = ap length (sym c.in-Ok-new.ensures.stands.shows.registers ∙ start_devices lines)
    in
    let named = c.in-Ok-new.ensures.named in
    let long = ap length c.as_slice-names.ensures.value in
    omega (arith, most, devices, named, long)
