use Rattle.std.proofs.Common.{ap, refl, subst, sym}
use Rattle.fabric_script.specs.declared.known.Mode.TheVariants as Mode
use Rattle.fabric_script.specs.Scripts.{ScriptPasses}
use Rattle.fabric_script.proofs.ScriptLaws.{Passes-from_script}
use Rattle.fabric_script.proofs.SetUpLaws.{set_up_passes}
use Rattle.fabric_script.proofs.set_ups.read_set_up.Goals as goal

pub returns-clause-passes : goal.returns-clause-passes
returns-clause-passes c =
    let known = c.read_lines.new.known in
    let lines = c.in_ok-lines.lines.items in
    let passes = Passes-from_script Mode.SetUp c.args.bytes.now known.names lines
    (known, refl, c.in_ok-lines.ensures.lines) in
    let named = sym (ap (λ k. k.names) c.expect_event.ensures) in
    subst (λ names. ScriptPasses names lines) named (set_up_passes known.names lines passes).0

pub returns-clause-no_events : goal.returns-clause-no_events
returns-clause-no_events c =
    let known = c.read_lines.new.known in
    let lines = c.in_ok-lines.lines.items in
    let passes = Passes-from_script Mode.SetUp c.args.bytes.now known.names lines
    (known, refl, c.in_ok-lines.ensures.lines) in
    (set_up_passes known.names lines passes).1
