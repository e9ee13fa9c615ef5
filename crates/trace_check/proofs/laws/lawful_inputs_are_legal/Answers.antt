use Rattle.std.proofs.Common.{refl}
use Rattle.fabric_script.specs.Known.{of_set_up}
use Rattle.fabric_script.proofs.ScriptLaws.{Passes-from_script}
use Rattle.fabric_script.proofs.SetUpLaws.{set_up_passes}
use Rattle.fabric_trace.specs.Runs.{bare, set_up_all}
use Rattle.fabric_trace.proofs.SetUps.Happening.{may_set_up}
use Rattle.fabric_trace.proofs.SetUps.Starting.{set_up_bare}
use Rattle.script_input.specs.Inputs.{set_up_bytes}
use Rattle.trace_check.proofs.Legal.{pass_lawful}
use Rattle.trace_check.proofs.laws.lawful_inputs_are_legal.Goals as goal

pub returns : goal.returns
returns c = λ bytes steps is.
    let end = is.input.accepted.end in
    let passes = Passes-from_script of_set_up (set_up_bytes bytes) end.names is.set_up
    (end, refl, is.input.accepted.spelled) in
    let script = (set_up_passes end.names is.set_up passes).0 in
    pass_lawful (set_up_all bare is.set_up) is.lawful.lines
    (set_up_bare is.set_up (may_set_up end.names is.set_up script)) is.lawful.pass
