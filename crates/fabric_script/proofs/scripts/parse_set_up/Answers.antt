use Rattle.fabric_script.specs.declared.known.Mode.TheVariants as Mode
use Rattle.std.proofs.Common.{Ok, sym, rules}
use Rattle.fabric_script.proofs.ScriptLaws.{only_script, only_refusal, Passes-from_script}
use Rattle.fabric_script.proofs.SetUpLaws.{set_up_passes}
use Rattle.fabric_script.proofs.scripts.parse_set_up.Goals as goal

pub returns-in_err-lines-clause-only : goal.returns-in_err-lines-clause-only
returns-in_err-lines-clause-only c = only_script Mode.SetUp c.args.bytes.now c.from_residual.result
    (search rules) (search rules)

pub returns-in_err-lines-clause-refusal_only : goal.returns-in_err-lines-clause-refusal_only
returns-in_err-lines-clause-refusal_only c =
    only_refusal Mode.SetUp c.args.bytes.now c.from_residual.result (search rules) (search rules)

pub returns-clause-script : goal.returns-clause-script
returns-clause-script c =
    let read = c.in_ok-lines.ensures in
    (c.read_lines.new.known, sym c.into_names-names.ensures, read.lines)

pub returns-clause-only : goal.returns-clause-only
returns-clause-only c =
    let read = c.in_ok-lines.ensures in
    only_script Mode.SetUp c.args.bytes.now
    (Ok record { names = c.into_names-names.result; lines = c.in_ok-lines.lines })
    (c.read_lines.new.known, sym c.into_names-names.ensures, read.lines) (search rules)

pub returns-clause-refusal_only : goal.returns-clause-refusal_only
returns-clause-refusal_only c =
    let read = c.in_ok-lines.ensures in
    only_refusal Mode.SetUp c.args.bytes.now
    (Ok record { names = c.into_names-names.result; lines = c.in_ok-lines.lines })
    (c.read_lines.new.known, sym c.into_names-names.ensures, read.lines) (search rules)

pub returns-clause-passes : goal.returns-clause-passes
returns-clause-passes c =
    let read = c.in_ok-lines.ensures in
    let passes = set_up_passes c.into_names-names.result.items c.in_ok-lines.lines.items
    (Passes-from_script Mode.SetUp c.args.bytes.now c.into_names-names.result.items
    c.in_ok-lines.lines.items
    (c.read_lines.new.known, sym c.into_names-names.ensures, read.lines)) in
    passes.0

pub returns-clause-no_events : goal.returns-clause-no_events
returns-clause-no_events c =
    let read = c.in_ok-lines.ensures in
    let passes = set_up_passes c.into_names-names.result.items c.in_ok-lines.lines.items
    (Passes-from_script Mode.SetUp c.args.bytes.now c.into_names-names.result.items
    c.in_ok-lines.lines.items
    (c.read_lines.new.known, sym c.into_names-names.ensures, read.lines)) in
    passes.1
