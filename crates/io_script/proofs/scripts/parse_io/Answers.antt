use Rattle.std.proofs.Common.{◌≡◌, ◌+◌, Err, Ok, ap, subst, arith, rules}
use Rattle.fabric_script.specs.declared.scripts.Refusal.{Refusal}
use Rattle.fabric_script.specs.declared.scripts.ScriptEnd.TheVariants.{Refused}
use Rattle.fabric_script.specs.SetUps.{for_event}
use Rattle.io_script.specs.IoScripts.{IsIoRefused}
use Rattle.io_script.proofs.IoFabric.{fabric_of}
use Rattle.io_script.proofs.IoNamed.{script_named}
use Rattle.io_script.proofs.IoOnce.{only_io_refusal, only_io_script}
use Rattle.io_script.proofs.IoWhole.{line_refused, not_parted, set_up_refused, whole_script}
use Rattle.io_script.proofs.scripts.parse_io.Goals as goal

-- ---- the set-up lines are refused

pub returns-in_err-script-clause-refused : goal.returns-in_err-script-clause-refused
returns-in_err-script-clause-refused c = λ refusal is.
    let end = c.in_err-script.field-0.0 in
    let same : end ≡ Refused refusal = search rules in
    set_up_refused c.args.bytes.now c.split_input-count.result.0.now refusal.line refusal.reason
    c.split_input-count.ensures.set_up
    (c.in_err-script.ensures.refused refusal (ap (λ e. Err e) same))

pub returns-in_err-script-clause-only : goal.returns-in_err-script-clause-only
returns-in_err-script-clause-only c =
    only_io_script c.args.bytes.now c.from_residual.result (search rules)
    (returns-in_err-script-clause-refused c)

pub returns-in_err-script-clause-refusal_only : goal.returns-in_err-script-clause-refusal_only
returns-in_err-script-clause-refusal_only c =
    only_io_refusal c.args.bytes.now c.from_residual.result (search rules)
    (returns-in_err-script-clause-refused c)

-- ---- the lines behind them

pub read_io_lines-requires-clause-known : goal.read_io_lines-requires-clause-known
read_io_lines-requires-clause-known c =
    let script = c.in_ok-script.script in
    let short = c.split_input-count.ensures.short in
    let most = c.requires in
    let is = c.in_ok-script.ensures.script in (
      for_event is.0,
      fabric_of c.split_input-count.result.0.now script.names.items script.lines.items
          (omega (arith, short, most)) is,
    )

pub returns-in_err-lines-in-Some-clause-refused : goal.returns-in_err-lines-in-Some-clause-refused
returns-in_err-lines-in-Some-clause-refused c = λ refusal is.
    let split = c.split_input-count.ensures in
    let script = c.in_ok-script.script in
    let short = split.short in
    let most = c.requires in
    let end = c.in_err-lines-in-Some.field-0.0 in
    let same : end ≡ Refused refusal = search rules in
    line_refused c.args.bytes.now c.split_input-count.result.0.now script.names.items
    script.lines.items c.split_input-count.result.2 c.split_input-count.result.1 split.set_up
    split.lines split.behind c.in_ok-script.ensures.script c.in-Some.behind c.in-Some.is
    (omega (arith, short, most)) refusal.line refusal.reason
    (c.in_err-lines-in-Some.ensures.refused refusal (ap (λ e. Err e) same))

pub returns-in_err-lines-in-Some-clause-only : goal.returns-in_err-lines-in-Some-clause-only
returns-in_err-lines-in-Some-clause-only c =
    only_io_script c.args.bytes.now c.from_residual-in_err-lines-in-Some.result (search rules)
    (returns-in_err-lines-in-Some-clause-refused c)

pub returns-in_err-lines-in-Some-clause-refusal_only :
    goal.returns-in_err-lines-in-Some-clause-refusal_only
returns-in_err-lines-in-Some-clause-refusal_only c =
    only_io_refusal c.args.bytes.now c.from_residual-in_err-lines-in-Some.result (search rules)
    (returns-in_err-lines-in-Some-clause-refused c)

pub returns-in_ok-lines-in-Some-clause-script : goal.returns-in_ok-lines-in-Some-clause-script
returns-in_ok-lines-in-Some-clause-script c =
    let split = c.split_input-count.ensures in
    let script = c.in_ok-script.script in
    let short = split.short in
    let most = c.requires in
    whole_script c.args.bytes.now c.split_input-count.result.0.now script.names.items
    script.lines.items c.split_input-count.result.2 c.split_input-count.result.1 split.set_up
    split.lines split.behind c.in_ok-script.ensures.script c.in-Some.behind c.in-Some.is
    (omega (arith, short, most)) c.in_ok-lines-in-Some.lines.items
    c.in_ok-lines-in-Some.ensures.lines

pub returns-in_ok-lines-in-Some-clause-named : goal.returns-in_ok-lines-in-Some-clause-named
returns-in_ok-lines-in-Some-clause-named c =
    script_named c.args.bytes.now c.in_ok-script.script.names.items
    c.in_ok-script.script.lines.items c.in_ok-lines-in-Some.lines.items
    (returns-in_ok-lines-in-Some-clause-script c)

pub returns-in_ok-lines-in-Some-clause-only : goal.returns-in_ok-lines-in-Some-clause-only
returns-in_ok-lines-in-Some-clause-only c =
    only_io_script c.args.bytes.now
    (Ok record { script = c.in_ok-script.script; lines = c.in_ok-lines-in-Some.lines })
    (returns-in_ok-lines-in-Some-clause-script c) (λ refusal is. absurd cc)

pub returns-in_ok-lines-in-Some-clause-refusal_only :
    goal.returns-in_ok-lines-in-Some-clause-refusal_only
returns-in_ok-lines-in-Some-clause-refusal_only c =
    only_io_refusal c.args.bytes.now
    (Ok record { script = c.in_ok-script.script; lines = c.in_ok-lines-in-Some.lines })
    (returns-in_ok-lines-in-Some-clause-script c) (λ refusal is. absurd cc)

-- ---- there are none

pub returns-in-None-clause-refused : goal.returns-in-None-clause-refused
returns-in-None-clause-refused c = λ refusal is.
    let split = c.split_input-count.ensures in
    let script = c.in_ok-script.script in
    let hit : Refusal = record { line = c.split_input-count.result.2 + 1; reason = 15 } in
    let same : hit ≡ refusal = cc (c.unparted.ensures, is) in
    subst (λ r. IsIoRefused c.args.bytes.now r.line r.reason) same
    (not_parted c.args.bytes.now c.split_input-count.result.0.now script.names.items
    script.lines.items c.split_input-count.result.2 c.split_input-count.result.1 split.set_up
    split.lines split.behind c.in_ok-script.ensures.script c.in-None.is)

pub returns-in-None-clause-only : goal.returns-in-None-clause-only
returns-in-None-clause-only c =
    only_io_script c.args.bytes.now (Err (Refused c.unparted.result)) tt
    (returns-in-None-clause-refused c)

pub returns-in-None-clause-refusal_only : goal.returns-in-None-clause-refusal_only
returns-in-None-clause-refusal_only c =
    only_io_refusal c.args.bytes.now (Err (Refused c.unparted.result)) tt
    (returns-in-None-clause-refused c)
