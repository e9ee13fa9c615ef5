use Rattle.std.proofs.Common.{◌≡◌, [], Some, rules}
use Rattle.fabric_script.specs.LineTexts.{script_text}
use Rattle.fabric_script.proofs.GrowingLaws.{whole_text}
use Rattle.fabric_script.proofs.PrintLaws.{printed}
use Rattle.fabric_script.proofs.line_texts.print.Goals as goal

pub returns-clause-text : goal.returns-clause-text
returns-clause-text c =
    let script = c.args.script.now in
    let new : c.new-outbox.result.written ≡ Some [] = search rules in
    let end : c.finish.new.outbox.written ≡ Some c.into_bytes.result.items = search rules in
    whole_text c.new-outbox.result _ c.finish.new.outbox
    (script_text script.names.items script.lines.items) _ new (search rules)
    c.write_lines.ensures c.finish.ensures.written c.finish.ensures.empty
    c.in_ok-finish.ensures.fine end

pub returns-clause-reads : goal.returns-clause-reads
returns-clause-reads c =
    let script = c.args.script.now in
    rw (returns-clause-text c) (printed script.names.items script.lines.items c.requires)
