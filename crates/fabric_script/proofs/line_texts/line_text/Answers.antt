use Rattle.std.proofs.Common.{◌≡◌, [], Some, rules}
use Rattle.fabric_script.specs.Lines.{line_text}
use Rattle.fabric_script.proofs.GrowingLaws.{whole_text}
use Rattle.fabric_script.proofs.line_texts.line_text.Goals as goal

pub returns : goal.returns
returns c =
    let new : c.new-outbox.result.written ≡ Some [] = search rules in
    let end : c.finish.new.outbox.written ≡ Some c.into_bytes.result.items = search rules in
    whole_text c.new-outbox.result _ c.finish.new.outbox
    (line_text c.args.names.now c.args.line.now) _ new (search rules)
    c.write_line.ensures c.finish.ensures.written c.finish.ensures.empty
    c.in_ok-finish.ensures.fine end
