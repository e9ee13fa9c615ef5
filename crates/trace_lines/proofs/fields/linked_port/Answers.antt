use Rattle.std.proofs.Common.{sym, ◌∙◌}
use Rattle.trace_lines.proofs.FieldLaws.{no_end}
use Rattle.trace_lines.proofs.fields.linked_port.Goals as goal

pub returns-else-is_linked-clause-none : goal.returns-else-is_linked-clause-none
returns-else-is_linked-clause-none c = λ port end named.
    let found = c.in_ok-port.ensures.port in
    no_end c.args.set_up.now.known c.args.word.now c.in_ok-port.port port c.requires.orderly
    found.0 found.1 (sym c.is_linked.ensures ∙ c.if-is_linked.false) end named
