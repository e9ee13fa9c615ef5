use Rattle.std.proofs.Common.{◌++◌}
use Rattle.fabric_ports.proofs.AfterLaws.{linked_after, linked_lines, named_after}
use Rattle.fabric_ports.proofs.RanLaws.{err_is}
use Rattle.fabric_ports.proofs.CarriedLaws.{first_linked, second_linked, both_turned, first_unturned}
use Rattle.fabric_ports.proofs.fabric.Fabric.turn_both.Goals as goal

pub act-requires-clause-linked : goal.act-requires-clause-linked
act-requires-clause-linked g c = first_linked c.requires.linked

pub act-requires-2-clause-linked : goal.act-requires-2-clause-linked
act-requires-2-clause-linked g c =
    second_linked (linked_after c.in_ok-act.ensures c.requires.linked)

pub act-requires-2-clause-named : goal.act-requires-2-clause-named
act-requires-2-clause-named g c =
    named_after c.in_ok-act.ensures (linked_lines c.requires.linked) c.requires.named

pub returns-in_err-act : goal.returns-in_err-act
returns-in_err-act g c =
    rw (err_is c.from_residual.result c.in_err-act.field-0.0 c.from_residual.ensures.1)
    (λ from lines stands. first_unturned c.requires.linked stands
    (c.in_err-act.ensures from lines stands))

pub returns : goal.returns
returns g c = λ from lines stands.
    let first = c.in_ok-act.ensures from lines stands in
    both_turned c.requires.linked stands first
    (c.act-2.ensures from (lines ++ first.block) first.ends.1)
