use Rattle.std.proofs.Common.{◌++◌}
use Rattle.fabric_ports.proofs.AfterLaws.{linked_after, linked_lines, named_after}
use Rattle.fabric_ports.proofs.RanLaws.{err_is}
use Rattle.fabric_ports.proofs.CarriedLaws.{first_linked, carried, carry_unturned, carry_unstirred, left_so}
use Rattle.fabric_ports.proofs.fabric.Fabric.carry.Goals as goal

pub stir_both-requires-clause-linked : goal.stir_both-requires-clause-linked
stir_both-requires-clause-linked g c = linked_after c.in_ok-turn_both.ensures c.requires.linked

pub stir_both-requires-clause-named : goal.stir_both-requires-clause-named
stir_both-requires-clause-named g c =
    named_after c.in_ok-turn_both.ensures (linked_lines c.requires.linked) c.requires.named

pub settle_link-requires-clause-linked : goal.settle_link-requires-clause-linked
settle_link-requires-clause-linked g c =
    first_linked (linked_after c.in_ok-stir_both.ensures
    (linked_after c.in_ok-turn_both.ensures c.requires.linked))

pub settle_link-requires-clause-named : goal.settle_link-requires-clause-named
settle_link-requires-clause-named g c =
    named_after c.in_ok-stir_both.ensures
    (linked_lines (linked_after c.in_ok-turn_both.ensures c.requires.linked))
    (named_after c.in_ok-turn_both.ensures (linked_lines c.requires.linked) c.requires.named)

pub returns-in_err-turn_both : goal.returns-in_err-turn_both
returns-in_err-turn_both g c =
    rw (err_is c.from_residual.result c.in_err-turn_both.field-0.0 c.from_residual.ensures.1)
    (λ from lines stands. carry_unturned c.requires.linked stands
    _ (c.in_err-turn_both.ensures from lines stands))

pub returns-in_err-stir_both : goal.returns-in_err-stir_both
returns-in_err-stir_both g c =
    rw (err_is c.from_residual-in_err-stir_both.result c.in_err-stir_both.field-0.0
    c.from_residual-in_err-stir_both.ensures.1)
    (λ from lines stands.
    (let first = c.in_ok-turn_both.ensures from lines stands in
    carry_unstirred c.requires.linked stands _ first
    (c.in_err-stir_both.ensures from (lines ++ first.block) first.ends.1)))

pub returns : goal.returns
returns g c = λ from lines stands.
    let first = c.in_ok-turn_both.ensures from lines stands in
    let second = c.in_ok-stir_both.ensures from (lines ++ first.block) first.ends.1 in
    left_so c.settle_link.result _ _
    (carried c.requires.linked stands _ _ first second
    (c.settle_link.ensures from ((lines ++ first.block) ++ second.block) second.ends.1))
