use Rattle.std.proofs.Common.{◌++◌}
use Rattle.fabric_ports.proofs.AfterLaws.{linked_after, linked_lines, named_after}
use Rattle.fabric_ports.proofs.RanLaws.{err_is}
use Rattle.fabric_ports.proofs.CarriedLaws.{first_linked, second_linked, both_stirred, first_unstirred, left_by}
use Rattle.fabric_ports.proofs.fabric.Fabric.stir_both.Goals as goal

pub stir-requires-clause-linked : goal.stir-requires-clause-linked
stir-requires-clause-linked g c = first_linked c.requires.linked

pub stir-requires-2-clause-linked : goal.stir-requires-2-clause-linked
stir-requires-2-clause-linked g c =
    second_linked (linked_after c.in_ok-stir.ensures c.requires.linked)

pub stir-requires-2-clause-named : goal.stir-requires-2-clause-named
stir-requires-2-clause-named g c =
    named_after c.in_ok-stir.ensures (linked_lines c.requires.linked) c.requires.named

pub returns-in_err-stir : goal.returns-in_err-stir
returns-in_err-stir g c =
    rw (err_is c.from_residual.result c.in_err-stir.field-0.0 c.from_residual.ensures.1)
    (λ from lines stands. first_unstirred c.requires.linked stands
    _ (c.in_err-stir.ensures from lines stands))

pub returns : goal.returns
returns g c = λ from lines stands.
    let first = c.in_ok-stir.ensures from lines stands in
    left_by c.stir-2.result _ _ _
    (λ left own. both_stirred c.requires.linked stands _ _ left first own)
    (c.stir-2.ensures from (lines ++ first.block) first.ends.1)
