use Rattle.lane_rows.proofs.JoinLaws.{none_of_b, none_of_c, none_of_d}
use Rattle.lane_rows.proofs.joining.first_column.Goals as goal

pub returns-in_default-b-clause-none : goal.returns-in_default-b-clause-none
returns-in_default-b-clause-none c =
    none_of_b c.args.a.now c.args.b.now c.args.c.now c.args.d.now c.in_default-b.len_below

pub returns-in_default-c-clause-none : goal.returns-in_default-c-clause-none
returns-in_default-c-clause-none c =
    none_of_c c.args.a.now c.args.b.now c.args.c.now c.args.d.now c.in_default-c.len_below

pub returns-in_default-d-clause-none : goal.returns-in_default-d-clause-none
returns-in_default-d-clause-none c =
    none_of_d c.args.a.now c.args.b.now c.args.c.now c.args.d.now c.in_default-d.len_below
