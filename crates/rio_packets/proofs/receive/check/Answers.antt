use Rattle.std.proofs.Common.{ℕ, List, ◌++◌, ◌∙◌, ap, sym, inr}
use Rattle.rio_packets.specs.Carries.{checked}
use Rattle.rio_packets.proofs.CarriesLaws.{carried-out_of_range}
use Rattle.rio_packets.proofs.CheckedLaws.{Says, says-checked, checked-many}
use Rattle.rio_packets.proofs.receive.check.Goals as goal

pub returns-then-bytes-gt-MAX_BYTES-clause-none : goal.returns-then-bytes-gt-MAX_BYTES-clause-none
returns-then-bytes-gt-MAX_BYTES-clause-none c =
    carried-out_of_range c.args.bytes.now (inr c.if-bytes-gt-MAX_BYTES.true)

pub returns-then-bytes-gt-MAX_BYTES-clause-checked :
    goal.returns-then-bytes-gt-MAX_BYTES-clause-checked
returns-then-bytes-gt-MAX_BYTES-clause-checked c =
    sym (checked-many c.args.bytes.now c.if-bytes-gt-MAX_BYTES.true)

says : (c : goal.After-finish) → Says c.args.bytes.now c.finish.result
says c = says-checked c.args.bytes.now c.finish.result (c.finish.ensures
    ∙ ap checked (c.push_all.ensures
    ∙ ap (λ (bytes : List ℕ). bytes ++ c.args.bytes.now) c.new-building.ensures))

pub returns-clause-ok : goal.returns-clause-ok
returns-clause-ok c = (says c).ok

pub returns-clause-found : goal.returns-clause-found
returns-clause-found c = (says c).found

pub returns-clause-none : goal.returns-clause-none
returns-clause-none c = (says c).none

pub returns-clause-general : goal.returns-clause-general
returns-clause-general c = (says c).general

pub returns-clause-bad_packet : goal.returns-clause-bad_packet
returns-clause-bad_packet c = (says c).bad_packet

pub returns-clause-no_other : goal.returns-clause-no_other
returns-clause-no_other c = (says c).no_other
