use Rattle.std.proofs.Common.{◌≡◌, ◌<◌, [], length, ap, ◌∙◌, sym, arith, eqb-true}
use Rattle.std.proofs.lemmas.List.{nil_from_length}
use Rattle.std.proofs.lemmas.Bool.Decides.{nat_tests}
use Rattle.rio_packets.specs.Making.{with_crc, with_more}
use Rattle.rio_packets.proofs.StepLaws.{with_more-none, with_more-some}
use Rattle.rio_packets.proofs.making.Draft.push_more.Goals as goal

pub returns-then-not-is_empty-clause-items : goal.returns-then-not-is_empty-clause-items
returns-then-not-is_empty-clause-items c =
    let some : 0 < length c.args.more.now = grind (arith, nat_tests) in
    c.push_crc.ensures.items
    ∙ ap with_crc c.push.ensures.items
    ∙ sym (with_more-some c.args.self.now.bytes.items c.args.more.now some)

pub returns-else-not-is_empty-clause-items : goal.returns-else-not-is_empty-clause-items
returns-else-not-is_empty-clause-items c =
    let none : c.args.more.now ≡ [] =
    nil_from_length c.args.more.now
    (eqb-true (length c.args.more.now) 0 (sym c.is_empty.ensures ∙ c.if-not-is_empty.false)) in
    sym
    (ap (with_more c.args.self.now.bytes.items) none ∙ with_more-none c.args.self.now.bytes.items)
