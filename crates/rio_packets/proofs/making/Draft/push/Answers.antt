use Rattle.std.proofs.Common.{ap, ◌∙◌, sym}
use Rattle.rio_packets.specs.Register.{fed_all, running}
use Rattle.rio_packets.proofs.Shifts.{fed_all-append}
use Rattle.rio_packets.proofs.making.Draft.push.Goals as goal

-- the register runs on over what is appended
pub invariant_of-self : goal.invariant_of-self
invariant_of-self c =
    let before = c.args.self.now in
    record {
      runs =
          c.run-self.ensures ∙ ap (λ r. fed_all r c.args.more.now) before.runs
          ∙ sym (fed_all-append 0xffff before.bytes.items c.args.more.now)
          ∙ ap running (sym c.append.ensures);
    }
