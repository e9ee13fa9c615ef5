use Rattle.std.proofs.Common.{◌≡◌, false, sym, ◌∙◌}
use Rattle.live_fabric.specs.Lines.{Taken}
use Rattle.live_fabric.specs.Holding.{LiveHolds}
use Rattle.live_fabric.specs.Outside.{MayCarryOutside, OutsideDone, OutsideWhole, outside_answer}
use Rattle.live_fabric.proofs.AnsweringLaws.{on_each_ok}
use Rattle.live_fabric.proofs.QuietLaws.{whole_told}
use Rattle.live_fabric.proofs.outside.carry_whole.Goals as goal

pub returns-clause-same : goal.returns-clause-same
returns-clause-same g c =
    let live = c.args.live.now in
    let line = c.args.line.now in
    let out = c.args.outbox.now in
    let may = c.requires.holds in
    on_each_ok
    ((taken : Taken) → LiveHolds live taken → MayCarryOutside taken line
    → OutsideDone taken line out c.carry-carried.new.outbox c.carry-carried.new.live)
    (c.flush.new.self.sink ≡ out.sink) c.carry-carried.result
    (λ was. c.flush.ensures.written.same ∙ (was may.0 may.1 may.2).told.same)
    c.carry-carried.ensures

pub returns-clause-whole : goal.returns-clause-whole
returns-clause-whole g c =
    let live = c.args.live.now in
    let now = c.carry-carried.new.live in
    let line = c.args.line.now in
    let out = c.args.outbox.now in
    let mid = c.carry-carried.new.outbox in
    let last = c.flush.new.self in
    on_each_ok
    ((taken : Taken) → LiveHolds live taken → MayCarryOutside taken line
    → OutsideDone taken line out mid now)
    ((taken : Taken) → LiveHolds live taken → MayCarryOutside taken line
    → OutsideWhole taken line out.written last.written now)
    c.carry-carried.result
    (λ was taken holds may.
    let done = was taken holds may in
    record {
      told = whole_told (outside_answer false taken line) out mid last c.requires.empty done.told
          c.flush.ensures.written (sym (sym c.if-failed.false ∙ c.failed.ensures))
          c.flush.ensures.empty;
      holds = done.holds;
    })
    c.carry-carried.ensures
