use Rattle.std.proofs.Common.{sym, rules}
use Rattle.live_fabric.specs.Answers.{ReadsBy, LiveTakes}
use Rattle.live_fabric.specs.Holding.{LiveHolds}
use Rattle.live_fabric.specs.Lines.{Taken}
use Rattle.live_fabric.proofs.AnsweringLaws.{on_each}
use Rattle.live_fabric.proofs.TakenLaws.{takes_nothing, reads_behind_event}
use Rattle.live_fabric.proofs.live.Live.take.Goals as goal

pub returns-then-is_skipped : goal.returns-then-is_skipped
returns-then-is_skipped c = λ taken holds.
    takes_nothing c.args.self.now taken c.args.line.now (sym c.if-is_skipped.ensures) holds

pub returns : goal.returns
returns c =
    let live = c.args.self.now in
    let line = c.args.line.now in
    on_each (λ asked. ReadsBy live.set_up.known line asked)
    (λ asked. (taken : Taken) → LiveHolds live taken → LiveTakes taken line asked live)
    c.read_event.result
    (λ asked reads taken holds. reads_behind_event live line taken asked holds (search rules)
    (sym c.if-is_skipped.ensures) reads)
    c.read_event.ensures
