use Rattle.std.proofs.Common.{◌≡◌, ◌-◌, None}
use Rattle.live_fabric.specs.AskCourse.{MayCollectWith, RoundsCourse}
use Rattle.live_fabric.specs.Asking.{ask_round, reply_of, most_ask_rounds}
use Rattle.live_fabric.specs.Holding.{LiveHolds}
use Rattle.live_fabric.specs.Lines.{Taken}
use Rattle.live_fabric.proofs.asking.ask_rounds.Given as goal

abbrev pub invariant-loop : goal.invariant-loop
invariant-loop g l = record {
  course : (taken : Taken) → LiveHolds l.fn.live taken
      → MayCollectWith taken l.fn.nodes l.fn.ask.host → reply_of l.fn.ask.tid taken ≡ None
      → RoundsCourse l.fn.telling.quiet taken l.fn.telling.number l.fn.ask.tid
      (ask_round l.fn.nodes l.fn.ask.host) most_ask_rounds (most_ask_rounds - l.counter)
      l.fn.outbox l.outbox l.live;
}
