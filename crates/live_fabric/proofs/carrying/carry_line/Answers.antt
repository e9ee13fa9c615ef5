use Rattle.std.proofs.Common.{◌∷◌, [], sym, subst}
use Rattle.live_fabric.specs.Course.{EventsDone, EventsBreak}
use Rattle.live_fabric.specs.Holding.{LiveHolds, MayBeCarried, MayCollect}
use Rattle.live_fabric.specs.Lines.{Taken}
use Rattle.live_fabric.specs.Served.{round_events, rounds, events_carried}
use Rattle.live_fabric.proofs.AnsweringLaws.{on_each, on_each_err}
use Rattle.live_fabric.proofs.CourseLaws.{carried_rounds, carried_other, some_nodes}
use Rattle.live_fabric.proofs.carrying.carry_line.Goals as goal

pub returns-in-Run-clause-done : goal.returns-in-Run-clause-done
returns-in-Run-clause-done g c =
    let telling = c.args.telling in
    let nodes = c.args.nodes.now in
    let event = c.args.event.now in
    let out = c.args.outbox.now in
    let next = c.carry_rounds.new.outbox in
    let now = c.carry_rounds.new.live in
    let round = rounds c.in-Run.n (round_events nodes) in
    on_each
    (λ after. (taken : Taken) → LiveHolds c.args.live.now taken → MayCollect taken nodes
    → EventsDone telling.quiet taken telling.number round out next now after)
    (λ after. (taken : Taken) → LiveHolds c.args.live.now taken → MayBeCarried taken event
    → MayCollect taken nodes
    → EventsDone telling.quiet taken telling.number (events_carried nodes event) out next now
    after)
    c.carry_rounds.result
    (λ after done taken holds may collect.
    subst (λ events. EventsDone telling.quiet taken telling.number events out next now after)
    (sym (carried_rounds nodes event c.in-Run.n c.in-Run.is
    (some_nodes nodes c.if-is_empty.ensures)))
    (done taken holds collect))
    c.carry_rounds.ensures.done

pub returns-in-Run-clause-breaks : goal.returns-in-Run-clause-breaks
returns-in-Run-clause-breaks g c =
    let telling = c.args.telling in
    let nodes = c.args.nodes.now in
    let event = c.args.event.now in
    let out = c.args.outbox.now in
    let next = c.carry_rounds.new.outbox in
    let round = rounds c.in-Run.n (round_events nodes) in
    on_each_err
    ((taken : Taken) → LiveHolds c.args.live.now taken → MayCollect taken nodes
    → EventsBreak telling.quiet taken telling.number round out next)
    ((taken : Taken) → LiveHolds c.args.live.now taken → MayBeCarried taken event
    → MayCollect taken nodes
    → EventsBreak telling.quiet taken telling.number (events_carried nodes event) out next)
    c.carry_rounds.result
    (λ breaks taken holds may collect.
    subst (λ events. EventsBreak telling.quiet taken telling.number events out next)
    (sym (carried_rounds nodes event c.in-Run.n c.in-Run.is
    (some_nodes nodes c.if-is_empty.ensures)))
    (breaks taken holds collect))
    c.carry_rounds.ensures.breaks

pub returns-in_default : goal.returns-in_default
returns-in_default g c =
    let telling = c.args.telling in
    let nodes = c.args.nodes.now in
    let event = c.args.event.now in
    let out = c.args.outbox.now in
    let next = c.carry_one-in_default.new.outbox in
    let now = c.carry_one-in_default.new.live in
    let same = carried_other nodes event c.in_default.not-Run in
    record {
      done =
          on_each
          (λ after. (taken : Taken) → LiveHolds c.args.live.now taken → MayBeCarried taken event
          → EventsDone telling.quiet taken telling.number (event ∷ []) out next now after)
          (λ after. (taken : Taken) → LiveHolds c.args.live.now taken → MayBeCarried taken event
          → MayCollect taken nodes
          → EventsDone telling.quiet taken telling.number (events_carried nodes event) out next now
          after)
          c.carry_one-in_default.result
          (λ after done taken holds may collect.
          subst (λ events. EventsDone telling.quiet taken telling.number events out next now after)
          (sym same) (done taken holds may))
          c.carry_one-in_default.ensures.done;
      breaks =
          on_each_err
          ((taken : Taken) → LiveHolds c.args.live.now taken → MayBeCarried taken event
          → EventsBreak telling.quiet taken telling.number (event ∷ []) out next)
          ((taken : Taken) → LiveHolds c.args.live.now taken → MayBeCarried taken event
          → MayCollect taken nodes
          → EventsBreak telling.quiet taken telling.number (events_carried nodes event) out next)
          c.carry_one-in_default.result
          (λ breaks taken holds may collect.
          subst (λ events. EventsBreak telling.quiet taken telling.number events out next)
          (sym same) (breaks taken holds may))
          c.carry_one-in_default.ensures.breaks;
    }
