use Rattle.std.proofs.Common.{◌≡◌, None}
use Rattle.live_fabric.specs.AskCourse.{MayCollectWith, RoundsDone, RoundsBreak, AskDone, AskBreaks}
use Rattle.live_fabric.specs.Asking.{ask_round, reply_of, most_ask_rounds}
use Rattle.live_fabric.specs.Holding.{LiveHolds, MayBeCarried}
use Rattle.live_fabric.specs.Lines.{Taken}
use Rattle.live_fabric.proofs.AnsweringLaws.{on_err, on_each, on_each_err}
use Rattle.live_fabric.proofs.RequestLaws.{ask_may, ask_done, ask_breaks_off, ask_full, ask_stops, ask_falls}
use Rattle.live_fabric.proofs.asking.carry_ask.Goals as goal

pub returns-in_err-happened-clause-breaks : goal.returns-in_err-happened-clause-breaks
returns-in_err-happened-clause-breaks g c =
    on_err c.from_residual.result
    (λ taken holds may collect.
    ask_falls c.args.telling.quiet taken c.args.telling.number c.args.nodes.now c.args.event.now
    c.args.ask c.requires.asks c.args.outbox.now c.carry_out.new.outbox c.args.live.now
    c.carry_out.new.live holds (c.in_err-happened.ensures.short taken holds may))

pub returns-in-Full-clause-done : goal.returns-in-Full-clause-done
returns-in-Full-clause-done g c = λ taken holds may collect.
    ask_full c.args.telling.quiet taken c.args.telling.number c.args.nodes.now c.args.event.now
    c.args.ask c.requires.asks c.args.outbox.now c.carry_out.new.outbox c.args.live.now
    c.carry_out.new.live holds
    (rw c.in-Full.is at (rw c.in-Did.is at (c.in_ok-happened.ensures.happens taken holds may)))

pub returns-in-Undetected-clause-done : goal.returns-in-Undetected-clause-done
returns-in-Undetected-clause-done g c = λ taken holds may collect.
    ask_stops c.args.telling.quiet taken c.args.telling.number c.args.nodes.now c.args.event.now
    c.args.ask c.requires.asks c.args.outbox.now c.carry_out.new.outbox c.args.live.now
    c.carry_out.new.live holds
    (rw c.in-Undetected.is at (c.in_ok-happened.ensures.happens taken holds may))

pub ask_rounds-requires : goal.ask_rounds-requires
ask_rounds-requires g c =
    let may = c.requires.holds in
    ask_may c.args.telling.quiet may.0 c.args.telling.number c.args.nodes.now c.args.event.now
    c.args.ask c.requires.asks c.args.outbox.now c.carry_out.new.outbox c.args.live.now
    c.carry_out.new.live may.1 c.in-Did.happened
    (rw c.in-Did.is at (c.in_ok-happened.ensures.happens may.0 may.1 may.2)) may.3

pub returns-in_default-clause-done : goal.returns-in_default-clause-done
returns-in_default-clause-done g c =
    let telling = c.args.telling in
    let ask = c.args.ask in
    let nodes = c.args.nodes.now in
    let event = c.args.event.now in
    let out = c.args.outbox.now in
    let mid = c.carry_out.new.outbox in
    let next = c.ask_rounds.new.outbox in
    let live = c.carry_out.new.live in
    let last = c.ask_rounds.new.live in
    on_each
    (λ reply. (taken : Taken) → LiveHolds live taken → MayCollectWith taken nodes ask.host
    → reply_of ask.tid taken ≡ None
    → RoundsDone telling.quiet taken telling.number ask.tid (ask_round nodes ask.host)
    most_ask_rounds mid next last reply)
    (λ reply. (taken : Taken) → LiveHolds c.args.live.now taken → MayBeCarried taken event
    → MayCollectWith taken nodes ask.host
    → AskDone telling.quiet taken telling.number nodes event ask out next last reply)
    c.ask_rounds.result
    (λ reply done taken holds may collect.
    ask_done telling.quiet taken telling.number nodes event ask c.requires.asks out mid
    c.args.live.now live holds c.in-Did.happened
    (rw c.in-Did.is at (c.in_ok-happened.ensures.happens taken holds may)) next last reply
    c.in_default.not-Full collect done)
    c.ask_rounds.ensures.done

pub returns-in_default-clause-breaks : goal.returns-in_default-clause-breaks
returns-in_default-clause-breaks g c =
    let telling = c.args.telling in
    let ask = c.args.ask in
    let nodes = c.args.nodes.now in
    let event = c.args.event.now in
    let out = c.args.outbox.now in
    let mid = c.carry_out.new.outbox in
    let next = c.ask_rounds.new.outbox in
    let live = c.carry_out.new.live in
    on_each_err
    ((taken : Taken) → LiveHolds live taken → MayCollectWith taken nodes ask.host
    → reply_of ask.tid taken ≡ None
    → RoundsBreak telling.quiet taken telling.number ask.tid (ask_round nodes ask.host)
    most_ask_rounds mid next)
    ((taken : Taken) → LiveHolds c.args.live.now taken → MayBeCarried taken event
    → MayCollectWith taken nodes ask.host
    → AskBreaks telling.quiet taken telling.number nodes event ask out next)
    c.ask_rounds.result
    (λ breaks taken holds may collect.
    ask_breaks_off telling.quiet taken telling.number nodes event ask c.requires.asks out mid
    c.args.live.now live holds c.in-Did.happened
    (rw c.in-Did.is at (c.in_ok-happened.ensures.happens taken holds may)) next
    c.in_default.not-Full collect breaks)
    c.ask_rounds.ensures.breaks
