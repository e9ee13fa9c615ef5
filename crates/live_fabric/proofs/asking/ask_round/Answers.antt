use Rattle.std.proofs.Common.{◌∷◌, []}
use Rattle.fabric_script.specs.declared.lines.Line.TheVariants.{Collect}
use Rattle.live_fabric.specs.AskCourse.{MayCollectWith, RoundDone}
use Rattle.live_fabric.specs.Asking.{ask_round}
use Rattle.live_fabric.specs.Course.{EventsBreak}
use Rattle.live_fabric.specs.Holding.{LiveHolds, MayBeCarried}
use Rattle.live_fabric.specs.Lines.{Taken}
use Rattle.live_fabric.proofs.AnsweringLaws.{on_err, on_each, on_each_err}
use Rattle.live_fabric.proofs.RoundLaws.{round_then, round_breaks, round_stops, round_falls, may_collect_then}
use Rattle.live_fabric.proofs.asking.ask_round.Goals as goal

pub returns-in_err-carry_round-clause-breaks : goal.returns-in_err-carry_round-clause-breaks
returns-in_err-carry_round-clause-breaks g c =
    on_err c.from_residual.result
    (λ taken holds may. round_falls c.args.telling.quiet taken c.args.telling.number
    c.args.nodes.now c.args.ask.host c.args.outbox.now c.carry_round.new.outbox
    (c.in_err-carry_round.ensures.breaks taken holds may.0))

pub collect_reply-requires : goal.collect_reply-requires
collect_reply-requires g c =
    let may = c.requires in
    let d = rw c.in-On.is at (c.in_ok-carry_round.ensures.done may.0 may.1 may.2.0) in (
      d.end,
      d.goes,
      may_collect_then c.args.telling.quiet may.0 c.args.telling.number c.args.nodes.now
          c.args.ask.host c.args.outbox.now c.carry_round.new.outbox c.carry_round.new.live d
          may.2.1,
    )

pub returns-in-On-clause-done : goal.returns-in-On-clause-done
returns-in-On-clause-done g c =
    let telling = c.args.telling in
    let ask = c.args.ask in
    let nodes = c.args.nodes.now in
    let out = c.args.outbox.now in
    let mid = c.carry_round.new.outbox in
    let next = c.collect_reply.new.outbox in
    let live = c.carry_round.new.live in
    let now = c.collect_reply.new.live in
    on_each
    (λ reply. (taken : Taken) → LiveHolds live taken → MayBeCarried taken (Collect ask.host)
    → RoundDone telling.quiet taken telling.number ask.tid (Collect ask.host ∷ []) mid next now
    reply)
    (λ reply. (taken : Taken) → LiveHolds c.args.live.now taken
    → MayCollectWith taken nodes ask.host
    → RoundDone telling.quiet taken telling.number ask.tid (ask_round nodes ask.host) out next now
    reply)
    c.collect_reply.result
    (λ reply done taken holds may.
    let d = rw c.in-On.is at (c.in_ok-carry_round.ensures.done taken holds may.0) in
    round_then telling.quiet taken telling.number nodes ask.host out mid next ask.tid live now
    reply d
    (done d.end d.goes
    (may_collect_then telling.quiet taken telling.number nodes ask.host out mid live d may.1)))
    c.collect_reply.ensures.done

pub returns-in-On-clause-breaks : goal.returns-in-On-clause-breaks
returns-in-On-clause-breaks g c =
    let telling = c.args.telling in
    let ask = c.args.ask in
    let nodes = c.args.nodes.now in
    let out = c.args.outbox.now in
    let mid = c.carry_round.new.outbox in
    let next = c.collect_reply.new.outbox in
    let live = c.carry_round.new.live in
    on_each_err
    ((taken : Taken) → LiveHolds live taken → MayBeCarried taken (Collect ask.host)
    → EventsBreak telling.quiet taken telling.number (Collect ask.host ∷ []) mid next)
    ((taken : Taken) → LiveHolds c.args.live.now taken → MayCollectWith taken nodes ask.host
    → EventsBreak telling.quiet taken telling.number (ask_round nodes ask.host) out next)
    c.collect_reply.result
    (λ breaks taken holds may.
    let d = rw c.in-On.is at (c.in_ok-carry_round.ensures.done taken holds may.0) in
    round_breaks telling.quiet taken telling.number nodes ask.host out mid next live d
    (breaks d.end d.goes
    (may_collect_then telling.quiet taken telling.number nodes ask.host out mid live d may.1)))
    c.collect_reply.ensures.breaks

pub returns-in-Undetected-clause-done : goal.returns-in-Undetected-clause-done
returns-in-Undetected-clause-done g c = λ taken holds may.
    let telling = c.args.telling in
    round_stops telling.quiet taken telling.number c.args.nodes.now c.args.ask.host
    c.args.outbox.now c.carry_round.new.outbox c.args.ask.tid c.carry_round.new.live
    (rw c.in-Undetected.is at (c.in_ok-carry_round.ensures.done taken holds may.0))
