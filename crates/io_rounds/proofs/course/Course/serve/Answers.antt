use Rattle.std.proofs.Common.{◌≡◌, refl, sym, ap, ◌∙◌}
use Rattle.io_rounds.specs.Stations.{met_at_node, answer_at_node}
use Rattle.io_rounds.specs.Tasks.{reply_line}
use Rattle.io_rounds.proofs.ReplyLaws.{serve_holds}
use Rattle.io_rounds.proofs.StateLaws.{stopped, always_else, on_if}
use Rattle.io_rounds.proofs.TakeLaws.{serves, serves_on, serves_replied}
use Rattle.io_rounds.proofs.course.Course.serve.Goals as goal

pub returns-in_err-line-in-Some-clause-ended : goal.returns-in_err-line-in-Some-clause-ended
returns-in_err-line-in-Some-clause-ended g c = always_else c.from_residual.result
    (λ script begun first s rest taken.
    let packet = c.args.packet.now in
    stopped (serves {next = record c.args.self.now { stations = c.meet_at-meeting.new.stations }}
    c.args.node packet rest c.meet_at-meeting.result.met c.requires.named taken
    (c.meet_at-meeting.ensures.met
    ∙ ap (λ l. met_at_node l c.args.node packet) taken.acted.holds.same_stations)
    c.write_left.ensures refl refl c.meet_at-meeting.ensures.stations))

pub reply-requires-clause-may : goal.reply-requires-clause-may
reply-requires-clause-may g c =
    let line : c.in_ok-line-in-Some.line ≡ reply_line c.args.node c.args.packet.now c.in-Some.io =
    cc (c.in_ok-line-in-Some.ensures, c.in-Some.io-is) in
    serve_holds c.args.node c.args.packet.now c.in-Some.io c.in_ok-line-in-Some.line _ c.requires
    c.meet_at-meeting.ensures.good c.in-Some.is line refl refl c.meet_at-meeting.ensures.stations

pub returns-in-None-clause-done : goal.returns-in-None-clause-done
returns-in-None-clause-done g c = λ script begun first s rest taken.
    let packet = c.args.packet.now in
    let same = taken.acted.holds.same_stations in
    serves_on c.args.node packet rest taken
    (sym c.in-None.is ∙ c.meet_at-meeting.ensures.answer
    ∙ ap (λ l. answer_at_node l c.args.node packet) same)
    (serves c.args.node packet rest c.meet_at-meeting.result.met c.requires.named taken
    (c.meet_at-meeting.ensures.met ∙ ap (λ l. met_at_node l c.args.node packet) same)
    c.write_left.ensures refl refl c.meet_at-meeting.ensures.stations)

pub returns-in_ok-line-in-Some-clause-done : goal.returns-in_ok-line-in-Some-clause-done
returns-in_ok-line-in-Some-clause-done g c =
    let line : c.in_ok-line-in-Some.line ≡ reply_line c.args.node c.args.packet.now c.in-Some.io =
    cc (c.in_ok-line-in-Some.ensures, c.in-Some.io-is) in
    on_if c.reply.result
    (λ more replies. λ script begun first s rest taken.
    let packet = c.args.packet.now in
    let same = taken.acted.holds.same_stations in
    serves_replied c.args.node packet rest c.in-Some.io c.in_ok-line-in-Some.line more taken
    (sym c.in-Some.is ∙ c.meet_at-meeting.ensures.answer
    ∙ ap (λ l. answer_at_node l c.args.node packet) same) line
    (serves {next = record c.args.self.now { stations = c.meet_at-meeting.new.stations }}
    c.args.node packet rest c.meet_at-meeting.result.met c.requires.named taken
    (c.meet_at-meeting.ensures.met ∙ ap (λ l. met_at_node l c.args.node packet) same)
    c.write_left.ensures refl refl c.meet_at-meeting.ensures.stations)
    (λ t there next. replies script t rest there next)) c.reply.ensures

pub returns-in_ok-line-in-Some-clause-ended : goal.returns-in_ok-line-in-Some-clause-ended
returns-in_ok-line-in-Some-clause-ended g c = always_else c.reply.result
    (λ script begun first s rest taken.
    let packet = c.args.packet.now in
    stopped (serves {next = record c.args.self.now { stations = c.meet_at-meeting.new.stations }}
    c.args.node packet rest c.meet_at-meeting.result.met c.requires.named taken
    (c.meet_at-meeting.ensures.met
    ∙ ap (λ l. met_at_node l c.args.node packet) taken.acted.holds.same_stations)
    c.write_left.ensures refl refl c.meet_at-meeting.ensures.stations))
