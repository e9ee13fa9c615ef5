use Rattle.std.proofs.Common.{◌≡◌, ◌<◌, ◌∙◌, length, sym, ap, subst}
use Rattle.std.specs.Io.KnownBytes.{Appends}
use Rattle.rio_chars.specs.Fronts.{AppendsFront}
use Rattle.contest_machine.specs.Turns.{Both, after_turns}
use Rattle.fabric_contest.specs.Contests.{both_of, contest_of}
use Rattle.fabric_contest.specs.ContestTexts.{contest_text}
use Rattle.fabric_contest.specs.Orders.{seeded_turns}
use Rattle.fabric_contest.proofs.Distinct.{host_named}
use Rattle.fabric_contest.proofs.lines.write_contest.Goals as goal

pub tell_contest-requires-clause-first : goal.tell_contest-requires-clause-first
tell_contest-requires-clause-first g c =
    subst (λ names. c.args.first < length names) (sym c.as_slice-names.ensures.value)
    (host_named c.args.script.now.names.items c.args.script.now.lines.items c.requires.passes
    c.args.first c.requires.first)

pub tell_contest-requires-clause-second : goal.tell_contest-requires-clause-second
tell_contest-requires-clause-second g c =
    subst (λ names. c.args.second < length names) (sym c.as_slice-names.ensures.value)
    (host_named c.args.script.now.names.items c.args.script.now.lines.items c.requires.passes
    c.args.second c.requires.second)

pub returns-then-tell_contest-clause-fault : goal.returns-then-tell_contest-clause-fault
returns-then-tell_contest-clause-fault g c is =
    let names = c.args.script.now.names.items in
    let end = contest_of c.args.script.now.lines.items c.args.first c.args.second c.args.seed in
    let both : both_of c.turns_by.new.self ≡ end =
    c.in_ok-turns_by.ensures.both
    ∙ ap (λ (b : Both). after_turns b (seeded_turns c.args.seed)) c.in_ok-contest.ensures.both in
    let text : contest_text c.as_slice-names.result.now c.args.first c.args.second
    (both_of c.turns_by.new.self) ≡ contest_text names c.args.first c.args.second end =
    ap (λ (b : Both). contest_text c.as_slice-names.result.now c.args.first c.args.second b) both
    ∙ ap (λ n. contest_text n c.args.first c.args.second end) c.as_slice-names.ensures.value in (
      c.tell_contest.ensures.rose c.if-tell_contest.true,
      subst (AppendsFront (g.K.Sink.written c.args.sink.now)
          (g.K.Sink.written c.tell_contest.new.sink)) text
          (c.tell_contest.ensures.front c.if-tell_contest.true),
    )

pub returns-clause-written : goal.returns-clause-written
returns-clause-written g c =
    let names = c.args.script.now.names.items in
    let end = contest_of c.args.script.now.lines.items c.args.first c.args.second c.args.seed in
    let both : both_of c.turns_by.new.self ≡ end =
    c.in_ok-turns_by.ensures.both
    ∙ ap (λ (b : Both). after_turns b (seeded_turns c.args.seed)) c.in_ok-contest.ensures.both in
    let text : contest_text c.as_slice-names.result.now c.args.first c.args.second
    (both_of c.turns_by.new.self) ≡ contest_text names c.args.first c.args.second end =
    ap (λ (b : Both). contest_text c.as_slice-names.result.now c.args.first c.args.second b) both
    ∙ ap (λ n. contest_text n c.args.first c.args.second end) c.as_slice-names.ensures.value in
    subst (Appends (g.K.Sink.written c.args.sink.now) (g.K.Sink.written c.tell_contest.new.sink))
    text (c.tell_contest.ensures.whole c.if-tell_contest.false)
