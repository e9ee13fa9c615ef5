use Rattle.std.proofs.Common.{◌≡◌, drop, refl, ◌∙◌, rules, sym, subst}
use Rattle.link_model.specs.Fronts.{telling_front}
use Rattle.rio_framer.specs.Framing.{framing_after}
use Rattle.rio_framer.specs.Giving.{told_of_events}
use Rattle.trace_check.specs.Running.{KeepsRun, notes, told_events}
use Rattle.trace_check.proofs.HearingLaws.{hears_on, hears_none}
use Rattle.trace_check.proofs.hearing.Hearing.hear.Goals as goal

pub loop-left-init : goal.loop-left-init
loop-left-init c = λ run kept. (run, kept, refl)

pub loop-left-preserved : goal.loop-left-preserved
loop-left-preserved c = λ run kept.
    let had = c.loop-left.invariant run kept in
    let now = had.0 in
    let read = c.read_run-count in
    let left = c.loop-left.left.now in
    let told = subst (λ place. read.result.1 ≡ told_of_events (telling_front place left).step.gives)
    had.1.place read.ensures.told in
    let state = subst (λ place. read.new.self ≡ framing_after (telling_front place left).step)
    had.1.place read.ensures.state in
    let left_is = subst (λ place.
    c.split_at.result.1.now ≡ drop (telling_front place left).count left)
    had.1.place (search rules) in
    let mid = record now { place = read.new.self.place } in (
      notes mid (told_events read.result.1 read.new.self.ended),
      c.in_ok-note.ensures mid record {
        place = refl;
        serves = had.1.serves;
        next = had.1.next;
        freed = had.1.freed;
        allowed = had.1.allowed;
      },
      hears_on now (notes mid (told_events read.result.1 read.new.self.ended)) left
          c.split_at.result.1.now read.result.1 read.new.self told state left_is refl
          ∙ had.2,
    )

pub returns : goal.returns
returns c = λ run kept.
    let had = c.loop-left.invariant run kept in
    subst (λ run. KeepsRun run c.loop-left.self)
    (sym (hears_none had.0 c.loop-left.left.now (search rules)) ∙ had.2) had.1
