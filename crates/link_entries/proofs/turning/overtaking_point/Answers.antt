use Rattle.std.proofs.Common.{◌≡◌, ℕ, List, length, ◌<◌, ◌≤◌, slice_get, Option, None, Bor, sym, ap, ◌∙◌, subst, inl, inr, arith}
use Rattle.std.specs.Option.{option_copied}
use Rattle.std.proofs.lemmas.Option.{slice_get_cases, slice_get_within}
use Rattle.link_buffers.specs.Queues.{list_at, packet_count}
use Rattle.link_buffers.specs.Priorities.{highest}
use Rattle.link_model.specs.Output as out
use Rattle.link_port.specs.Ports.{PortState, IsPort}
use Rattle.link_port.specs.Turns.{turns_to, waiting_in}
use Rattle.link_entries.specs.Turning.{overtaking_point_of}
use Rattle.link_entries.proofs.TurningLaws.{has_started, overtakes, overtakes-same, overtakes-none}
use Rattle.link_entries.proofs.turning.overtaking_point.Goals as goal

-- a list ends at a place that has nothing
ends_at : (xs : List (List ℕ)) (i : ℕ) → slice_get xs i ≡ None → length xs ≤ i
ends_at xs i none =
    elim ((slice_get_cases xs i).1) [
      | inl found ↦ absurd (let some = found.2 in cc)
      | inr past ↦ past.0
    ]

pub returns-then-not-waiting : goal.returns-then-not-waiting
returns-then-not-waiting c = λ port ack is sends at. (
    let prio = c.args.prio in
    let started = has_started port ack prio c.args.place
    (subst IsPort is c.waiting.ensures.port) c.requires sends at in
    overtakes-none ack prio (waiting_in (turns_to port)) started.four
    (λ some. (
    let true_is = c.waiting.ensures.exact.1
    (subst (λ (p : PortState). 0 < packet_count (waiting_in p)) (sym is) some) in cc))
    ∙ ap (λ (s : out.Sends). overtaking_point_of s (highest (waiting_in (turns_to port))))
    (sym sends))

pub returns-in-Some : goal.returns-in-Some
returns-in-Some c = λ port ack is sends at. (
    let prio = c.args.prio in
    let started = has_started port ack prio c.args.place
    (subst IsPort is c.waiting.ensures.port) c.requires sends at in
    let next = c.saturating_add.ensures in
    let left = started.left in
    let within = started.within in
    let goes_on = subst
    (λ (p : PortState). c.saturating_add.result < length (list_at p.queued prio)) is
    (slice_get_within (list_at c.args.after.now.queued prio) c.saturating_add.result
    c.in-Some.field-0.now (sym c.queued_at.ensures
    ∙ ap (λ (o : Option (Bor (List ℕ))). option_copied o) c.in-Some.is)) in
    overtakes-same ack prio (waiting_in (turns_to port)) (grind arith) started.down
    ∙ ap (λ (s : out.Sends). overtaking_point_of s (highest (waiting_in (turns_to port))))
    (sym sends))

pub returns-in-None : goal.returns-in-None
returns-in-None c = λ port ack is sends at. (
    let prio = c.args.prio in
    let started = has_started port ack prio c.args.place
    (subst IsPort is c.waiting.ensures.port) c.requires sends at in
    let some = subst (λ (p : PortState). 0 < packet_count (waiting_in p)) is
    (c.waiting.ensures.exact.0 c.if-not-waiting.false) in
    let next = c.saturating_add.ensures in
    let left = started.left in
    let within = started.within in
    let ends = subst
    (λ (p : PortState). length (list_at p.queued prio) ≤ c.saturating_add.result) is
    (ends_at (list_at c.args.after.now.queued prio) c.saturating_add.result
    (sym c.queued_at.ensures
    ∙ ap (λ (o : Option (Bor (List ℕ))). option_copied o) c.in-None.is)) in
    overtakes ack prio (waiting_in (turns_to port)) started.four some (grind arith) started.down
    ∙ ap (λ (s : out.Sends). overtaking_point_of s (highest (waiting_in (turns_to port))))
    (sym sends))
