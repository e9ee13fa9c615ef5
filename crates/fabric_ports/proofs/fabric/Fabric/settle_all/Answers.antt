use Rattle.std.proofs.Common.{◌++◌, rules, arith, sym, ◌∙◌}
use Rattle.fabric_trace.specs.Fold.{seen}
use Rattle.fabric_ports.proofs.AfterLaws.{cable_after, named_after, shown_by, stands_after, still_ran, still_stands}
use Rattle.fabric_ports.proofs.RanLaws.{err_is}
use Rattle.fabric_ports.proofs.SettlingLaws.{all_taken, cables_within, ends_at, next_link, is_linked, cable_there, settled_more, settled_idle, settled_short, settled_all}
use Rattle.fabric_ports.proofs.fabric.Fabric.settle_all.Goals as goal

pub index-requires : goal.index-requires
index-requires g c =
    let within = cable_after (λ from lines stands. still_ran c.is_still.ensures.shows
    (c.loop-place.invariant from lines stands)) c.requires.stands c.loop-place.place
    (omega (arith, c.len-place-end.ensures, c.loop-place-test.true)) in search rules

pub settle_link-requires-clause-linked : goal.settle_link-requires-clause-linked
settle_link-requires-clause-linked g c =
    let known = c.requires.stands in
    let ran = c.loop-place.invariant known.0 known.1 known.2 in
    let now = still_stands c.is_still.ensures.shows ran.ends.1 in
    let within = cables_within c.loop-place.place known.2 now
    (omega (arith, c.len-place-end.ensures, c.loop-place-test.true)) in
    is_linked now (next_link c.loop-place.place c.index.result.now now c.index.ensures within)

pub settle_link-requires-clause-named : goal.settle_link-requires-clause-named
settle_link-requires-clause-named g c =
    named_after (λ from lines stands. still_ran c.is_still.ensures.shows
    (c.loop-place.invariant from lines stands)) c.requires.stands c.requires.named

pub returns-in_err-settle_link : goal.returns-in_err-settle_link
returns-in_err-settle_link g c =
    rw (err_is c.from_residual.result c.in_err-settle_link.field-0.0 c.from_residual.ensures.1)
    (λ from lines stands.
    (let ran = c.loop-place.invariant from lines stands in
    let now = still_stands c.is_still.ensures.shows ran.ends.1 in
    let within = cables_within c.loop-place.place stands now
    (omega (arith, c.len-place-end.ensures, c.loop-place-test.true)) in
    settled_short stands
    (next_link c.loop-place.place c.index.result.now now c.index.ensures within) ran
    (c.in_err-settle_link.ensures from (lines ++ ran.block) now)))

pub loop-place-preserved : goal.loop-place-preserved
loop-place-preserved g c = λ from lines stands.
    let ran = c.loop-place.invariant from lines stands in
    let now = still_stands c.is_still.ensures.shows ran.ends.1 in
    let within = cables_within c.loop-place.place stands now
    (omega (arith, c.len-place-end.ensures, c.loop-place-test.true)) in
    settled_more stands
    (next_link c.loop-place.place c.index.result.now now c.index.ensures within) ran
    (c.in_ok-settle_link.ensures from (lines ++ ran.block) now)

pub loop-place-preserved-then-is_still : goal.loop-place-preserved-then-is_still
loop-place-preserved-then-is_still g c = λ from lines stands.
    let ran = c.loop-place.invariant from lines stands in
    let within = cables_within c.loop-place.place stands ran.ends.1
    (omega (arith, c.len-place-end.ensures, c.loop-place-test.true)) in
    let cables = c.loop-place.self.cables.items in
    let cable = cable_there cables c.loop-place.place within in
    still_ran c.is_still.ensures.shows
    (settled_idle stands (next_link c.loop-place.place cable.0 ran.ends.1 cable.1 within) ran
    (sym (c.is_still.ensures.still (seen from (lines ++ ran.block)) cable.0.a cable.0.b
    ran.ends.1.shows (ends_at cables c.loop-place.place cable.0 within cable.1))
    ∙ c.if-is_still.true))

pub is_still-requires-clause-shown : goal.is_still-requires-clause-shown
is_still-requires-clause-shown g c =
    shown_by (stands_after c.loop-place.invariant c.requires.stands)

pub is_still-requires-clause-within : goal.is_still-requires-clause-within
is_still-requires-clause-within g c =
    cable_after c.loop-place.invariant c.requires.stands _
    (omega (arith, c.len-place-end.ensures, c.loop-place-test.true))

pub returns : goal.returns
returns g c = λ from lines stands.
    settled_all _ (all_taken c.loop-place.place stands (omega (
      arith,
      c.len-place-end.ensures,
      c.loop-place-test.false,
    )))
    (c.loop-place.invariant from lines stands)
