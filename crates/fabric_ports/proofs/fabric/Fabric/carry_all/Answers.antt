use Rattle.std.proofs.Common.{◌++◌, rules, arith, sym, ◌∙◌}
use Rattle.fabric_trace.specs.Fold.{seen}
use Rattle.fabric_ports.proofs.AfterLaws.{cable_after, named_after, shown_by, stands_after, still_ran, still_stands}
use Rattle.fabric_ports.proofs.RanLaws.{err_is}
use Rattle.fabric_ports.proofs.SettlingLaws.{all_taken, cables_within, ends_at, next_link, cable_there}
use Rattle.fabric_ports.proofs.CarryAllLaws.{next_linked, carry_begins, carried_more, carried_idle, carried_short, carried_all}
use Rattle.fabric_ports.proofs.fabric.Fabric.carry_all.Goals as goal

pub loop-place-init : goal.loop-place-init
loop-place-init g c = λ from lines stands. carry_begins _ _ stands

pub is_still-requires-clause-shown : goal.is_still-requires-clause-shown
is_still-requires-clause-shown g c =
    shown_by (stands_after c.loop-place.invariant c.requires.stands)

pub is_still-requires-clause-within : goal.is_still-requires-clause-within
is_still-requires-clause-within g c =
    cable_after c.loop-place.invariant c.requires.stands _
    (omega (arith, c.len-place-end.ensures, c.loop-place-test.true))

pub index-cable-requires : goal.index-cable-requires
index-cable-requires g c =
    let within = cable_after (λ from lines stands. still_ran c.is_still.ensures.shows
    (c.loop-place.invariant from lines stands)) c.requires.stands c.loop-place.place
    (omega (arith, c.len-place-end.ensures, c.loop-place-test.true)) in search rules

pub carry-requires-clause-linked : goal.carry-requires-clause-linked
carry-requires-clause-linked g c =
    let known = c.requires.stands in
    let ran = c.loop-place.invariant known.0 known.1 known.2 in
    let now = still_stands c.is_still.ensures.shows ran.ends.1 in
    let within = cables_within c.loop-place.place known.2 now
    (omega (arith, c.len-place-end.ensures, c.loop-place-test.true)) in
    next_linked now
    (next_link c.loop-place.place c.index-cable.result.now now c.index-cable.ensures within)

pub carry-requires-clause-named : goal.carry-requires-clause-named
carry-requires-clause-named g c =
    named_after (λ from lines stands. still_ran c.is_still.ensures.shows
    (c.loop-place.invariant from lines stands)) c.requires.stands c.requires.named

pub returns-in_err-carry : goal.returns-in_err-carry
returns-in_err-carry g c =
    rw (err_is c.from_residual.result c.in_err-carry.field-0.0 c.from_residual.ensures.1)
    (λ from lines stands.
    (let ran = c.loop-place.invariant from lines stands in
    let now = still_stands c.is_still.ensures.shows ran.ends.1 in
    let within = cables_within c.loop-place.place stands now
    (omega (arith, c.len-place-end.ensures, c.loop-place-test.true)) in
    carried_short _ _ stands
    (next_link c.loop-place.place c.index-cable.result.now now c.index-cable.ensures within) ran
    (c.in_err-carry.ensures from (lines ++ ran.block) now)))

pub loop-place-preserved : goal.loop-place-preserved
loop-place-preserved g c = λ from lines stands.
    let ran = c.loop-place.invariant from lines stands in
    let now = still_stands c.is_still.ensures.shows ran.ends.1 in
    let within = cables_within c.loop-place.place stands now
    (omega (arith, c.len-place-end.ensures, c.loop-place-test.true)) in
    carried_more _ _ _ stands
    (next_link c.loop-place.place c.index-cable.result.now now c.index-cable.ensures within) ran
    (c.in_ok-carry.ensures from (lines ++ ran.block) now)

pub loop-place-preserved-then-is_still : goal.loop-place-preserved-then-is_still
loop-place-preserved-then-is_still g c = λ from lines stands.
    let ran = c.loop-place.invariant from lines stands in
    let within = cables_within c.loop-place.place stands ran.ends.1
    (omega (arith, c.len-place-end.ensures, c.loop-place-test.true)) in
    let cables = c.loop-place.self.cables.items in
    let cable = cable_there cables c.loop-place.place within in
    still_ran c.is_still.ensures.shows
    (carried_idle _ _ stands (next_link c.loop-place.place cable.0 ran.ends.1 cable.1 within) ran
    (sym (c.is_still.ensures.still (seen from (lines ++ ran.block)) cable.0.a cable.0.b
    ran.ends.1.shows (ends_at cables c.loop-place.place cable.0 within cable.1))
    ∙ c.if-is_still.true))

pub returns : goal.returns
returns g c = λ from lines stands.
    carried_all _ _ _ (all_taken c.loop-place.place stands (omega (
      arith,
      c.len-place-end.ensures,
      c.loop-place-test.false,
    )))
    (c.loop-place.invariant from lines stands)
