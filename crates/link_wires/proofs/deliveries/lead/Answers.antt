use Rattle.std.proofs.Common.{◌≡◌, ◌-◌, ◌<◌, ◌≤◌, List, [], ap, ◌∙◌, length, length-drop, drop, Some, None, arith}
use Rattle.link_model.specs.Prelude.{Char, telling_front}
use Rattle.link_port.specs.Prelude.{PortState, completed_events}
use Rattle.link_wires.specs.Deliveries.{flows, flow_of}
use Rattle.link_wires.proofs.Leading.{run_shows, lead_on, lead_missed, lead_ended}
use Rattle.link_wires.proofs.deliveries.lead.Goals as goal

pub returns-in-Some-clause-shows : goal.returns-in-Some-clause-shows
returns-in-Some-clause-shows c =
    let chars = c.args.chars.now in
    let taken = c.loop-taken.taken in
    let count = c.read-count.result.0 in
    let port = c.loop-taken.port in
    let start =
    flows chars (flow_of c.args.port.now c.args.kept.now c.args.came.now.moves.items
    c.args.came.now.replies.items [] 0) in
    let here = c.read-count.ensures in
    let size : length c.rest.result.now ≡ length chars - taken =
    ap length c.rest.ensures ∙ length-drop taken chars in
    let left : 0 < length c.rest.result.now = omega (arith, size) in
    let shows =
    run_shows port c.read-count.new.self c.act_all.new.port c.rest.result.now (drop taken chars)
    (completed_events c.read-count.result.1 c.read-count.new.packet) c.in_ok-undetected.field-0
    (Some c.in-Some.undetected)
    c.loop-taken.kept c.act_all.new.kept c.loop-taken.came.moves.items
    c.act_all.new.came.moves.items c.loop-taken.came.replies.items c.act_all.new.came.replies.items
    here.state here.events c.rest.ensures c.in-Some.is c.in_ok-undetected.ensures.shows in
    lead_missed start chars taken count c.in-Some.undetected port c.act_all.new.port
    c.loop-taken.kept c.act_all.new.kept c.loop-taken.came.moves.items
    c.act_all.new.came.moves.items
    c.loop-taken.came.replies.items c.act_all.new.came.replies.items c.loop-taken.invariant.so_far.0
    c.loop-taken.invariant.so_far.1 (here.some left)
    (here.count ∙ ap (λ (l : List Char). (telling_front port.place l).count) c.rest.ensures) shows

pub loop-taken-preserved : goal.loop-taken-preserved
loop-taken-preserved c =
    let chars = c.args.chars.now in
    let taken = c.loop-taken.taken in
    let count = c.read-count.result.0 in
    let port = c.loop-taken.port in
    let start =
    flows chars (flow_of c.args.port.now c.args.kept.now c.args.came.now.moves.items
    c.args.came.now.replies.items [] 0) in
    let here = c.read-count.ensures in
    let size : length c.rest.result.now ≡ length chars - taken =
    ap length c.rest.ensures ∙ length-drop taken chars in
    let left : 0 < length c.rest.result.now = omega (arith, size) in
    let within : count ≤ length c.rest.result.now = here.within in
    let shows =
    run_shows port c.read-count.new.self c.act_all.new.port c.rest.result.now (drop taken chars)
    (completed_events c.read-count.result.1 c.read-count.new.packet) c.in_ok-undetected.field-0 None
    c.loop-taken.kept c.act_all.new.kept c.loop-taken.came.moves.items
    c.act_all.new.came.moves.items c.loop-taken.came.replies.items c.act_all.new.came.replies.items
    here.state here.events c.rest.ensures c.in_default.is c.in_ok-undetected.ensures.shows in
    record {
      within = omega (arith, size, within);
      so_far =
          lead_on start chars taken count port c.act_all.new.port c.loop-taken.kept
          c.act_all.new.kept c.loop-taken.came.moves.items c.act_all.new.came.moves.items
          c.loop-taken.came.replies.items c.act_all.new.came.replies.items
          c.loop-taken.invariant.so_far.0 c.loop-taken.invariant.so_far.1 (here.some left)
          (here.count ∙ ap (λ (l : List Char). (telling_front port.place l).count) c.rest.ensures)
          shows
          (c.in_ok-undetected.ensures.place
          ∙ ap (λ (p : PortState). p.place) here.state
          ∙ ap (λ (l : List Char). (telling_front port.place l).step.place) c.rest.ensures);
    }

pub returns-clause-shows : goal.returns-clause-shows
returns-clause-shows c =
    let all : length c.args.chars.now ≤ c.loop-taken.taken = omega arith in
    lead_ended (flows c.args.chars.now (flow_of c.args.port.now c.args.kept.now
    c.args.came.now.moves.items c.args.came.now.replies.items [] 0)) c.args.chars.now
    c.loop-taken.taken c.loop-taken.port
    c.loop-taken.kept c.loop-taken.came.moves.items c.loop-taken.came.replies.items
    c.loop-taken.invariant.so_far.0 c.loop-taken.invariant.so_far.1 all
