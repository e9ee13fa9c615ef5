use Rattle.std.proofs.Common.{rules, tests}
use Rattle.trace_check.proofs.AnswerLaws.{device_stands, free_fails, free_stands, hold_fails, hold_stands, node_stands, not_made, step_made}
use Rattle.trace_check.proofs.state.State.step.Goals as goal

pub returns-then-not-branch : goal.returns-then-not-branch
returns-then-not-branch c = λ r short is within.
    not_made (c.in_ok-make.ensures r.nodes r.net is.network is.links within)
    (search (rules, tests))

pub returns-then-came : goal.returns-then-came
returns-then-came c = λ r short is within.
    let made = step_made is within (c.in_ok-make.ensures r.nodes r.net is.network is.links within)
    (search (rules, tests)) in
    rw c.in-Hold.is (hold_stands (rw c.in-Hold.is at made)
    (rw c.if-came.true at c.has_come-came.ensures))

pub returns-else-came : goal.returns-else-came
returns-else-came c = λ r short is within.
    let made = step_made is within (c.in_ok-make.ensures r.nodes r.net is.network is.links within)
    (search (rules, tests)) in
    rw c.in-Hold.is (hold_fails (rw c.in-Hold.is at made)
    (rw c.if-came.false at c.has_come-came.ensures))

pub returns-then-allowed : goal.returns-then-allowed
returns-then-allowed c = λ r short is within.
    let made = step_made is within (c.in_ok-make.ensures r.nodes r.net is.network is.links within)
    (search (rules, tests)) in
    rw c.in-Free.is (free_stands (rw c.in-Free.is at made)
    (rw c.if-allowed.true at c.is_allowed-allowed.ensures))

pub returns-else-allowed : goal.returns-else-allowed
returns-else-allowed c = λ r short is within.
    let made = step_made is within (c.in_ok-make.ensures r.nodes r.net is.network is.links within)
    (search (rules, tests)) in
    rw c.in-Free.is (free_fails (rw c.in-Free.is at made)
    (rw c.if-allowed.false at c.is_allowed-allowed.ensures))

pub returns-in-Take : goal.returns-in-Take
returns-in-Take c = λ r short is within.
    let made = step_made is within (c.in_ok-make.ensures r.nodes r.net is.network is.links within)
    (search (rules, tests)) in
    rw c.in-Take.is (node_stands (rw c.in-Take.is at made))

pub returns-in-Leave : goal.returns-in-Leave
returns-in-Leave c = λ r short is within.
    let made = step_made is within (c.in_ok-make.ensures r.nodes r.net is.network is.links within)
    (search (rules, tests)) in
    rw c.in-Leave.is (node_stands (rw c.in-Leave.is at made))

pub returns-in-Move : goal.returns-in-Move
returns-in-Move c = λ r short is within.
    let made = step_made is within (c.in_ok-make.ensures r.nodes r.net is.network is.links within)
    (search (rules, tests)) in
    rw c.in-Move.is (device_stands (rw c.in-Move.is at made))

pub returns-in-Drop : goal.returns-in-Drop
returns-in-Drop c = λ r short is within.
    let made = step_made is within (c.in_ok-make.ensures r.nodes r.net is.network is.links within)
    (search (rules, tests)) in
    rw c.in-Drop.is (device_stands (rw c.in-Drop.is at made))

pub returns-in-Answer : goal.returns-in-Answer
returns-in-Answer c = λ r short is within.
    let made = step_made is within (c.in_ok-make.ensures r.nodes r.net is.network is.links within)
    (search (rules, tests)) in
    rw c.in-Answer.is (device_stands (rw c.in-Answer.is at made))
