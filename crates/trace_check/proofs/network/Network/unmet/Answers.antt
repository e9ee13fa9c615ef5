use Rattle.trace_check.proofs.network.Network.unmet.Goals as goal

pub returns-in-Hold : goal.returns-in-Hold
returns-in-Hold c = rw c.in-Hold.is c.unmet_hold.ensures

pub returns-in-Free : goal.returns-in-Free
returns-in-Free c =
    rw c.in-Free.is (λ nodes net is links within. c.unmet_free.ensures nodes net is within)

pub returns-in-Take : goal.returns-in-Take
returns-in-Take c = rw c.in-Take.is
    (λ nodes net is links within. c.unmet_take.ensures nodes net is within.0 within.1)

pub returns-in-Leave : goal.returns-in-Leave
returns-in-Leave c =
    rw c.in-Leave.is (λ nodes net is links within. c.unmet_leave.ensures nodes net is within)

pub returns-in-Move : goal.returns-in-Move
returns-in-Move c = rw c.in-Move.is
    (λ nodes net is links within. c.unmet_move.ensures nodes net is within.0 within.1)

pub returns-in-Drop : goal.returns-in-Drop
returns-in-Drop c =
    rw c.in-Drop.is (λ nodes net is links within. c.unmet_drop.ensures nodes net is within)

pub returns-in-Answer : goal.returns-in-Answer
returns-in-Answer c =
    rw c.in-Answer.is (λ nodes net is links within. c.unmet_answer.ensures nodes net is within)
