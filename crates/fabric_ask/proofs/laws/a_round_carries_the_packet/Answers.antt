use Rattle.fabric_trace.proofs.Traces.Existing.{good_of}
use Rattle.fabric_ask.proofs.Quieting.{round_quiet}
use Rattle.fabric_ask.proofs.Rounding.{rounded}
use Rattle.fabric_ask.proofs.Uncollected.{round_apart}
use Rattle.fabric_ask.proofs.laws.a_round_carries_the_packet.Goals as goal

pub returns-clause-carried : goal.returns-clause-carried
returns-clause-carried c = λ host noise left s lines p item ready none only passes laid round still.
    (rounded host noise left s lines p item (good_of ready) none only passes laid round still).is

pub returns-clause-quiet : goal.returns-clause-quiet
returns-clause-quiet c = λ host noise left s lines ready. round_quiet host noise left s lines
    (good_of ready)

pub returns-clause-uncollected : goal.returns-clause-uncollected
returns-clause-uncollected c = λ host noise left s lines ready none is round.
    (round_apart host noise left s lines (good_of ready) none is round).nothing
