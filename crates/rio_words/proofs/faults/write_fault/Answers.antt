use Rattle.std.proofs.Common.{◌++◌, false}
use Rattle.rio_chars.proofs.UnlessLaws.{WritesUnless-then}
use Rattle.rio_words.specs.Faults.{fault_begin, fault_end}
use Rattle.rio_words.proofs.faults.write_fault.Goals as goal

pub returns : goal.returns
returns g c =
    let written = g.M.Sink.written in
    let faults = g.M.Sink.faults in
    let before = c.args.messages.now in
    let one = c.write_unless-failed.new.sink in
    let two = c.write_unless-failed-2.new.sink in
    let last = c.write_unless.new.sink in
    let begin = fault_begin c.args.fault in
    let word = c.args.word.now in
    let named =
    WritesUnless-then false (written before) (faults before)
    c.write_unless-failed.result (written one) (faults one)
    c.write_unless-failed-2.result (written two) (faults two) begin word
    (rw c.fault_begin.ensures at c.write_unless-failed.ensures)
    c.write_unless-failed-2.ensures in
    WritesUnless-then false (written before) (faults before)
    c.write_unless-failed-2.result (written two) (faults two)
    c.write_unless.result (written last) (faults last) (begin ++ word) (fault_end c.args.fault)
    named (rw c.fault_end.ensures at c.write_unless.ensures)
