use Rattle.std.proofs.Common.{◌≡◌, ◌++◌, false, codes, ap, ◌∙◌, subst}
use Rattle.rio_chars.specs.Unless.{WritesUnless}
use Rattle.rio_chars.proofs.UnlessLaws.{WritesUnless-then}
use Rattle.rio_conform.specs.Report.{report_by, report_text}
use Rattle.rio_conform.proofs.program.report.Goals as goal

pub returns : goal.returns
returns g c =
    let written = g.M.Sink.written in
    let faults = g.M.Sink.faults in
    let begun = c.args.messages.now in
    let first = c.write_unless-failed.new.sink in
    let second = c.write_unless-failed-2.new.sink in
    let third = c.write_unless-failed-3.new.sink in
    let last = c.write_unless.new.sink in
    let word = c.verdict_word.result.now in
    let name = c.args.name.now in
    let details = c.args.details.now in
    let verdict = c.args.verdict in
    let one =
    WritesUnless-then false (written begun) (faults begun) c.write_unless-failed.result
    (written first) (faults first) c.write_unless-failed-2.result (written second)
    (faults second) word name c.write_unless-failed.ensures c.write_unless-failed-2.ensures in
    let two =
    WritesUnless-then false (written begun) (faults begun) c.write_unless-failed-2.result
    (written second) (faults second) c.write_unless-failed-3.result (written third)
    (faults third) (word ++ name) (codes "\n") one c.write_unless-failed-3.ensures in
    let three =
    WritesUnless-then false (written begun) (faults begun) c.write_unless-failed-3.result
    (written third) (faults third) c.write_unless.result (written last) (faults last)
    (word ++ name ++ codes "\n") details two c.write_unless.ensures in
    let same : word ++ name ++ codes "\n" ++ details ≡ report_text verdict name details =
    ap (λ w. w ++ name ++ codes "\n" ++ details) c.verdict_word.ensures
    ∙ ap (λ o. report_by o verdict name details) c.in_default.ensures in (
      c.write_unless.result,
      subst (WritesUnless false (written begun) (faults begun) c.write_unless.result (written last)
          (faults last)) same three,
    )
