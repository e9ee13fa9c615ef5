use Rattle.std.proofs.Common.{sym}
use Rattle.trace_check.proofs.NetworkLaws.{if_ok_map}
use Rattle.trace_check.proofs.reader.Reader.check.Goals as goal

pub returns-in-Stepped-clause-checked : goal.returns-in-Stepped-clause-checked
returns-in-Stepped-clause-checked c =
    rw (c.in-Stepped.is, sym c.get.ensures)
    (if_ok_map c.step.result c.step.ensures
    (λ fault checks r is within. checks r c.args.short is within))

pub returns-in-Sent-clause-checked : goal.returns-in-Sent-clause-checked
returns-in-Sent-clause-checked c =
    rw c.in-Sent.is
    (if_ok_map c.sent.result c.sent.ensures
    (λ fault checks r is within. checks r c.args.short is within))

pub returns-in-Got-clause-checked : goal.returns-in-Got-clause-checked
returns-in-Got-clause-checked c =
    rw (c.in-Got.is, sym c.as_slice.ensures.value)
    (if_ok_map c.got.result c.got.ensures
    (λ fault checks r is within. checks r c.args.short is within))

pub returns-in-Fired-clause-checked : goal.returns-in-Fired-clause-checked
returns-in-Fired-clause-checked c =
    rw c.in-Fired.is (λ r is within. record {
      answer = c.fired.ensures r c.args.short is within;
      reached = λ none. is;
    })
