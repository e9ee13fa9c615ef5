use Rattle.std.proofs.Common.{ap}
use Rattle.trace_lines.specs.Keywords.{words_behind}
use Rattle.trace_lines.proofs.KeywordLaws.{none_alone}
use Rattle.trace_lines.proofs.PlainLines.{is_plain, made}
use Rattle.trace_lines.proofs.reading.read_words.Goals as goal

pub returns-in-Full-clause-no_form : goal.returns-in-Full-clause-no_form
returns-in-Full-clause-no_form c = λ is.
    none_alone c.args.set_up.now.known c.args.keyword c.args.text.now (ap is_plain c.in-Full.is)
    (λ values.
    ap (λ k. words_behind c.args.set_up.now.known.names (made k values)) c.in-Full.is)

pub returns-in-Empty-clause-no_form : goal.returns-in-Empty-clause-no_form
returns-in-Empty-clause-no_form c = λ is.
    none_alone c.args.set_up.now.known c.args.keyword c.args.text.now (ap is_plain c.in-Empty.is)
    (λ values.
    ap (λ k. words_behind c.args.set_up.now.known.names (made k values)) c.in-Empty.is)

pub returns-in-Short-clause-no_form : goal.returns-in-Short-clause-no_form
returns-in-Short-clause-no_form c = λ is.
    none_alone c.args.set_up.now.known c.args.keyword c.args.text.now (ap is_plain c.in-Short.is)
    (λ values.
    ap (λ k. words_behind c.args.set_up.now.known.names (made k values)) c.in-Short.is)

pub returns-in-Early-clause-no_form : goal.returns-in-Early-clause-no_form
returns-in-Early-clause-no_form c = λ is.
    none_alone c.args.set_up.now.known c.args.keyword c.args.text.now (ap is_plain c.in-Early.is)
    (λ values.
    ap (λ k. words_behind c.args.set_up.now.known.names (made k values)) c.in-Early.is)

pub returns-in-NoStep-clause-no_form : goal.returns-in-NoStep-clause-no_form
returns-in-NoStep-clause-no_form c = λ is.
    none_alone c.args.set_up.now.known c.args.keyword c.args.text.now (ap is_plain c.in-NoStep.is)
    (λ values.
    ap (λ k. words_behind c.args.set_up.now.known.names (made k values)) c.in-NoStep.is)

pub returns-in-End-clause-no_form : goal.returns-in-End-clause-no_form
returns-in-End-clause-no_form c = λ is.
    none_alone c.args.set_up.now.known c.args.keyword c.args.text.now (ap is_plain c.in-End.is)
    (λ values.
    ap (λ k. words_behind c.args.set_up.now.known.names (made k values)) c.in-End.is)
