use Rattle.std.proofs.Common.{◌≡◌, ◌++◌, ℕ, List, OnOk, subst, sym}
use Rattle.rio_words.specs.BadWords.{IsCharsWhy}
use Rattle.rio_cli.specs.Messages.{IsWhyOf}
use Rattle.rio_cli.proofs.refusal.push_why_refused.Goals as goal

pub returns-in-Decode : goal.returns-in-Decode
returns-in-Decode c =
    let said = c.push_bad_word in
    subst (λ k. OnOk said.result ((why : List ℕ) × IsWhyOf k c.args.bytes.now c.args.line
    c.args.reason why × (said.new.message.items ≡ c.args.message.now.items ++ why)))
    (sym c.in-Decode.is)
    (subst (λ t. OnOk said.result ((why : List ℕ) × IsCharsWhy t why
    × (said.new.message.items ≡ c.args.message.now.items ++ why))) c.line_at-text.ensures
    said.ensures)

pub returns-in-Check : goal.returns-in-Check
returns-in-Check c =
    let said = c.push_why_checked in
    subst (λ k. OnOk said.result ((why : List ℕ) × IsWhyOf k c.args.bytes.now c.args.line
    c.args.reason why × (said.new.message.items ≡ c.args.message.now.items ++ why)))
    (sym c.in-Check.is) said.ensures
