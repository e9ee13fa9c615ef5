use Rattle.std.proofs.Common.{sym, ap, ◌∙◌}
use Rattle.check_words.specs.MisfitTexts.{misfit_text}
use Rattle.check_words.proofs.HintLaws.{hint-added}
use Rattle.check_words.proofs.misfit_texts.push_misfit.Goals as goal

pub returns-in_ok-text-in-Missing : goal.returns-in_ok-text-in-Missing
returns-in_ok-text-in-Missing c =
    hint-added c.extend_from_slice-in-Missing.result c.args.message.now.items
    c.extend_from_slice-in-Missing.new.self.items c.as_bytes.result.now
    (misfit_text c.args.misfit) c.extend_from_slice-in-Missing.ensures.items
    (c.as_bytes.ensures.value ∙ c.in_ok-text-in-Missing.ensures.ok
    ∙ ap misfit_text (sym c.in-Missing.is))

pub returns-in_ok-text-in-TooMany : goal.returns-in_ok-text-in-TooMany
returns-in_ok-text-in-TooMany c =
    hint-added c.extend_from_slice-in-TooMany.result c.args.message.now.items
    c.extend_from_slice-in-TooMany.new.self.items c.as_bytes-in-TooMany.result.now
    (misfit_text c.args.misfit) c.extend_from_slice-in-TooMany.ensures.items
    (c.as_bytes-in-TooMany.ensures.value ∙ c.in_ok-text-in-TooMany.ensures.ok
    ∙ ap misfit_text (sym c.in-TooMany.is))
