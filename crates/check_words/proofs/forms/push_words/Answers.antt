use Rattle.check_words.proofs.FormLaws.{text-of_words}
use Rattle.check_words.proofs.forms.push_words.Goals as goal

pub returns : goal.returns
returns c =
    text-of_words c.args.set_up.now.known c.args.text.now c.push_misfit.result
    c.args.message.now.items c.push_misfit.new.message.items c.in_ok-misfit.misfit
    c.in_ok-misfit.ensures c.push_misfit.ensures
