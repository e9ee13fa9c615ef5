use Rattle.check_words.proofs.FormLaws.{text-plain}
use Rattle.check_words.proofs.forms.push_bytes.Goals as goal

pub returns-then-branch : goal.returns-then-branch
returns-then-branch c =
    text-plain c.args.set_up.now.known c.args.text.now c.args.message.now.items
    c.push_plain.new.message.items c.in_ok-push_plain.field-0 c.if-branch.true
    c.in_ok-push_plain.ensures
