use Rattle.std.proofs.Common.{ap, sym}
use Rattle.fabric_script.proofs.AdviceLaws.{done_is}
use Rattle.fabric_script.proofs.words.Words.is_done.Goals as goal

pub returns : goal.returns
returns c =
    done_is c.self.inside.rest c.args.self.now.words c.is_none.result
    (sym (ap (λ left. left.words) c.self.view_is)) c.is_none.ensures
