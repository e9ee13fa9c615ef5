use Rattle.std.proofs.Common.{sym, ap, ◌∙◌}
use Rattle.link_model.specs.Prelude.{place_start, place_after, said}
use Rattle.link_port.specs.Turns.{Burst}
use Rattle.link_port.proofs.SentReads.{tell_read}
use Rattle.link_port.proofs.port.Port.tell.Goals as goal

pub returns-clause-chars : goal.returns-clause-chars
returns-clause-chars c =
    c.burst.ensures.chars ∙ ap (λ (s : Burst). s.chars) c.told.ensures.sends

pub returns-clause-sent : goal.returns-clause-sent
returns-clause-sent c =
    c.burst.ensures.sent ∙ ap (λ (s : Burst). s.sent) c.told.ensures.sends

pub returns-clause-read : goal.returns-clause-read
returns-clause-read c =
    ap (said place_start) (returns-clause-chars c)
    ∙ (tell_read c.args.self.now c.bounds.ensures).says
    ∙ sym (returns-clause-sent c)

pub returns-clause-rests : goal.returns-clause-rests
returns-clause-rests c =
    ap (place_after place_start) (returns-clause-chars c)
    ∙ (tell_read c.args.self.now c.bounds.ensures).rests
