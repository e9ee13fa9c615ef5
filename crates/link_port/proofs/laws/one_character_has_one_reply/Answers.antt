use Rattle.link_port.specs.Steps.{after_hearing}
use Rattle.link_port.proofs.ReplyLaws.{one_reply, start_or_end_has_none}
use Rattle.link_port.proofs.laws.one_character_has_one_reply.Goals as goal

pub returns-clause-one : goal.returns-clause-one
returns-clause-one c = one_reply

pub returns-clause-start_or_end : goal.returns-clause-start_or_end
returns-clause-start_or_end c port symbol ends =
    start_or_end_has_none (after_hearing port symbol).input symbol.s1 symbol.cmd ends
