use Rattle.link_sound.proofs.Promises.{none_accepted, none_answered, none_sent}
use Rattle.link_sound.proofs.laws.what_is_not_sound.Goals as goal

pub returns-clause-acceptance : goal.returns-clause-acceptance
returns-clause-acceptance c tells_a tells_b m n s = none_accepted _ s.a_to_b

pub returns-clause-response : goal.returns-clause-response
returns-clause-response c tells_a tells_b m n s = none_answered _ s.a_to_b

pub returns-clause-packet : goal.returns-clause-packet
returns-clause-packet c tells_a tells_b m n packet s = none_sent packet s.a_to_b
