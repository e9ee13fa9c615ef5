use Rattle.link_machine.proofs.Settling.Rounds.{round_is, told_round_is}
use Rattle.link_machine.proofs.rest_laws.rounds_pass_packets.Goals as goal

pub returns-clause-round : goal.returns-clause-round
returns-clause-round c = round_is

pub returns-clause-told : goal.returns-clause-told
returns-clause-told c = told_round_is
