use Rattle.rio_packets.proofs.CarriesLaws.{Carries-from_carried, carried-from_Carries, carried-none}
use Rattle.rio_packets.proofs.laws.carried_is_exact.Goals as goal

pub returns-clause-found : goal.returns-clause-found
returns-clause-found c =
    λ bytes ack packet.
    (Carries-from_carried bytes ack packet, carried-from_Carries bytes ack packet)

pub returns-clause-none : goal.returns-clause-none
returns-clause-none c = carried-none
