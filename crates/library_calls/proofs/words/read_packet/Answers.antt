use Rattle.std.proofs.Common.{refl}
use Rattle.rio_packets.proofs.CarriesLaws.{carried-none}
use Rattle.library_calls.proofs.words.read_packet.Goals as goal

pub returns-in_default : goal.returns-in_default
returns-in_default c = ((carried-none c.args.bytes.now).0 c.in_default.ensures.none, refl)
