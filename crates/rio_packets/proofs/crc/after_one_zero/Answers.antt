use Rattle.std.proofs.Common.{get_or, ap, ◌∙◌, arith}
use Rattle.rio_packets.specs.declared.tables.TheConstants.{AFTER_ONE_ZERO}
use Rattle.rio_packets.proofs.TableLaws.{entry_one}
use Rattle.rio_packets.proofs.crc.after_one_zero.Goals as goal

pub returns : goal.returns
returns c = ap (λ n. get_or AFTER_ONE_ZERO n 0) c.from.ensures ∙ entry_one c.args.byte (omega arith)
