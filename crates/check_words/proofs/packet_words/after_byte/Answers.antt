use Rattle.std.proofs.Common.{get_or, ap, ◌∙◌, arith}
use Rattle.rio_packets.specs.declared.tables.TheConstants.{CRC16_TABLE}
use Rattle.rio_packets.proofs.TableLaws.{entry_none}
use Rattle.check_words.proofs.packet_words.after_byte.Goals as goal

pub returns : goal.returns
returns c = ap (λ n. get_or CRC16_TABLE n 0) c.from.ensures ∙ entry_none c.args.byte (omega arith)
