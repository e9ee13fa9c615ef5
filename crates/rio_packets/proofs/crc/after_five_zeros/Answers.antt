use Rattle.std.proofs.Common.{get_or, ap, ◌∙◌, arith}
use Rattle.rio_packets.specs.declared.tables.TheConstants.{AFTER_FIVE_ZEROS}
use Rattle.rio_packets.proofs.TableLaws.{entry_five}
use Rattle.rio_packets.proofs.crc.after_five_zeros.Goals as goal

pub returns : goal.returns
returns c =
    ap (λ n. get_or AFTER_FIVE_ZEROS n 0) c.from.ensures ∙ entry_five c.args.byte (omega arith)
