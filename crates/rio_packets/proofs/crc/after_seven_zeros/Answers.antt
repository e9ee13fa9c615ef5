use Rattle.std.proofs.Common.{get_or, ap, ◌∙◌, arith}
use Rattle.rio_packets.specs.declared.tables.TheConstants.{AFTER_SEVEN_ZEROS}
use Rattle.rio_packets.proofs.TableLaws.{entry_seven}
use Rattle.rio_packets.proofs.crc.after_seven_zeros.Goals as goal

pub returns : goal.returns
returns c =
    ap (λ n. get_or AFTER_SEVEN_ZEROS n 0) c.from.ensures ∙ entry_seven c.args.byte (omega arith)
