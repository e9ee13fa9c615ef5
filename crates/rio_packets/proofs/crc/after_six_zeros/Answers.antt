use Rattle.std.proofs.Common.{get_or, ap, ◌∙◌, arith}
use Rattle.rio_packets.specs.declared.tables.TheConstants.{AFTER_SIX_ZEROS}
use Rattle.rio_packets.proofs.TableLaws.{entry_six}
use Rattle.rio_packets.proofs.crc.after_six_zeros.Goals as goal

pub returns : goal.returns
returns c =
    ap (λ n. get_or AFTER_SIX_ZEROS n 0) c.from.ensures ∙ entry_six c.args.byte (omega arith)
