use Rattle.std.proofs.Common.{Err, ap, inl, refl}
use Rattle.rio_cli.specs.declared.command.Command.TheVariants.{Decode}
use Rattle.rio_cli.proofs.AnswerLaws.{says_line}
use Rattle.rio_cli.proofs.DecodeLaws.{decodes, decodes_front}
use Rattle.rio_cli.proofs.top.decode_bytes.Goals as goal

pub returns-in-Ok-decode_chars-clause-says : goal.returns-in-Ok-decode_chars-clause-says
returns-in-Ok-decode_chars-clause-says g c =
    rw c.ended.ensures (decodes c.args.bytes.now c.in-Ok.chars.items c.as_slice.result.now
    c.in-Ok.ensures.chars c.as_slice.ensures.value c.in-Ok-decode_chars.ensures.done)

pub returns-in-Err-WriteFault-clause-says : goal.returns-in-Err-WriteFault-clause-says
returns-in-Err-WriteFault-clause-says g c =
    let told = c.in-Err-WriteFault.ensures.write_fault (ap Err c.in-Err-WriteFault.field-0-is) in
    rw c.ended-in-Err-WriteFault.ensures (
      told.0,
      inl (decodes_front c.args.bytes.now c.in-Ok.chars.items c.as_slice.result.now
          c.in-Ok.ensures.chars c.as_slice.ensures.value told.1),
    )

pub returns-in-Err-BadWord-clause-says : goal.returns-in-Err-BadWord-clause-says
returns-in-Err-BadWord-clause-says g c =
    let bad =
    c.in-Err-BadWord.ensures.bad c.in-Err-BadWord.line (ap Err c.in-Err-BadWord.field-0-is) in
    says_line Decode c.args.bytes.now c.refuse_line.result.status c.in-Err-BadWord.line 1 _ _ _ _
    (bad, refl) c.refuse_line.ensures.refused
