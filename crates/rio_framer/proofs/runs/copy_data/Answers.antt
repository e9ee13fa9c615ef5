use Rattle.std.proofs.Common.{rules}
use Rattle.link_model.specs.Prelude.{Data}
use Rattle.rio_framer.proofs.DataLaws.{copied-all, some-copied}
use Rattle.rio_framer.proofs.runs.copy_data.Goals as goal

pub returns-in_default : goal.returns-in_default
returns-in_default c =
    let i = c.loop-i.i in
    let chars = c.args.chars.now in
    record {
      most = search rules;
      len = search rules;
      is = copied-all c.loop-i.bytes chars i c.loop-i.invariant;
      some = λ room starts. some-copied i chars (Data 0) starts c.in_default.not-Data;
    }
