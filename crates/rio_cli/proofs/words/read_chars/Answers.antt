use Rattle.std.proofs.Common.{arith}
use Rattle.rio_cli.proofs.WordLaws.{few_chars}
use Rattle.rio_cli.proofs.words.read_chars.Goals as goal

pub returns-then-branch-clause-count : goal.returns-then-branch-clause-count
returns-then-branch-clause-count c =
    let spelled = c.in_ok-read_blocks.ensures c.if-branch.true in
    let few = few_chars c.args.bytes.now c.read_blocks.new.chars.items spelled in
    omega (arith, c.requires)
