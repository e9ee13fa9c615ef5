use Rattle.std.proofs.Common.{◌+◌, ◌++◌, ◌∙◌, ap, take, drop, arith}
use Rattle.std.proofs.lemmas.Slice.{between_is}
use Rattle.link_wires.proofs.QueueLaws.{put_between}
use Rattle.link_wires.proofs.queue.move_block.Goals as goal

pub returns : goal.returns
returns c =
    let chars = c.args.chars.now in
    let start = c.args.start in
    let end = c.args.end in
    let by = c.args.by in
    put_between chars c.copy_from_slice-2.new.self (start + by) (end + by)
    (omega (arith, c.requires.order))
    ∙ ap (λ part. take (start + by) chars ++ (part ++ drop (end + by) chars))
    (c.copy_from_slice-2.ensures.after ∙ c.copy_from_slice.ensures.after
    ∙ between_is chars start end)
