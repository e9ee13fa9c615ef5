use Rattle.std.proofs.Common.{◌≤◌, length, take, arith}
use Rattle.std.proofs.lemmas.List.{length-take-le}
use Rattle.rio_framer.proofs.PartLaws.{part-run, TakesBytes-fewer}
use Rattle.rio_framer.proofs.framer.Framer.add_data.Goals as goal

pub returns : goal.returns
returns c =
    let from = c.args.self.now.place in
    let count = c.copy_data-count.result in
    let bytes = c.copy_data-count.new.bytes in
    let copied = c.copy_data-count.ensures in
    let fits : count ≤ length bytes = omega (arith, copied.most, copied.len, c.requires.most) in
    part-run from.text from.pending count (take count bytes) c.args.chars.now c.add_bytes.new.self
    (copied.some c.requires.some c.requires.starts)
    (TakesBytes-fewer from.text from.pending count c.args.room c.requires.takes copied.most)
    (length-take-le count bytes fits) copied.is c.add_bytes.ensures
