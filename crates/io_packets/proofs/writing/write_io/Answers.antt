use Rattle.std.proofs.Common.{◌∙◌}
use Rattle.io_packets.proofs.WriteLaws.{reads_back, is_bytes, form_of}
use Rattle.io_packets.proofs.writing.write_io.Goals as goal

pub returns-clause-form : goal.returns-clause-form
returns-clause-form c =
    form_of c.args.prio c.args.dest c.args.source c.from.result c.from-2.result c.ftype.result
    c.as_slice.result.now c.args.io.now c.in-Ok.packet c.from.ensures c.from-2.ensures
    c.ftype.ensures.value
    (c.as_slice.ensures.value ∙ c.behind_ids-rest.ensures.value) c.in-Ok.ensures.ok

pub returns-clause-value : goal.returns-clause-value
returns-clause-value c =
    is_bytes c.args.prio c.args.dest c.args.source c.args.io.now c.in-Ok.packet
    (returns-clause-form c)

pub returns-clause-read_back : goal.returns-clause-read_back
returns-clause-read_back c =
    reads_back c.args.prio c.args.dest c.args.source c.args.io.now c.in-Ok.packet
    c.requires.prio c.requires.good (returns-clause-form c)
