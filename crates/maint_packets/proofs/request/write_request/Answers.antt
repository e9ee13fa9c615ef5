use Rattle.maint_packets.proofs.RequestLaws.{form-write, read_back, is_bytes}
use Rattle.maint_packets.proofs.request.write_request.Goals as goal

pub returns-in-Write-clause-form : goal.returns-in-Write-clause-form
returns-in-Write-clause-form c =
    form-write c.args.request.now c.packet_of-in-Write.result c.in-Write.value c.in_half.result
    c.in_half.ensures c.in-Write.is c.packet_of-in-Write.ensures

pub returns-in-Write-clause-read_back : goal.returns-in-Write-clause-read_back
returns-in-Write-clause-read_back c =
    read_back c.args.request.now c.packet_of-in-Write.result c.requires.prio c.requires.op
    (returns-in-Write-clause-form c)

pub returns-in-Read-clause-form : goal.returns-in-Read-clause-form
returns-in-Read-clause-form c = rw c.in-Read.is c.packet_of.ensures

pub returns-in-Read-clause-read_back : goal.returns-in-Read-clause-read_back
returns-in-Read-clause-read_back c =
    read_back c.args.request.now c.packet_of.result c.requires.prio c.requires.op
    (returns-in-Read-clause-form c)

pub returns-in-Write-clause-value : goal.returns-in-Write-clause-value
returns-in-Write-clause-value c =
    is_bytes c.args.request.now c.packet_of-in-Write.result c.requires.prio
    (returns-in-Write-clause-form c)

pub returns-in-Read-clause-value : goal.returns-in-Read-clause-value
returns-in-Read-clause-value c = is_bytes c.args.request.now c.packet_of.result c.requires.prio
    (returns-in-Read-clause-form c)
