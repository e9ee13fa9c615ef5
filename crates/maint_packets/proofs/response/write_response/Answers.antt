use Rattle.maint_packets.proofs.ResponseLaws.{read_back, is_bytes}
use Rattle.maint_packets.proofs.response.write_response.Goals as goal

pub returns-clause-form : goal.returns-clause-form
returns-clause-form c = rw c.type_of.ensures at c.built.ensures

pub returns-clause-read_back : goal.returns-clause-read_back
returns-clause-read_back c = read_back c.args.response.now c.built.result c.requires.prio
    c.requires.form (returns-clause-form c)

pub returns-clause-value : goal.returns-clause-value
returns-clause-value c = is_bytes c.args.response.now c.built.result c.requires.prio
    (returns-clause-form c)
