use Rattle.library_calls.proofs.FabricOwnLaws.{own_written}
use Rattle.library_calls.proofs.fabric_own.own_access.Goals as goal

pub returns : goal.returns
returns c =
    own_written c.args.name.now c.args.access.now c.args.session.now c.own_write.new.self
    c.own_write.result c.if-access-eq0.false c.own_write.ensures
