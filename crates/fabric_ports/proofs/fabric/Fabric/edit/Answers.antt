use Rattle.fabric_ports.proofs.EditLaws.{edit_did}
use Rattle.fabric_ports.proofs.fabric.Fabric.edit.Goals as goal

pub returns-in-Ok-clause-done : goal.returns-in-Ok-clause-done
returns-in-Ok-clause-done g c =
    edit_did c.link_of-place.ensures c.index_mut-cable.ensures.value c.args.edit.now
    c.edit.new.self c.in-Ok.ensures.changed
    c.wake_link.ensures c.in-Ok.edited c.in-Ok.ensures.short c.args.writer.now _
    (rw c.as_acted.ensures at c.write_lack.ensures)
