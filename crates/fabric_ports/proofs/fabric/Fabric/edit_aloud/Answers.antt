use Rattle.fabric_ports.proofs.StirLaws.{edit_ran, edit_short}
use Rattle.fabric_ports.proofs.fabric.Fabric.edit_aloud.Goals as goal

pub returns-in-Ok : goal.returns-in-Ok
returns-in-Ok g c =
    edit_ran c.link_of-place.ensures
    c.index_mut-cable.ensures.value c.args.edit.now _ c.in-Ok.ensures.changed
    c.wake_link.ensures _ _ (c.write_edit.ensures _ c.in-Ok.ensures.short)

pub returns-in-Err : goal.returns-in-Err
returns-in-Err g c = λ from lines stands.
    edit_short c.args.port c.args.edit.now _ from lines
