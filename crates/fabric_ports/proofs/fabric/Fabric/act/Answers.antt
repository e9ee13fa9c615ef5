use Rattle.std.proofs.Common.{rules, refl}
use Rattle.fabric_ports.proofs.ActionLaws.{met, met_sound, act_done, act_ended, written_by}
use Rattle.fabric_ports.proofs.fabric.Fabric.act.Goals as goal

pub act_between-requires-clause-sound : goal.act_between-requires-clause-sound
act_between-requires-clause-sound g c = λ a b at_a at_b.
    met_sound a b
    (met c.link_of-place.ensures c.index_mut-cable.ensures.value c.deref_mut.ensures.value) at_a
    at_b c.requires.linked.stands

pub returns-in-Ok : goal.returns-in-Ok
returns-in-Ok g c =
    act_done c.args.action c.act_between.new.wires c.act_between.new.watch c.act_between.result
    (met c.link_of-place.ensures c.index_mut-cable.ensures.value c.deref_mut.ensures.value)
    c.act_between.ensures
    (record { outbox = refl; names = refl; first_end = refl; second_end = refl })
    c.wake_link.ensures c.in-Ok.answer
    c.in-Ok.is _ (written_by _ (search rules) c.write_lack.ensures)

pub returns-in-Err : goal.returns-in-Err
returns-in-Err g c = λ from lines stands.
    rw c.ended.ensures
    (act_ended c.args.action c.act_between.new.wires c.act_between.new.watch c.act_between.result
    (met c.link_of-place.ensures c.index_mut-cable.ensures.value c.deref_mut.ensures.value)
    c.act_between.ensures
    (record { outbox = refl; names = refl; first_end = refl; second_end = refl })
    c.wake_link.ensures c.in-Err.end
    c.in-Err.is from lines stands)
