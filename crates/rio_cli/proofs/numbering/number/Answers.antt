use Rattle.std.proofs.Common.{ℕ, ◌++◌, codes, Err, subst}
use Rattle.host_enumerate.specs.MapTexts.{map_text, locked_text}
use Rattle.rio_cli.specs.declared.status.Status.TheVariants.{Done, Locked}
use Rattle.rio_cli.specs.Answers.{Answers}
use Rattle.rio_cli.specs.Numbering.{Maps}
use Rattle.rio_cli.proofs.NumberingLaws.{says_map, says_lock}
use Rattle.rio_cli.proofs.numbering.number.Goals as goal

pub returns-in-Ok-ask_devices-clause-says : goal.returns-in-Ok-ask_devices-clause-says
returns-in-Ok-ask_devices-clause-says g c =
    let script = c.args.script.now in
    let asked = c.in-Ok-ask_devices in
    let devices = asked.map.devices.items in
    let entries = asked.map.entries.items in
    says_map script.names.items script.lines.items c.args.host c.tell_map.result _ _ _ _ _
    asked.ensures.maps.0 asked.ensures.maps.1 devices entries asked.ensures.maps.2
    (subst (λ (before : ℕ). Answers c.tell_map.result Done
    (map_text devices entries ++ codes "end\n") (g.K.Sink.written c.ask_devices.new.sink) before
    (g.K.Sink.written c.tell_map.new.sink) (g.K.Sink.faults c.tell_map.new.sink))
    (asked.ensures.counts (λ fault. cc)) c.tell_map.ensures.answers)

pub returns-in-Err-LockedBy-clause-says : goal.returns-in-Err-LockedBy-clause-says
returns-in-Err-LockedBy-clause-says g c =
    let script = c.args.script.now in
    let lock = c.in-Err-LockedBy in
    let maps = subst (λ end. Maps script.names.items script.lines.items c.args.host
    (g.K.Sink.written c.args.sink.now) (g.K.Sink.written c.ask_devices.new.sink) (Err end))
    lock.field-0-is lock.ensures.maps in
    says_lock script.names.items script.lines.items c.args.host c.tell_lock.result _ _ _ _ _
    maps.0 maps.1 lock.path lock.id maps.2
    (subst (λ path. Answers c.tell_lock.result Locked (locked_text path lock.id)
    (g.K.Sink.written c.ask_devices.new.sink) (g.K.Sink.faults c.args.sink.now)
    (g.K.Sink.written c.tell_lock.new.sink) (g.K.Sink.faults c.tell_lock.new.sink))
    c.as_slice.ensures
    (subst (λ (before : ℕ). Answers c.tell_lock.result Locked
    (locked_text c.as_slice.result.now lock.id) (g.K.Sink.written c.ask_devices.new.sink) before
    (g.K.Sink.written c.tell_lock.new.sink) (g.K.Sink.faults c.tell_lock.new.sink))
    (lock.ensures.counts (λ fault. cc)) c.tell_lock.ensures.answers))
