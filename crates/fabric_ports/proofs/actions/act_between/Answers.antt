use Rattle.fabric_ports.proofs.actions.act_between.Goals as goal

pub act_at-requires-clause-sound : goal.act_at-requires-clause-sound
act_at-requires-clause-sound g c =
    c.requires.sound c.two-a.result.0.now c.two-a.result.1.now c.two-a.ensures.first
    c.two-a.ensures.second
