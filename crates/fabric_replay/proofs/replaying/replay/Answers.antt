use Rattle.std.proofs.KnownBytes.{Appends-nil}
use Rattle.fabric_replay.proofs.Writing.{nothing_front}
use Rattle.fabric_replay.proofs.replaying.replay.Goals as goal

pub returns-in_err-fabric-clause-no_memory : goal.returns-in_err-fabric-clause-no_memory
returns-in_err-fabric-clause-no_memory g c = λ is. nothing_front c.args.script.now.names.items
    c.args.script.now.lines.items _ _ c.requires.passes (Appends-nil _)
