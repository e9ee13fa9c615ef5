use Rattle.fabric_ports.specs.OwnRegisters.{with_standard}
use Rattle.live_fabric.specs.Lines.{seen_so_far}
use Rattle.live_fabric.proofs.AnewLaws.{standard_board, anew_holds}
use Rattle.live_fabric.proofs.CountLaws.{standard_counts}
use Rattle.live_fabric.proofs.live.Live.show_standard.Goals as goal

pub returns : goal.returns
returns c = λ taken holds.
    anew_holds c.args.self.now c.take_fabric.new.self c.put_fabric.new.self taken
    (with_standard c.args.node (seen_so_far taken)) c.show_standard.new.self holds
    c.take_fabric.ensures.text c.take_fabric.ensures.set_up c.take_fabric.ensures.facing
    c.put_fabric.ensures (standard_board (seen_so_far taken) c.args.node)
    (standard_counts (seen_so_far taken) c.args.node)
    (c.show_standard.ensures taken.from taken.trace (c.in_ok-fabric.ensures.stands taken holds))
