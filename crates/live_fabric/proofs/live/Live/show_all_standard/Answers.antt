use Rattle.std.proofs.Common.{length}
use Rattle.live_fabric.specs.Lines.{seen_so_far}
use Rattle.live_fabric.specs.OwnRegisters.{standard_everywhere}
use Rattle.live_fabric.proofs.AnewLaws.{standards_board, anew_holds}
use Rattle.live_fabric.proofs.CountLaws.{standards_counts}
use Rattle.live_fabric.proofs.live.Live.show_all_standard.Goals as goal

pub returns : goal.returns
returns c = λ taken holds.
    let s = seen_so_far taken in
    anew_holds c.args.self.now c.take_fabric.new.self c.put_fabric.new.self taken
    (standard_everywhere s) c.show_all_standard.new.self holds c.take_fabric.ensures.text
    c.take_fabric.ensures.set_up c.take_fabric.ensures.facing c.put_fabric.ensures
    (standards_board (length s.network.registers) s)
    (standards_counts (length s.network.registers) s)
    (c.show_all_standard.ensures taken.from taken.trace
    (c.in_ok-fabric.ensures.stands taken holds))
