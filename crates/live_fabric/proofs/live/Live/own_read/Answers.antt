use Rattle.std.proofs.Common.{refl, ap, ◌∙◌}
use Rattle.fabric_trace.proofs.Network.Boards.{same_board}
use Rattle.live_fabric.specs.Lines.{seen_so_far, taken_anew}
use Rattle.live_fabric.specs.OwnRegisters.{value_said}
use Rattle.live_fabric.proofs.AnewLaws.{device_of, stands_here, anew_holds}
use Rattle.live_fabric.proofs.live.Live.own_read.Goals as goal

pub returns : goal.returns
returns c = λ taken holds endpoint.
    let s = seen_so_far taken in
    let stands = c.in_ok-fabric.ensures.stands taken holds in
    let device = device_of s c.args.node endpoint in
    let read = c.register_read-value.ensures taken.from taken.trace device.0 stands device.1 in (
      taken_anew taken s,
      record {
        device = device.0;
        is = device.1;
        says = c.value_said.ensures ∙ ap value_said read;
        then = refl;
      },
      anew_holds c.args.self.now c.take_fabric.new.self c.put_fabric.new.self taken s
          c.in_ok-fabric.fabric holds c.take_fabric.ensures.text c.take_fabric.ensures.set_up
          c.take_fabric.ensures.facing c.put_fabric.ensures (same_board s.network s.network refl)
          refl
          (stands_here taken.from taken.trace c.in_ok-fabric.fabric stands),
    )
