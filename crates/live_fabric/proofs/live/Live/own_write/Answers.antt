use Rattle.std.proofs.Common.{refl}
use Rattle.maint_registers.specs.Access.{written_at}
use Rattle.fabric_ports.specs.OwnRegisters.{seen_with}
use Rattle.live_fabric.specs.Lines.{seen_so_far, taken_anew}
use Rattle.live_fabric.proofs.AnewLaws.{device_of, own_board, anew_holds}
use Rattle.live_fabric.proofs.CountLaws.{own_counts}
use Rattle.live_fabric.proofs.live.Live.own_write.Goals as goal

pub returns : goal.returns
returns c = λ taken holds endpoint.
    let node = c.args.node in
    let offset = c.args.offset in
    let value = c.args.value in
    let s = seen_so_far taken in
    let device = device_of s node endpoint in
    let written = c.register_write-written.ensures taken.from taken.trace device.0
    (c.in_ok-fabric.ensures.stands taken holds) device.1 in
    let next = seen_with node device.0 offset value s in (
      taken_anew taken next,
      record {
        device = device.0;
        is = device.1;
        says = c.write_said.ensures (written_at device.0 offset value) written.exact;
        then = refl;
      },
      anew_holds c.args.self.now c.take_fabric.new.self c.put_fabric.new.self taken next
          c.register_write-written.new.self holds c.take_fabric.ensures.text
          c.take_fabric.ensures.set_up c.take_fabric.ensures.facing c.put_fabric.ensures
          (own_board s node device.0 offset value device.1)
          (own_counts s node device.0 offset value device.1) written.stands,
    )
