use Rattle.std.proofs.Common.{◌≡◌, ◌+◌, suc, [], arith, subst}
use Rattle.fabric_trace.specs.Fold.{seen}
use Rattle.fabric_ports.specs.OwnRegisters.{with_standards}
use Rattle.fabric_ports.specs.Standing.{Stands}
use Rattle.fabric_ports.proofs.StandardLaws.{stands_here, next_device, all_stand}
use Rattle.fabric_ports.proofs.fabric.Fabric.show_all_standard.Goals as goal

pub loop-place-init : goal.loop-place-init
loop-place-init c = λ from lines stands. stands_here stands

pub show_standard_at-requires : goal.show_standard_at-requires
show_standard_at-requires c =
    let known = c.requires.stands in
    record {
      device = next_device c.loop-place.place known.2
          (c.loop-place.invariant known.0 known.1 known.2)
          (omega (
            arith,
            c.len-place-end.ensures,
            c.loop-place-test.true,
            c.args.self.now.devices.ok.0,
          ));
    }

pub loop-place-preserved : goal.loop-place-preserved
loop-place-preserved c = λ from lines stands.
    let next : suc c.loop-place.place ≡ c.loop-place.place + 1 = omega arith in
    subst (λ n. Stands (with_standards n (seen from lines)) [] c.show_standard_at.new.self) next
    (c.show_standard_at.ensures (with_standards c.loop-place.place (seen from lines)) []
    (c.loop-place.invariant from lines stands))

pub returns : goal.returns
returns c = λ from lines stands.
    all_stand c.loop-place.place stands (c.loop-place.invariant from lines stands)
    (omega (
      arith,
      c.len-place-end.ensures,
      c.loop-place-test.false,
      c.args.self.now.devices.ok.0,
    ))
