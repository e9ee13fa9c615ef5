use Rattle.std.proofs.Common.{◌≡◌, ◌<◌, length, refl, arith}
use Rattle.fabric_trace.specs.Fold.{seen}
use Rattle.fabric_ports.proofs.CarriedLaws.{left_so}
use Rattle.fabric_ports.proofs.StirLaws.{stir_empty, stir_none, stir_some}
use Rattle.fabric_ports.proofs.fabric.Fabric.stir.Goals as goal

pub returns-then-length-eq0 : goal.returns-then-length-eq0
returns-then-length-eq0 g c = λ from lines stands.
    let test = c.if-length-eq0.true in
    let same = c.length-length.ensures from lines stands in
    let none : length ((seen from lines).wires c.args.port).chars ≡ 0 =
    omega (arith, test, same) in
    stir_empty c.args.port _ _ _ refl none stands

pub returns-in-Some : goal.returns-in-Some
returns-in-Some g c = λ from lines stands.
    let test = c.if-length-eq0.false in
    let same = c.length-length.ensures from lines stands in
    let some : 0 < length ((seen from lines).wires c.args.port).chars =
    omega (arith, test, same) in
    left_so c.edit_aloud.result _ _ (stir_some c.args.port _ _ c.in-Some.edit c.in-Some.ensures some
    (c.edit_aloud.ensures from lines stands))

pub returns-in-None : goal.returns-in-None
returns-in-None g c = λ from lines stands. stir_none c.args.port _ _ _ c.in-None.ensures stands
