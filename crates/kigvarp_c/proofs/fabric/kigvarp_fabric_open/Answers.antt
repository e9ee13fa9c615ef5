use Rattle.std.proofs.Common.{◌≡◌, [], subst, sym}
use Rattle.library_calls.specs.declared.status.CallStatus.TheVariants.{Done, NoMemory}
use Rattle.library_calls.specs.FabricsSeen.{IsOpenedFabric}
use Rattle.kigvarp_c.specs.Handles.{OpensFabric}
use Rattle.kigvarp_c.proofs.CallLaws.{no_items, opens_closed}
use Rattle.kigvarp_c.proofs.fabric.kigvarp_fabric_open.Goals as goal

pub returns-in_default-clause-opens : goal.returns-in_default-clause-opens
returns-in_default-clause-opens c =
    let fabrics = c.args.fabric.now.handle.fabrics in
    let none : fabrics ≡ [] = no_items fabrics _ c.requires.count c.if-fabric-ne0.false in
    opens_closed OpensFabric fabrics fabrics NoMemory _ none c.call_number-in_default.ensures none

pub returns-in_default-new-clause-opens : goal.returns-in_default-new-clause-opens
returns-in_default-new-clause-opens c =
    let fabrics = c.args.fabric.now.handle.fabrics in
    let none : fabrics ≡ [] = no_items fabrics _ c.requires.count c.if-fabric-ne0.false in
    opens_closed OpensFabric fabrics fabrics NoMemory _ none c.call_number-in_default-new.ensures
    none

pub returns-clause-opens : goal.returns-clause-opens
returns-clause-opens c =
    let fabrics = c.args.fabric.now.handle.fabrics in
    let none : fabrics ≡ [] = no_items fabrics _ c.requires.count c.if-fabric-ne0.false in
    opens_closed OpensFabric fabrics _ Done _ none c.call_number-2.ensures (
      c.in-Ok-new.opened.value,
      c.put_fabric.ensures.open,
      subst IsOpenedFabric (sym c.in-Ok-new.ensures.ok) c.in-Ok.ensures,
    )
