use Rattle.std.proofs.Common.{◌<◌, ap, ◌∙◌, sym, subst}
use Rattle.fabric_map.specs.Plain.{topology_of, registers_of}
use Rattle.fabric_map.specs.Routes.{AllRegisters}
use Rattle.fabric_map.specs.Topology.{Topology}
use Rattle.host_enumerate.specs.Devised.{devices_of, links_of}
use Rattle.host_enumerate.specs.Underway.{AreUntagged}
use Rattle.fabric_maint.specs.Going.{registers_in}
use Rattle.fabric_maint.specs.declared.maint.FabricMaint.{FabricMaint}
use Rattle.fabric_maint.proofs.Starting.{rests_new}
use Rattle.fabric_maint.proofs.Making.{devices_here, new_here, new_stands}
use Rattle.fabric_maint.proofs.maint.FabricMaint.new.Goals as goal

pub resting-requires : goal.resting-requires
resting-requires g c = record {
  stands = new_stands c.args.script.now.names.items c.args.script.now.lines.items c.args.host
      c.args.fabric.now c.requires.passes c.requires.host c.requires.stands c.requires.named;
}

pub returns-clause-registers : goal.returns-clause-registers
returns-clause-registers g c =
    c.resting.ensures.registers
    ∙ ap registers_of
    (devices_here c.args.script.now.names.items c.args.script.now.lines.items c.args.host
    c.args.fabric.now c.requires.passes c.requires.host c.requires.stands c.requires.named)

pub returns-clause-untagged : goal.returns-clause-untagged
returns-clause-untagged g c =
    let made : FabricMaint g.row.N.Denot g.row.K.Denot = c.resting.result in
    let lines = c.args.script.now.lines.items in
    let new = new_here c.args.script.now.names.items lines c.args.host c.args.fabric.now
    c.requires.passes c.requires.host c.requires.stands c.requires.named in
    subst (λ (t : Topology). AreUntagged t (registers_in made)) (sym c.resting.ensures.topology)
    (subst (AreUntagged (topology_of (devices_of lines) (links_of lines) c.args.host))
    (sym (returns-clause-registers g c)) new.untagged)

pub returns-clause-host_has_id : goal.returns-clause-host_has_id
returns-clause-host_has_id g c =
    let made : FabricMaint g.row.N.Denot g.row.K.Denot = c.resting.result in
    subst (λ (t : Topology). (registers_in made t.host).base_id < 255)
    (sym c.resting.ensures.topology)
    (subst (λ (r : AllRegisters). (r c.args.host).base_id < 255)
    (sym (returns-clause-registers g c)) c.requires.host.has_id)

pub returns-clause-rests : goal.returns-clause-rests
returns-clause-rests g c =
    rw c.resting.ensures.fabric_is
    (rests_new c.args.script.now.names.items c.args.script.now.lines.items c.args.host
    c.args.fabric.now c.requires.passes c.requires.host c.requires.stands)
