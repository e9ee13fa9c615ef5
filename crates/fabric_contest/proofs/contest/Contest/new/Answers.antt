use Rattle.std.proofs.Common.{◌≡◌, [], length, sym, ap, subst, ◌∙◌, rules}
use Rattle.fabric_map.specs.Plain.{registers_of}
use Rattle.fabric_trace.specs.Runs.{start}
use Rattle.fabric_ports.specs.Standing.{Stands}
use Rattle.fabric_ports.specs.declared.fabric.Fabric.{Fabric}
use Rattle.fabric_maint.specs.Going.{StandsFor}
use Rattle.fabric_maint.proofs.Making.{new_stands}
use Rattle.fabric_contest.specs.declared.contest.Contest.{Contest}
use Rattle.fabric_contest.proofs.Begun.{new_contest}
use Rattle.fabric_contest.proofs.Goings.{none_went_on}
use Rattle.fabric_contest.proofs.contest.Contest.new.Goals as goal

pub id_of-first_id-requires : goal.id_of-first_id-requires
id_of-first_id-requires c = record {
  stands = new_stands c.args.script.now.names.items c.args.script.now.lines.items c.args.first
      c.in_ok-fabric.fabric c.requires.passes c.requires.first c.in_ok-fabric.ensures.stands
      c.in_ok-fabric.ensures.named;
}

pub id_of-second_id-requires : goal.id_of-second_id-requires
id_of-second_id-requires c = record {
  stands = subst (λ (f : Fabric). StandsFor c.args.script.now.names.items
      c.args.script.now.lines.items c.args.second f) (sym c.id_of-first_id.ensures.same)
      (new_stands c.args.script.now.names.items c.args.script.now.lines.items c.args.second
      c.in_ok-fabric.fabric c.requires.passes c.requires.second c.in_ok-fabric.ensures.stands
      c.in_ok-fabric.ensures.named);
}

pub returns : goal.returns
returns c =
    let contest : Contest = record {
      fabric = c.id_of-second_id.new.fabric;
      script = c.args.script;
      first_node = c.args.first;
      second_node = c.args.second;
      first = c.new-2.result;
      second = c.new-3.result;
    } in
    let one = c.id_of-first_id.ensures.same in
    let same = c.id_of-second_id.ensures.same ∙ one in
    let new = new_contest contest c.requires.passes
    (subst (λ (f : Fabric). Stands (start c.args.script.now.lines.items) [] f) (sym same)
    c.in_ok-fabric.ensures.stands)
    (subst (λ (f : Fabric). length f.devices.items ≡ length c.args.script.now.names.items)
    (sym same) c.in_ok-fabric.ensures.named) c.requires.first c.requires.second c.requires.differ
    c.id_of-first_id.result c.id_of-second_id.result
    (c.id_of-first_id.ensures.id
    ∙ ap (λ (f : Fabric). (registers_of f.devices.items c.args.first).base_id) (sym same))
    (c.id_of-second_id.ensures.id
    ∙ ap (λ (f : Fabric). (registers_of f.devices.items c.args.second).base_id)
    (one ∙ sym same)) c.new-2.ensures.machine c.new-3.ensures.machine c.new-2.ensures.low
    c.new-3.ensures.low c.new-2.ensures.entries c.new-3.ensures.entries c.new-2.ensures.none
    c.new-3.ensures.none in
    record {
      both = new.both;
      can = new.can;
      lasts = search rules;
      goings = none_went_on contest c.new-2.ensures.none c.new-3.ensures.none;
    }
