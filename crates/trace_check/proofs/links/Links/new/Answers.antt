use Rattle.std.proofs.Common.{◌≡◌, take, List, subst, rules, arith}
use Rattle.std.proofs.lemmas.List.{take_all}
use Rattle.fabric_script.specs.declared.lines.Numbered.{Numbered}
use Rattle.fabric_trace.specs.Runs.{bare, set_up_all}
use Rattle.trace_check.specs.Starting.{AreJoined, net_of}
use Rattle.trace_check.proofs.BuildLaws.{joined_bare, links_of}
use Rattle.trace_check.proofs.StartLaws.{next_may, on_next, nodes_named}
use Rattle.trace_check.proofs.links.Links.new.Goals as goal

pub loop-numbered-init : goal.loop-numbered-init
loop-numbered-init c = joined_bare (record { peers = c.new.result }) (search rules)

pub add-requires : goal.add-requires
add-requires c = record {
  net = set_up_all bare (take c.loop-numbered.numbered-index c.args.set_up.now.lines);
  joined = c.loop-numbered.invariant;
  may =
      next_may c.args.set_up.now.known.names c.args.set_up.now.lines c.loop-numbered.numbered-index
      c.numbered-item.result c.requires (search (rules, arith)) (search rules);
}

pub loop-numbered-preserved : goal.loop-numbered-preserved
loop-numbered-preserved c =
    on_next (λ net. AreJoined net c.loop-numbered.links) (λ net. AreJoined net c.add.new.self)
    c.args.set_up.now.known.names c.args.set_up.now.lines c.loop-numbered.numbered-index
    c.numbered-item.result c.requires (search (rules, arith)) (search rules)
    c.loop-numbered.invariant c.in_ok-add.ensures

pub returns : goal.returns
returns c =
    let set_up = c.args.set_up.now in
    let kept = c.loop-numbered.links in
    let all : take c.loop-numbered.numbered-index set_up.lines ≡ set_up.lines
    = take_all c.loop-numbered.numbered-index set_up.lines (search (rules, arith)) in
    let joined : AreJoined (net_of set_up) kept = subst
    (λ (lines : List Numbered). AreJoined (set_up_all bare lines) kept) all
    c.loop-numbered.invariant in
    links_of (nodes_named set_up.known.names set_up.lines c.requires) joined
