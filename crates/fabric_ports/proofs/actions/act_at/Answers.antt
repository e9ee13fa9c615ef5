use Rattle.link_machine.specs.States.{link}
use Rattle.link_law.specs.Does.{end_of}
use Rattle.fabric_ports.specs.Acting.{part_of}
use Rattle.fabric_ports.proofs.ActLaws.{acts_end, turns_come, turns_end, fire_comes, fire_ends, delivery_comes, delivery_ends}
use Rattle.fabric_ports.proofs.actions.act_at.Goals as goal

pub returns-in_ok-pump-in-Pump-clause-acts : goal.returns-in_ok-pump-in-Pump-clause-acts
returns-in_ok-pump-in-Pump-clause-acts g c =
    turns_come g.W.Watch.grew c.args.side c.args.action c.in-Pump.turns
    (link c.args.wires.now c.args.a.now c.args.b.now)
    (link c.pump.new.self c.pump.new.a c.pump.new.b)
    c.args.watch.now c.pump.new.watch c.in-Pump.is c.in_ok-pump-in-Pump.ensures.link
    c.in_ok-pump-in-Pump.ensures.noted

pub returns-in_err-pump-in-Pump-clause-acts : goal.returns-in_err-pump-in-Pump-clause-acts
returns-in_err-pump-in-Pump-clause-acts g c =
    acts_end g.W.Watch.grew g.W.Watch.cut (part_of c.args.side c.args.action)
    (link c.args.wires.now c.args.a.now c.args.b.now) c.args.watch.now c.from_residual.result
    (end_of c.in_err-pump-in-Pump.field-0.0) (link c.pump.new.self c.pump.new.a c.pump.new.b)
    c.pump.new.watch c.from_residual.ensures.1
    (turns_end g.W.Watch.grew g.W.Watch.cut c.args.side c.args.action c.in-Pump.turns
    (link c.args.wires.now c.args.a.now c.args.b.now)
    c.args.watch.now c.pump.new.watch c.in_err-pump-in-Pump.field-0.0 c.in-Pump.is
    c.in_err-pump-in-Pump.ensures.stopped)

pub returns-in-Done-clause-acts : goal.returns-in-Done-clause-acts
returns-in-Done-clause-acts g c =
    delivery_comes g.W.Watch.grew c.args.side c.args.action c.in-Deliver.count
    (link c.args.wires.now c.args.a.now c.args.b.now)
    (link c.deliver.new.self c.deliver.new.a c.deliver.new.b)
    c.args.watch.now c.deliver.new.watch _ c.in-Deliver.is
    c.in_ok-deliver-in-Deliver.ensures.answer c.in_ok-deliver-in-Deliver.ensures.link
    c.in_ok-deliver-in-Deliver.ensures.noted

pub returns-in-Short-clause-acts : goal.returns-in-Short-clause-acts
returns-in-Short-clause-acts g c =
    delivery_comes g.W.Watch.grew c.args.side c.args.action c.in-Deliver.count
    (link c.args.wires.now c.args.a.now c.args.b.now)
    (link c.deliver.new.self c.deliver.new.a c.deliver.new.b)
    c.args.watch.now c.deliver.new.watch _ c.in-Deliver.is
    c.in_ok-deliver-in-Deliver.ensures.answer c.in_ok-deliver-in-Deliver.ensures.link
    c.in_ok-deliver-in-Deliver.ensures.noted

pub returns-in_err-deliver-in-Deliver-clause-acts :
    goal.returns-in_err-deliver-in-Deliver-clause-acts
returns-in_err-deliver-in-Deliver-clause-acts g c =
    acts_end g.W.Watch.grew g.W.Watch.cut (part_of c.args.side c.args.action)
    (link c.args.wires.now c.args.a.now c.args.b.now) c.args.watch.now
    c.from_residual-in_err-deliver-in-Deliver.result c.in_err-deliver-in-Deliver.field-0.0
    (link c.deliver.new.self c.deliver.new.a c.deliver.new.b) c.deliver.new.watch
    c.from_residual-in_err-deliver-in-Deliver.ensures.1
    (delivery_ends g.W.Watch.grew g.W.Watch.cut c.args.side c.args.action c.in-Deliver.count
    (link c.args.wires.now c.args.a.now c.args.b.now)
    c.args.watch.now c.deliver.new.watch c.in_err-deliver-in-Deliver.field-0.0 c.in-Deliver.is
    c.in_err-deliver-in-Deliver.ensures.answer c.in_err-deliver-in-Deliver.ensures.noted
    c.in_err-deliver-in-Deliver.ensures.stopped)

pub returns-in-Done-2-clause-acts : goal.returns-in-Done-2-clause-acts
returns-in-Done-2-clause-acts g c =
    fire_comes g.W.Watch.grew c.args.side c.args.action
    (link c.args.wires.now c.args.a.now c.args.b.now)
    (link c.time_out.new.self c.time_out.new.a c.time_out.new.b)
    c.args.watch.now c.time_out.new.watch c.in-TimeOut.is c.in_ok-time_out-in-TimeOut.ensures.link
    c.in_ok-time_out-in-TimeOut.ensures.noted

pub returns-in-Early-clause-acts : goal.returns-in-Early-clause-acts
returns-in-Early-clause-acts g c =
    fire_comes g.W.Watch.grew c.args.side c.args.action
    (link c.args.wires.now c.args.a.now c.args.b.now)
    (link c.time_out.new.self c.time_out.new.a c.time_out.new.b)
    c.args.watch.now c.time_out.new.watch c.in-TimeOut.is c.in_ok-time_out-in-TimeOut.ensures.link
    c.in_ok-time_out-in-TimeOut.ensures.noted

pub returns-in_err-time_out-in-TimeOut-clause-acts :
    goal.returns-in_err-time_out-in-TimeOut-clause-acts
returns-in_err-time_out-in-TimeOut-clause-acts g c =
    acts_end g.W.Watch.grew g.W.Watch.cut (part_of c.args.side c.args.action)
    (link c.args.wires.now c.args.a.now c.args.b.now) c.args.watch.now
    c.from_residual-in_err-time_out-in-TimeOut.result
    (end_of c.in_err-time_out-in-TimeOut.field-0.0)
    (link c.time_out.new.self c.time_out.new.a c.time_out.new.b) c.time_out.new.watch
    c.from_residual-in_err-time_out-in-TimeOut.ensures.1
    (fire_ends g.W.Watch.grew g.W.Watch.cut c.args.side c.args.action
    (link c.args.wires.now c.args.a.now c.args.b.now)
    c.args.watch.now c.time_out.new.watch c.in_err-time_out-in-TimeOut.field-0.0 c.in-TimeOut.is
    c.in_err-time_out-in-TimeOut.ensures.stopped)
